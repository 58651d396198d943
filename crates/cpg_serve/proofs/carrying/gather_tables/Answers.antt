use Rattle.cpg_serve.proofs.Gathered.{tables_more}
use Rattle.cpg_serve.proofs.carrying.gather_tables.Goals as goal

pub loop-past-preserved : goal.loop-past-preserved
loop-past-preserved c = record {
  names = tables_more c.args.records.now c.loop-past.past-index c.past-item.result c.loop-past.names.keys c.note_table.new.names.keys c.loop-past-test.true c.past-item.is c.loop-past.invariant.names c.in_ok-note_table.ensures.ok;
}

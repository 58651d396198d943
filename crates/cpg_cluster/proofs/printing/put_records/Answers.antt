use Rattle.cpg_print.specs.Records.{audit_line}
use Rattle.cpg_cluster.proofs.Put.{known_put}
use Rattle.cpg_cluster.proofs.printing.put_records.Goals as goal

pub loop-index-preserved : goal.loop-index-preserved
loop-index-preserved c = known_put audit_line c.args.text.now.items c.loop-index.text.items c.put_audit.new.line.items c.args.seat.now c.loop-index.index c.known.result.now c.known.ensures c.loop-index.invariant c.in_ok-put_audit.ensures.ok

use Rattle.std.proofs.Common.{◌≡◌, take}
use Rattle.cpg_serve.specs.Carrying.{tables_in}
use Rattle.cpg_serve.proofs.carrying.gather_tables.Given as goal

abbrev pub invariant-loop-past : goal.invariant-loop-past
invariant-loop-past l = record {
  names : l.names.keys ≡ tables_in (take l.past-index l.records);
}

use Rattle.std.proofs.Common.{◌≡◌, drop, reverse}
use Rattle.cpg_record.specs.Membership.{memberships}
use Rattle.cpg_serve.specs.Carrying.{AreEnded}
use Rattle.cpg_serve.proofs.carrying.gather.Given as goal

abbrev pub invariant-loop-index : goal.invariant-loop-index
invariant-loop-index l = record {
  put : l.all.items ≡ reverse (memberships (drop l.index l.records));
  known : AreEnded l.ended.keys (drop l.index l.records);
}

use Rattle.std.proofs.Common.{◌≡◌, take}
use Rattle.cpg_record.specs.Judging.{entries_of, AreJudged}
use Rattle.cpg_group.proofs.verifying.verify.Given as goal

abbrev pub invariant-loop-past : goal.invariant-loop-past
invariant-loop-past l = record {
  seen : l.policy ≡ entries_of (take l.past-index l.records);
  sound : AreJudged (take l.past-index l.records);
}

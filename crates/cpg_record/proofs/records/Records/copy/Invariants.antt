use Rattle.std.proofs.Common.{◌≡◌, take}
use Rattle.cpg_record.proofs.records.Records.copy.Given as goal

abbrev pub invariant-loop-past : goal.invariant-loop-past
invariant-loop-past l = l.copy ≡ take l.past-index l.past-items

use Rattle.std.proofs.Common.{◌≡◌, take}
use Rattle.cpg_record.specs.Judging.{entries_of}
use Rattle.cpg_why.proofs.audits.copy_entries.Given as goal

abbrev pub invariant-loop-past : goal.invariant-loop-past
invariant-loop-past l = l.entries.items ≡ entries_of (take l.past-index l.records)

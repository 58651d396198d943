use Rattle.cpg_record.specs.Judging.{judged}
use Rattle.cpg_why.proofs.Counted.{Before}
use Rattle.cpg_why.proofs.inboxes.find_told.Given as goal

abbrev pub invariant-loop-before : goal.invariant-loop-before
invariant-loop-before l = Before (judged l.policy) l.conn l.event l.before l.told

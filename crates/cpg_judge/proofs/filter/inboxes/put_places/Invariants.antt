use Rattle.std.proofs.Common.{◌≡◌, ◌++◌, ◌-◌, ◌≤◌, length}
use Rattle.std.specs.List.{concat}
use Rattle.cpg_record.specs.Judging.{judged}
use Rattle.cpg_judge.specs.FilterSteps.{lines_between}
use Rattle.cpg_judge.proofs.filter.inboxes.put_places.Given as goal

abbrev pub invariant-loop-place : goal.invariant-loop-place
invariant-loop-place l = record {
  within : l.after ≤ length (judged l.inbox.policy.now);
  put : l.lines.items ≡ l.initial.lines.items ++ concat (lines_between l.inbox.filter.now (judged l.inbox.policy.now) l.inbox.conn.now 0 l.after);
}

abbrev pub decreases-loop-place : goal.decreases-loop-place
decreases-loop-place l = length (judged l.inbox.policy.now) - l.after

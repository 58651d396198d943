use Rattle.std.proofs.Common.{◌≡◌, ◌-◌, ◌≤◌, length, take}
use Rattle.std.specs.Prelude.{Ok}
use Rattle.cpg_record.specs.Judging.{judged}
use Rattle.cpg_record.specs.Nexts.{is_made_by}
use Rattle.cpg_record.specs.Places.{places_of}
use Rattle.cpg_judge.specs.Gathering.{Gathers}
use Rattle.cpg_json.specs.Steps.{lines_between}
use Rattle.cpg_json.proofs.inboxes.write_events.Given as goal

abbrev pub invariant-loop-place : goal.invariant-loop-place
invariant-loop-place g l = record {
  counted : l.count ≡ length (places_of (is_made_by l.inbox.conn.now) (take l.after (judged l.inbox.policy.now)));
  within : l.after ≤ length (judged l.inbox.policy.now);
  gathered : Gathers (Ok tt) (g.W.Write.contents l.initial.writer) l.initial.lines.items (g.W.Write.contents l.writer) l.lines.items (lines_between (judged l.inbox.policy.now) l.inbox.conn.now 0 l.after);
}

abbrev pub decreases-loop-place : goal.decreases-loop-place
decreases-loop-place g l = length (judged l.inbox.policy.now) - l.after

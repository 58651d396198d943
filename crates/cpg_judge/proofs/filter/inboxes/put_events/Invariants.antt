use Rattle.std.proofs.Common.{◌≡◌, ◌++◌, take}
use Rattle.std.specs.List.{concat, flat_map}
use Rattle.cpg_judge.specs.Filtering.{event_kept}
use Rattle.cpg_judge.proofs.filter.inboxes.put_events.Given as goal

abbrev pub invariant-loop-event : goal.invariant-loop-event
invariant-loop-event l = l.lines.items ≡ l.initial.lines.items ++ flat_map (λ event. concat (event_kept l.only event)) (take l.event-index l.events)

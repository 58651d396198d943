use Rattle.std.proofs.Common.{◌≡◌, take}
use Rattle.cpg_record.proofs.events.Events.copy.Given as goal

abbrev pub invariant-loop-event : goal.invariant-loop-event
invariant-loop-event l = l.copy ≡ take l.event-index l.event-items

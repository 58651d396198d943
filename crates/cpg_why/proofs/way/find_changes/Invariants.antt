use Rattle.std.proofs.Common.{◌≡◌, ◌++◌, take}
use Rattle.std.specs.List.{flat_map}
use Rattle.cpg_why.specs.Ways.{change_in}
use Rattle.cpg_why.proofs.way.find_changes.Given as goal

abbrev pub invariant-loop-event : goal.invariant-loop-event
invariant-loop-event l = l.list.items ≡ l.initial.list.items ++ flat_map (change_in l.conn) (take l.event-index l.events)

use Rattle.std.proofs.Common.{◌≡◌, ◌++◌, map, take}
use Rattle.cpg_why.specs.declared.findings.Finding.TheVariants.{Heard}
use Rattle.cpg_why.proofs.standings.hear_all.Given as goal

abbrev pub invariant-loop-event : goal.invariant-loop-event
invariant-loop-event l = l.list.items ≡ l.initial.list.items ++ map (Heard l.conn) (take l.event-index l.events)

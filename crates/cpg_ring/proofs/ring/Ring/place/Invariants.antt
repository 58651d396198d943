use Rattle.std.proofs.Common.{◌≡◌, ◌++◌, take}
use Rattle.cpg_ring.specs.Visits.{placed}
use Rattle.cpg_ring.proofs.ring.Ring.place.Given as goal

abbrev pub invariant-loop-i : goal.invariant-loop-i
invariant-loop-i l = l.packets.items ≡ l.initial.packets.items ++ placed l.self.settings l.seq (take l.i l.self.state.waiting)

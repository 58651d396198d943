use Rattle.std.proofs.Common.{◌≡◌, take}
use Rattle.cpg_ring.specs.Visits.{served}
use Rattle.cpg_ring.proofs.held.Held.serve.Given as goal

abbrev pub invariant-loop-place : goal.invariant-loop-place
invariant-loop-place l = l.packets.items ≡ served l.settings l.self.places (take l.place-index l.asked)

use Rattle.std.proofs.Common.{ap, ◌∙◌}
use Rattle.cpg_ring.specs.Kept.{held_map}
use Rattle.cpg_ring.proofs.Slots.{new_is}
use Rattle.cpg_ring.proofs.held.Held.new.Goals as goal

pub returns-clause-places : goal.returns-clause-places
returns-clause-places c = ap (λ l. held_map l c.in_ok-slots.slots.items) c.new.ensures.items ∙ new_is c.in_ok-slots.slots.items c.in_ok-slots.ensures.empty

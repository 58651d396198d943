use Rattle.std.proofs.Common.{sym, ap, ◌∙◌}
use Rattle.std.specs.FinMap.{get}
use Rattle.cpg_ring.specs.Kept.{HeldValue, kept_at}
use Rattle.cpg_ring.proofs.Slots.{held_at}
use Rattle.cpg_ring.proofs.held.Held.get.Goals as goal

pub returns : goal.returns
returns c =
    c.entry_at.ensures
    ∙ (ap (λ slots. kept_at c.self.inside.done.items slots c.args.place) c.deref.ensures.value
    ∙ (sym (held_at c.self.inside.done.items c.self.inside.slots.items c.args.place)
    ∙ ap (λ (h : HeldValue). get h.places c.args.place) c.self.view_is))

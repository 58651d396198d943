use Rattle.std.proofs.Common.{◌≡◌, ◌%◌, length, set, Some, subst, sym, ap, ◌∙◌, arith, length-set}
use Rattle.std.specs.FinMap.{insert}
use Rattle.cpg_ring.specs.States.{HeldPlaces}
use Rattle.cpg_ring.specs.Kept.{HeldValue, held_map, IsKept}
use Rattle.cpg_ring.proofs.Slots.{written, filled_is, filled_kept}
use Rattle.cpg_ring.proofs.held.Held.hold.Goals as goal

pub invariant_of-self : goal.invariant_of-self
invariant_of-self c =
    let done = c.self.inside.done.items in
    let slots = c.self.inside.slots.items in
    let count = c.self.invariant.count in
    let delivered : length done ≡ c.args.self.now.delivered = ap (λ (h : HeldValue). h.delivered) c.self.view_is in
    let room : c.self.inside.done.room ≡ c.args.self.now.room = ap (λ (h : HeldValue). h.room) c.self.view_is in
    let low = c.requires.low in
    let high = c.requires.window in
    let fits = c.requires.room in
    let new : c.fill.new.slots ≡ set slots (c.args.place % 64) (Some c.args.entry) = c.fill.ensures ∙ ap (λ l. set l (c.args.place % 64) (Some c.args.entry)) c.deref_mut.ensures.value in
    let same : length c.fill.new.slots ≡ length slots = ap length new ∙ length-set slots (c.args.place % 64) (Some c.args.entry) in
    let ok = c.self.inside.slots.ok in
    subst (IsKept done c.self.inside.done.room) (sym (written slots c.fill.new.slots c.self.inside.slots.len (omega arith) ∙ new)) (filled_kept done c.self.inside.done.room slots c.args.place c.args.entry c.self.invariant (omega arith) (omega arith) c.requires.most (omega arith))

pub returns : goal.returns
returns c =
    let done = c.self.inside.done.items in
    let slots = c.self.inside.slots.items in
    let delivered : length done ≡ c.args.self.now.delivered = ap (λ (h : HeldValue). h.delivered) c.self.view_is in
    let low = c.requires.low in
    let high = c.requires.window in
    let new : c.fill.new.slots ≡ set slots (c.args.place % 64) (Some c.args.entry) = c.fill.ensures ∙ ap (λ l. set l (c.args.place % 64) (Some c.args.entry)) c.deref_mut.ensures.value in
    let same : length c.fill.new.slots ≡ length slots = ap length new ∙ length-set slots (c.args.place % 64) (Some c.args.entry) in
    let ok = c.self.inside.slots.ok in
    let is = ap (held_map done) (written slots c.fill.new.slots c.self.inside.slots.len (omega arith) ∙ new) ∙ filled_is done slots c.args.place c.args.entry c.self.invariant.count (omega arith) (omega arith) in
    let old : HeldValue = record { places = held_map done slots; delivered = length done; room = c.self.inside.done.room } in
    ap (λ (m : HeldPlaces). record old { places = m }) is ∙ ap (λ (h : HeldValue). record h { places = insert h.places c.args.place c.args.entry }) c.self.view_is

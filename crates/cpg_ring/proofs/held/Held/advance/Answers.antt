use Rattle.std.proofs.Common.{◌≡◌, ◌+◌, ◌%◌, ◌∷◌, [], IsSome, length, suc, set, None, subst, sym, ap, ◌∙◌, arith, length-set, length-append, true≢false}
use Rattle.std.specs.FinMap.{get}
use Rattle.cpg_ring.specs.Kept.{HeldValue, in_slot, held_map, IsKept}
use Rattle.cpg_ring.proofs.Slots.{written, moved_is, moved_kept, next_room, next_slot}
use Rattle.cpg_ring.proofs.held.Held.advance.Goals as goal

pub push_reserved-requires : goal.push_reserved-requires
push_reserved-requires c =
    let len = c.len.ensures in
    let at : c.len.result + 1 ≡ suc (length c.self.inside.done.items) = omega arith in
    let is = sym (c.vacate.ensures.entry ∙ λ i. in_slot (c.deref_mut.ensures.value i) (at i)) ∙ c.in-Some.is in
    let room = next_room c.self.inside.done.items c.self.inside.done.room c.self.inside.slots.items c.self.invariant c.in-Some.entry is in
    record { room = room.1; most = room.0 }

pub invariant_of-self : goal.invariant_of-self
invariant_of-self c =
    let done = c.self.inside.done.items in
    let slots = c.self.inside.slots.items in
    let len = c.len.ensures in
    let at : c.len.result + 1 ≡ suc (length done) = omega arith in
    let is = sym (c.vacate.ensures.entry ∙ λ i. in_slot (c.deref_mut.ensures.value i) (at i)) ∙ c.in-Some.is in
    let new : c.vacate.new.slots ≡ set slots (suc (length done) % 64) None = c.vacate.ensures.slots ∙ λ i. set (c.deref_mut.ensures.value i) (at i % 64) None in
    let same : length c.vacate.new.slots ≡ length slots = ap length new ∙ length-set slots (suc (length done) % 64) None in
    let fits = c.self.inside.slots.ok in
    let left = written slots c.vacate.new.slots c.self.inside.slots.len (omega arith) ∙ new in
    let kept = moved_kept done slots c.in-Some.entry c.self.invariant.count is c.self.inside.done.room c.self.invariant in
    subst (λ s. IsKept c.push_reserved.new.self.items (c.push_reserved.new.self.room) s) (sym left)
    (subst (λ n. IsKept c.push_reserved.new.self.items n (set slots (suc (length done) % 64) None)) (sym c.push_reserved.ensures.room)
    (subst (λ l. IsKept l c.self.inside.done.room (set slots (suc (length done) % 64) None)) (sym c.push_reserved.ensures.items) kept))

pub returns-in-Some : goal.returns-in-Some
returns-in-Some c =
    let done = c.self.inside.done.items in
    let slots = c.self.inside.slots.items in
    let len = c.len.ensures in
    let at : c.len.result + 1 ≡ suc (length done) = omega arith in
    let is = sym (c.vacate.ensures.entry ∙ λ i. in_slot (c.deref_mut.ensures.value i) (at i)) ∙ c.in-Some.is in
    let new : c.vacate.new.slots ≡ set slots (suc (length done) % 64) None = c.vacate.ensures.slots ∙ λ i. set (c.deref_mut.ensures.value i) (at i % 64) None in
    let same : length c.vacate.new.slots ≡ length slots = ap length new ∙ length-set slots (suc (length done) % 64) None in
    let fits = c.self.inside.slots.ok in
    let left = written slots c.vacate.new.slots c.self.inside.slots.len (omega arith) ∙ new in
    let places = (λ i. held_map (c.push_reserved.ensures.items i) (left i)) ∙ moved_is done slots c.in-Some.entry c.self.invariant.count is in
    let more : length c.push_reserved.new.self.items ≡ suc (length done) = ap length c.push_reserved.ensures.items ∙ (length-append done (c.in-Some.entry ∷ []) ∙ omega arith) in
    let made : HeldValue = record { places = held_map done slots; delivered = length done; room = c.self.inside.done.room } in
    (λ i. record { places = places i; delivered = more i; room = c.push_reserved.ensures.room i }) ∙ ap (λ (h : HeldValue). record h { delivered = suc h.delivered }) c.self.view_is

pub returns-in_default : goal.returns-in_default
returns-in_default c =
    let done = c.self.inside.done.items in
    let slots = c.self.inside.slots.items in
    let len = c.len.ensures in
    let at : c.len.result + 1 ≡ suc (length done) = omega arith in
    let next : IsSome (get (held_map done slots) (suc (length done))) = subst (λ (h : HeldValue). IsSome (get h.places (suc h.delivered))) (sym c.self.view_is) c.requires in
    let is = next_slot done slots ∙ sym (c.vacate.ensures.entry ∙ λ i. in_slot (c.deref_mut.ensures.value i) (at i)) in
    absurd (true≢false (sym (subst IsSome (is ∙ c.in_default.is) next)))

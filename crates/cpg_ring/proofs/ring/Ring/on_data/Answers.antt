use Rattle.std.proofs.Common.{◌≡◌, ◌+◌, ◌≤◌, None, sym, ap, subst, ◌∙◌, arith}
use Rattle.std.specs.FinMap.{insert}
use Rattle.cpg_ring.specs.Moves.{after_data}
use Rattle.cpg_ring.specs.Kept.{HeldValue}
use Rattle.cpg_ring.specs.Rings.{RingNode, data_refusal_of, with_state}
use Rattle.cpg_ring.proofs.Rings.{data_accepted, data_near, data_new, ring_data, ring_same, room_made}
use Rattle.cpg_ring.specs.contracts.ring.Ring.{the_view}
use Rattle.cpg_ring.proofs.ring.Ring.on_data.Goals as goal

pub hold-requires-clause-low : goal.hold-requires-clause-low
hold-requires-clause-low c =
    let V = the_view c.self.inside in
    let none : data_refusal_of V c.args.packet ≡ None = subst (λ (x : RingNode). data_refusal_of x c.args.packet ≡ None) (sym c.self.view_is) (sym c.data_refusal.ensures ∙ c.in_default.is) in
    let low = data_new V.settings V.state c.args.packet c.requires.place.0 c.self.invariant.delivered none in
    let same = c.make_room.ensures.delivered in
    omega arith

pub hold-requires-clause-window : goal.hold-requires-clause-window
hold-requires-clause-window c =
    let V = the_view c.self.inside in
    let none : data_refusal_of V c.args.packet ≡ None = subst (λ (x : RingNode). data_refusal_of x c.args.packet ≡ None) (sym c.self.view_is) (sym c.data_refusal.ensures ∙ c.in_default.is) in
    let near = data_near V.settings V.state c.args.packet none in
    let same = c.make_room.ensures.delivered in
    omega arith

pub hold-requires-clause-room : goal.hold-requires-clause-room
hold-requires-clause-room c =
    let V = the_view c.self.inside in
    let none : data_refusal_of V c.args.packet ≡ None = subst (λ (x : RingNode). data_refusal_of x c.args.packet ≡ None) (sym c.self.view_is) (sym c.data_refusal.ensures ∙ c.in_default.is) in
    let near = data_near V.settings V.state c.args.packet none in
    let same = c.make_room.ensures.delivered in
    let room : c.make_room.new.self.delivered + 64 ≤ c.make_room.new.self.room = room_made _ c.make_room.result (sym c.is_err.ensures.value ∙ c.if-is_err.false) c.make_room.ensures.room in
    omega arith

pub invariant_of-self : goal.invariant_of-self
invariant_of-self c = ring_same _ _ c.self.inside.held _ _ c.self.invariant c.make_room.ensures.places c.make_room.ensures.delivered

pub invariant_of-self-2 : goal.invariant_of-self-2
invariant_of-self-2 c =
    let V = the_view c.self.inside in
    let none : data_refusal_of V c.args.packet ≡ None = subst (λ (x : RingNode). data_refusal_of x c.args.packet ≡ None) (sym c.self.view_is) (sym c.data_refusal.ensures ∙ c.in_default.is) in
    let place = c.args.packet.place in
    let entry = c.args.packet.entry in
    let places = ap (λ (h : HeldValue). h.places) c.hold.ensures ∙ ap (λ m. insert m place entry) c.make_room.ensures.places in
    let delivered = ap (λ (h : HeldValue). h.delivered) c.hold.ensures ∙ c.make_room.ensures.delivered in
    ring_data _ _ c.self.inside.held _ _ place entry c.self.invariant places delivered (data_accepted V.settings V.state c.args.packet none).0

pub returns-clause-answer : goal.returns-clause-answer
returns-clause-answer c =
    let V = the_view c.self.inside in
    let place = c.args.packet.place in
    let entry = c.args.packet.entry in
    let places = ap (λ (h : HeldValue). h.places) c.hold.ensures ∙ ap (λ m. insert m place entry) c.make_room.ensures.places in
    let delivered = ap (λ (h : HeldValue). h.delivered) c.hold.ensures ∙ c.make_room.ensures.delivered in
    (sym c.data_refusal.ensures ∙ c.in_default.is, (λ i. with_state V record { last_hop = V.state.last_hop; last_token = V.state.last_token; held = places i; delivered = delivered i; waiting = V.state.waiting; arus = V.state.arus }) ∙ ap (λ (x : RingNode). with_state x (after_data x.state c.args.packet)) c.self.view_is)

use Rattle.std.proofs.Common.{◌≡◌, ◌∷◌, None, sym, ap, ◌∙◌, subst, take, drop, arith}
use Rattle.std.proofs.lemmas.List.{length-take-le}
use Rattle.cpg_ring.specs.Visits.{burst_size}
use Rattle.cpg_ring.specs.Kept.{HeldValue, newest_two}
use Rattle.cpg_ring.specs.States.{Token}
use Rattle.cpg_ring.specs.Rings.{RingNode, refusal_of, step_of, visited}
use Rattle.cpg_ring.specs.Steps.{hold_from}
use Rattle.cpg_ring.specs.contracts.ring.Ring.{the_view}
use Rattle.cpg_ring.proofs.Bursts.{from_is}
use Rattle.cpg_ring.proofs.Rings.{ring_same, ring_burst}
use Rattle.cpg_ring.proofs.Turns.{IsReady, is_ready, newest_first, visited_made}
use Rattle.cpg_ring.proofs.ring.Ring.accept.Goals as goal

pub invariant_of-self : goal.invariant_of-self
invariant_of-self c = ring_same _ _ c.self.inside.held _ _ c.self.invariant c.make_room.ensures.places c.make_room.ensures.delivered

pub take_places-requires-clause-low : goal.take_places-requires-clause-low
take_places-requires-clause-low c =
    let t = c.args.token.now in
    let V = the_view c.self.inside in
    let node = c.self.invariant.ring_node.0 in
    let none = subst (λ (x : RingNode). refusal_of x t ≡ None) (sym c.self.view_is) c.requires.fits in
    let ready : IsReady V t = is_ready V t node.places.1 node.hops.1 c.self.invariant.delivered none in
    let low = ready.delivered in
    let same = c.make_room.ensures.delivered in
    omega arith

pub invariant_of-self-2 : goal.invariant_of-self-2
invariant_of-self-2 c =
    let t = c.args.token.now in
    let V = the_view c.self.inside in
    let W = c.self.inside.waiting in
    let node = c.self.invariant.ring_node.0 in
    let none = subst (λ (x : RingNode). refusal_of x t ≡ None) (sym c.self.view_is) c.requires.fits in
    let ready : IsReady V t = is_ready V t node.places.1 node.hops.1 c.self.invariant.delivered none in
    let k = burst_size V.settings V.state t.seq in
    let count : c.burst_size-count.result ≡ k = c.burst_size-count.ensures ∙ ap (λ (x : RingNode). burst_size x.settings x.state t.seq) (sym c.self.view_is) in
    let places = ap (λ (h : HeldValue). h.places) c.take_places.ensures.held ∙ λ i. hold_from (c.make_room.ensures.places i) t.seq (take (count i) W) in
    let delivered = ap (λ (h : HeldValue). h.delivered) c.take_places.ensures.held ∙ c.make_room.ensures.delivered in
    let room = ready.room in
    let len = length-take-le k W ready.ready in
    ring_burst _ _ c.self.inside.held _ c.self.inside.last_token _ t.seq (take k W) c.self.invariant places delivered (omega arith) c.requires.in_range

pub returns-clause-ok : goal.returns-clause-ok
returns-clause-ok c =
    let t = c.args.token.now in
    let V = the_view c.self.inside in
    let W = c.self.inside.waiting in
    let k = burst_size V.settings V.state t.seq in
    let count : c.burst_size-count.result ≡ k = c.burst_size-count.ensures ∙ ap (λ (x : RingNode). burst_size x.settings x.state t.seq) (sym c.self.view_is) in
    let token = c.requires.next ∙ ap (λ (x : RingNode). (step_of x t).token) (sym c.self.view_is) in
    let places = ap (λ (h : HeldValue). h.places) c.take_places.ensures.held ∙ λ i. hold_from (c.make_room.ensures.places i) t.seq (take (count i) W) in
    let delivered = ap (λ (h : HeldValue). h.delivered) c.take_places.ensures.held ∙ c.make_room.ensures.delivered in
    let waiting = c.take_places.ensures.waiting ∙ ap (λ n. drop n W) count in
    visited_made V t c.args.next _ _ _ _ token (places ∙ from_is V.settings V.state.held t.seq (take k W)) delivered waiting (newest_first c.args.next.aru c.self.inside.aru_now c.self.inside.aru_before ∙ ap (λ (u : Token). take 2 (u.aru ∷ newest_two c.self.inside.aru_now c.self.inside.aru_before)) token) ∙ ap (λ (x : RingNode). visited x t) c.self.view_is

use Rattle.std.proofs.Common.{◌≡◌, ◌≤◌, None, sym, ap, ◌∙◌, subst}
use Rattle.cpg_ring.specs.Visits.{served}
use Rattle.cpg_ring.specs.Rings.{RingNode, IsRingNode, refusal_of}
use Rattle.cpg_ring.specs.contracts.ring.Ring.{the_view}
use Rattle.cpg_ring.proofs.Turns.{IsReady, is_ready, visit_made, in_range}
use Rattle.cpg_ring.proofs.ring.Ring.visit.Goals as goal

pub next_token-requires-clause-delivered : goal.next_token-requires-clause-delivered
next_token-requires-clause-delivered c =
    let none : refusal_of c.args.self.now c.args.token.now ≡ None = sym c.token_refusal.ensures ∙ c.in_default.is in
    let node = c.self.invariant.ring_node.0 in
    let ready = is_ready (the_view c.self.inside) c.args.token.now node.places.1 node.hops.1 c.self.invariant.delivered (subst (λ (x : RingNode). refusal_of x c.args.token.now ≡ None) (sym c.self.view_is) none) in
    subst (λ (x : RingNode). x.state.delivered ≤ c.args.token.now.seq) c.self.view_is ready.delivered

pub returns-clause-in_range : goal.returns-clause-in_range
returns-clause-in_range c =
    let now = c.args.self.now in
    let t = c.args.token.now in
    let node = c.self.invariant.ring_node.0 in
    let none : refusal_of c.args.self.now c.args.token.now ≡ None = sym c.token_refusal.ensures ∙ c.in_default.is in
    let ready : IsReady c.args.self.now c.args.token.now = subst (λ (x : RingNode). IsReady x t) c.self.view_is (is_ready (the_view c.self.inside) t node.places.1 node.hops.1 c.self.invariant.delivered (subst (λ (x : RingNode). refusal_of x t ≡ None) (sym c.self.view_is) none)) in
    let first = c.in_ok-packets.ensures.ok ∙ (ap (served c.self.inside.settings c.self.inside.held.places) c.as_slice-asked.ensures ∙ ap (λ (x : RingNode). served x.settings x.state.held t.rtr) c.self.view_is) in
    let made = visit_made now t _ _ _ c.burst_size-count.result ready c.burst_size-count.ensures first (c.from_vec.ensures ∙ c.in_ok-place.ensures.ok) c.in_ok-token.ensures.ok in
    in_range now t _ (subst (λ (x : RingNode). IsRingNode x.settings x.node) c.self.view_is c.self.invariant.ring_node) c.requires none made

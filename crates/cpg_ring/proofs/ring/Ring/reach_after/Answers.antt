use Rattle.std.proofs.Common.{◌≡◌, ◌+◌, ◌-◌, sym, ap, ◌∙◌, subst, arith}
use Rattle.cpg_ring.specs.Visits.{held_through, reach}
use Rattle.cpg_ring.specs.Laws.{AllHeld}
use Rattle.cpg_ring.specs.Rings.{RingNode}
use Rattle.cpg_ring.specs.Steps.{held_after}
use Rattle.cpg_ring.proofs.Bursts.{after_keeps, after_above}
use Rattle.cpg_ring.proofs.Loops.{reach_begins, reach_on, reach_ends}
use Rattle.cpg_ring.proofs.ring.Ring.reach_after.Goals as goal

pub loop-place-init : goal.loop-place-init
loop-place-init c =
    let now = c.args.self.now in
    let seq = c.args.seq in
    let count = c.args.count in
    let d = c.delivered-place.result in
    let top = now.state.delivered + 64 in
    let H = held_after now seq count in
    let same : d ≡ now.state.delivered = c.delivered-place.ensures.value ∙ ap (λ (x : RingNode). x.state.delivered) c.self.view_is in
    let all = subst (λ (x : RingNode). AllHeld x.state.held d) c.self.view_is c.delivered-place.ensures.held in
    let window = c.requires.window in
    let low = c.requires.delivered in
    let above = after_above now seq count top c.last_place-end.ensures.above window c.requires.ready in
    subst (λ e. held_through H d (e - d) ≡ reach H (seq + count)) (sym c.last_place-end.ensures.value) (reach_begins H d top (seq + count) (after_keeps now seq count d all) above (omega arith) (omega arith))

pub loop-place-preserved : goal.loop-place-preserved
loop-place-preserved c = reach_on (held_after c.args.self.now c.args.seq c.args.count) c.loop-place.place c.last_place-end.result c.loop-place-test.true (sym c.holds_after.ensures ∙ c.if-not-holds_after.false) ∙ c.loop-place.invariant

pub returns-then-not-holds_after : goal.returns-then-not-holds_after
returns-then-not-holds_after c = sym (reach_ends (held_after c.args.self.now c.args.seq c.args.count) c.loop-place.place c.last_place-end.result c.loop-place-test.true (sym c.holds_after.ensures ∙ c.if-not-holds_after.true)) ∙ c.loop-place.invariant

pub returns : goal.returns
returns c =
    let end = c.last_place-end.result in
    let place = c.loop-place.place in
    let H = held_after c.args.self.now c.args.seq c.args.count in
    let delivered : c.delivered-place.result ≡ c.args.self.now.state.delivered = c.delivered-place.ensures.value ∙ ap (λ (x : RingNode). x.state.delivered) c.self.view_is in
    let value = c.last_place-end.ensures.value in
    let low = c.requires.delivered in
    let within = c.loop-place.auto.place-end in
    let test = c.loop-place-test.false in
    let same : place ≡ end = omega arith in
    let gap : end - place ≡ 0 = omega arith in
    sym same ∙ (sym (ap (held_through H place) gap) ∙ c.loop-place.invariant)

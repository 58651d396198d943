use Rattle.std.proofs.Common.{◌+◌, ◌++◌, ◌∷◌, [], not, sym, ap, ◌∙◌, subst}
use Rattle.cpg_ring.specs.Laws.{AllHeld}
use Rattle.cpg_ring.specs.Rings.{RingNode}
use Rattle.cpg_ring.specs.Steps.{held_after, lacks}
use Rattle.cpg_ring.proofs.Bursts.{after_keeps}
use Rattle.cpg_ring.proofs.Loops.{none_lacking, finds_one, finds_none}
use Rattle.cpg_ring.proofs.ring.Ring.missing_after.Goals as goal
use Rattle.cpg_ring.proofs.ring.Ring.missing_after.Goals.{then-not-holds_after+in_ok-push, else-not-holds_after}

pub loop-i-init : goal.loop-i-init
loop-i-init c =
    let d = c.delivered-i.result in
    let all = subst (λ (x : RingNode). AllHeld x.state.held d) c.self.view_is c.delivered-i.ensures.held in
    c.new-requests.ensures.items ∙ sym (none_lacking (held_after c.args.self.now c.args.seq c.args.count) d (after_keeps c.args.self.now c.args.seq c.args.count d all))

pub loop-i-preserved : goal.loop-i-preserved
loop-i-preserved c =
    let P = lacks (held_after c.args.self.now c.args.seq c.args.count) in
    elim c.if-not-holds_after.branch [
      | then-not-holds_after+in_ok-push w ↦
          ap (λ v. v.items) w.requests-is ∙ (w.in_ok-push.ensures.items
          ∙ (ap (λ l. l ++ (c.loop-i.i + 1) ∷ []) c.loop-i.invariant
          ∙ finds_one P c.loop-i.i (ap not (sym c.holds_after.ensures ∙ w.if-not-holds_after.true))))
      | else-not-holds_after w ↦
          ap (λ v. v.items) w.requests-is ∙ (c.loop-i.invariant
          ∙ finds_none P c.loop-i.i (ap not (sym c.holds_after.ensures ∙ w.if-not-holds_after.false)))
    ]

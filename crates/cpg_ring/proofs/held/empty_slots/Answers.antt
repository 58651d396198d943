use Rattle.std.proofs.Common.{◌≡◌, ◌∷◌, [], None, get_or, length, length-append, sym, subst, ap, ◌∙◌, arith}
use Rattle.cpg_ring.proofs.Slots.{empty_push}
use Rattle.cpg_ring.proofs.held.empty_slots.Goals as goal

pub loop-preserved : goal.loop-preserved
loop-preserved c =
    let items = c.in_ok-push.ensures.items in
    let was = c.loop.invariant.count in
    let test = c.loop-test.true in
    record {
      count = ap length items ∙ (length-append c.loop.slots.items (None ∷ []) ∙ omega arith);
      within = omega arith;
      empty = λ i. subst (λ l. get_or l i None ≡ None) (sym items) (empty_push c.loop.slots.items c.loop.invariant.empty i);
    }

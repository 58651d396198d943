use Rattle.std.proofs.Common.{◌++◌, ◌∷◌, [], get_or, take, nat_lt, append_assoc, sym, ap, ◌∙◌}
use Rattle.std.specs.List.{filter}
use Rattle.std.proofs.lemmas.Bool.{lt-ltb, le-ltb}
use Rattle.cpg_ring.proofs.Loops.{adds_one, adds_none}
use Rattle.cpg_ring.proofs.ring.visiting.add_above.Goals as goal
use Rattle.cpg_ring.proofs.ring.visiting.add_above.Goals.{then-end-place+in_ok-push, else-end-place}

pub loop-place-preserved : goal.loop-place-preserved
loop-place-preserved c =
    let old = c.args.requests.now.items in
    let asked = c.args.asked.now in
    let i = c.loop-place.place-index in
    let place = get_or asked i 0 in
    let within = c.loop-place-test.true in
    elim c.if-end-place.branch [
      | then-end-place+in_ok-push w ↦
          ap (λ v. v.items) w.requests-is ∙ (w.in_ok-push.ensures.items
          ∙ (ap (λ l. l ++ place ∷ []) c.loop-place.invariant
          ∙ (append_assoc old (filter (nat_lt c.args.end) (take i asked)) (place ∷ [])
          ∙ ap (λ l. old ++ l) (sym (adds_one (nat_lt c.args.end) asked i 0 within (lt-ltb c.args.end place w.if-end-place.true))))))
      | else-end-place w ↦
          ap (λ v. v.items) w.requests-is ∙ (c.loop-place.invariant
          ∙ ap (λ l. old ++ l) (sym (adds_none (nat_lt c.args.end) asked i 0 within (le-ltb c.args.end place w.if-end-place.false))))
    ]

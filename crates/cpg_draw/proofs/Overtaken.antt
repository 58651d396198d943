-- frames that did not come, from the last node and the last frame on
use Rattle.std.proofs.Common.{◌≡◌, ℕ, zero, suc, ◌+◌, ◌-◌, ◌<◌, ◌≤◌, Bool, true, false, List, [], ◌∷◌, ◌++◌, reverse, drop, if◌then◌else◌, refl, sym, ap, subst, ◌∙◌, append_assoc, arith}
use Rattle.std.proofs.lemmas.List.{reverse-append}
use Rattle.cpg_draw.specs.declared.arrows.Arrow.{Arrow}
use Rattle.cpg_draw.specs.declared.misses.Miss.{Miss}
use Rattle.cpg_draw.specs.Misses.{misses_at, misses_to}
use Rattle.cpg_draw.specs.Passed.{passed_in}

one_or_none : (b : Bool) (m : Miss) → reverse (if b then m ∷ [] else []) ≡ (if b then m ∷ [] else [])
one_or_none true m = refl
one_or_none false m = refl

same_backwards : (nodes : ℕ) (a : Arrow) (lost : ℕ → Bool) (node : ℕ) → reverse (misses_at nodes a lost node) ≡ misses_at nodes a lost node
same_backwards nodes a lost node = one_or_none _ _

node_put : (nodes : ℕ) (a : Arrow) (lost : ℕ → Bool) (before : ℕ) (whole known new : List Miss)
    → whole ≡ known ++ reverse (misses_to nodes a lost (suc before)) → new ≡ known ++ misses_at nodes a lost (suc before)
    → whole ≡ new ++ reverse (misses_to nodes a lost before)
node_put nodes a lost before whole known new left put =
    left ∙ (ap (λ x. known ++ x) (reverse-append (misses_to nodes a lost before) (misses_at nodes a lost (suc before))
    ∙ ap (λ x. x ++ reverse (misses_to nodes a lost before)) (same_backwards nodes a lost (suc before)))
    ∙ (sym (append_assoc known (misses_at nodes a lost (suc before)) (reverse (misses_to nodes a lost before)))
    ∙ ap (λ x. x ++ reverse (misses_to nodes a lost before)) (sym put)))

-- one node more, counted downwards
pub node_step : (nodes : ℕ) (a : Arrow) (lost : ℕ → Bool) (before : ℕ) (whole known new : List Miss) → 0 < before
    → whole ≡ known ++ reverse (misses_to nodes a lost before) → new ≡ known ++ misses_at nodes a lost (before - 1 + 1)
    → whole ≡ new ++ reverse (misses_to nodes a lost (before - 1))
node_step nodes a lost zero whole known new some left put = absurd (omega arith)
node_step nodes a lost (suc before) whole known new some left put =
    let less : suc before - 1 ≡ before = omega arith in
    let same : suc before - 1 + 1 ≡ suc before = omega arith in
    subst (λ n. whole ≡ new ++ reverse (misses_to nodes a lost n)) (sym less)
    (node_put nodes a lost before whole known new left (put ∙ ap (λ n. known ++ misses_at nodes a lost n) same))

-- the first frame is gone over last
pub from_first : (nodes index : ℕ) (arrows : List Arrow) (found : List Miss) → index ≤ 0
    → found ≡ reverse (passed_in nodes (drop index arrows)) → found ≡ reverse (passed_in nodes arrows)
from_first nodes zero arrows found none put = put
from_first nodes (suc index) arrows found none put = absurd (omega arith)

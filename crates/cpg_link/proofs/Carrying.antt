-- Each step of a link keeps its rule.
use Rattle.std.proofs.Common.{◌≡◌, ◌≢◌, ◌⊎◌, ℕ, zero, suc, ◌+◌, ◌≤◌, true, false, true≢false, List, [], ◌∷◌, ◌++◌, length, set, inl, inr, ⊎_elim, sym, refl, ap, ◌∙◌, subst, append_assoc, arith}
use Rattle.std.proofs.lemmas.List.{length-append}
use mathlib.Core.Option.{some, some-injective, some-ne-none}
use lib.ListN.{get_elem?}
use Rattle.crossbeam_queue.specs.Fifo.{Pushes, Pops, Forks, Merges, Learns}
use Rattle.crossbeam_queue.proofs.Lists.{at_set}
use Rattle.cpg_link.specs.declared.passes.Known.{Known}
use Rattle.cpg_link.specs.Links.{known, StandBehind, FitsPass, Carries}

module _ {T : Type 0} where
  -- it is so of each pass
  abbrev Each : List (Known T) → (ℕ → Known T → Type 0) → Type 0
  Each views Says = (pass : ℕ) (v : Known T) → get_elem? views pass ≡ some v → Says pass v

  -- one pass knows something new, and what is so of the others follows from what was
  each_after : (views : List (Known T)) (Was Is : ℕ → Known T → Type 0) (pass : ℕ) (w : Known T) → Each views Was → Is pass w → ((other : ℕ) (u : Known T) → other ≢ pass → Was other u → Is other u) → Each (set views pass w) Is
  each_after views Was Is pass w was mine others j u at =
      ⊎_elim (λ (here : (j ≡ pass) × (w ≡ u)). subst (λ k. Is k u) (sym here.0) (subst (Is pass) here.1 mine)) (λ (there : (j ≢ pass) × (get_elem? views j ≡ some u)). others j u there.0 (was j u there.1)) (at_set views pass j w u at)

  -- a pass of a list with one more is one of the list, or the one more, which is the last
  last_of : (views : List (Known T)) (more v : Known T) (j : ℕ) → get_elem? (views ++ more ∷ []) j ≡ some v → (get_elem? views j ≡ some v) ⊎ ((j ≡ length views) × (more ≡ v))
  last_of [] more v zero at = inr (refl, some-injective more v at)
  last_of [] more v (suc j) at = absurd (some-ne-none v (sym at))
  last_of (x ∷ xs) more v zero at = inl at
  last_of (x ∷ xs) more v (suc j) at = ⊎_elim (λ front. inl front) (λ (end : (j ≡ length xs) × (more ≡ v)). inr (ap suc end.0, end.1)) (last_of xs more v j at)

  pub begins : Carries {T = T} [] (known true true [] [] ∷ [])
  begins = (0, 0, [], [], refl, first)
    where
      first : Each (known true true [] [] ∷ []) (FitsPass 0 0 [] [])
      first zero v at = subst (FitsPass 0 0 [] [] 0) (some-injective (known true true [] []) v at) ((λ _. (refl, refl)), λ _. (refl, refl))
      first (suc j) v at = absurd (some-ne-none v (sym at))

  pub sends : (n pass : ℕ) (v : Known T) (x : T) → v.puts ≡ true → Pushes Carries n pass v x (λ w. w ≡ known v.puts v.takes (v.put ++ x ∷ []) v.taken)
  sends n pass v x may items views room h at =
      let w : Known T = known v.puts v.takes (v.put ++ x ∷ []) v.taken in
      let put = h.2 ++ x ∷ [] in
      let mine = h.5 pass v at in
      let sender = mine.0 may in
      let each : Each (set views pass w) (FitsPass h.0 h.1 put h.3) = each_after views (FitsPass h.0 h.1 h.2 h.3) (FitsPass h.0 h.1 put h.3) pass w h.5
      ((λ _. (sender.0, ap (λ l. l ++ x ∷ []) sender.1)), mine.1)
      (λ j u other was. ((λ p. absurd (other ((was.0 p).0 ∙ sym sender.0))), was.1)) in
      (w, (h.0, h.1, put, h.3, ap (λ l. l ++ x ∷ []) h.4 ∙ append_assoc h.3 items (x ∷ []), each), refl)

  pub gets : (pass : ℕ) (v : Known T) → v.takes ≡ true → Pops Carries pass v (λ x w. w ≡ known v.puts v.takes v.put (v.taken ++ x ∷ []))
  gets pass v may x items views h at =
      let w : Known T = known v.puts v.takes v.put (v.taken ++ x ∷ []) in
      let taken = h.3 ++ x ∷ [] in
      let mine = h.5 pass v at in
      let receiver = mine.1 may in
      let each : Each (set views pass w) (FitsPass h.0 h.1 h.2 taken) = each_after views (FitsPass h.0 h.1 h.2 h.3) (FitsPass h.0 h.1 h.2 taken) pass w h.5
      (mine.0, λ _. (receiver.0, ap (λ l. l ++ x ∷ []) receiver.1))
      (λ j u other was. (was.0, λ p. absurd (other ((was.1 p).0 ∙ sym receiver.0)))) in
      (w, (h.0, h.1, h.2, taken, h.4 ∙ sym (append_assoc h.3 (x ∷ []) items), each), refl)

  pub forks : (pass : ℕ) (v : Known T) → v.puts ≡ true → v.takes ≡ true → Forks Carries pass v (known true false v.put []) (known false true [] v.taken)
  forks pass v puts takes items views h at =
      let left : Known T = known true false v.put [] in
      let right : Known T = known false true [] v.taken in
      let vs : List (Known T) = set views pass left in
      let mine = h.5 pass v at in
      let Sends : ℕ → Known T → Type 0 = λ j u. (u.puts ≡ true → (j ≡ h.0) × (u.put ≡ h.2)) × (u.takes ≢ true) in
      let sends_only : Each vs Sends = each_after views (FitsPass h.0 h.1 h.2 h.3) Sends pass left h.5 ((λ _. mine.0 puts), λ p. true≢false (sym p)) (λ j u other was. (was.0, λ p. other ((was.1 p).0 ∙ sym (mine.1 takes).0))) in (
        h.0,
        length vs,
        h.2,
        h.3,
        h.4,
        λ j u e. ⊎_elim (λ (front : get_elem? vs j ≡ some u). ((sends_only j u front).0, λ p. absurd ((sends_only j u front).1 p)))
            (λ (end : (j ≡ length vs) × (right ≡ u)). ((λ p. absurd (true≢false (sym p ∙ ap (λ (y : Known T). y.puts) (sym end.1)))), λ _. (end.0, ap (λ (y : Known T). y.taken) (sym end.1) ∙ (mine.1 takes).1)))
            (last_of vs right u j e),
      )

  pub merges : (pass : ℕ) (v : Known T) (other : ℕ) (u : Known T) → v.puts ≡ true → u.takes ≡ true → Merges Carries pass v other u (known true true v.put u.taken) (known false false [] [])
  merges pass v other u puts takes items views h at apart at' =
      let both : Known T = known true true v.put u.taken in
      let spent : Known T = known false false [] [] in
      let vs : List (Known T) = set views pass both in
      let mine = (h.5 pass v at).0 puts in
      let was : get_elem? views other ≡ some u = ⊎_elim (λ (here : (other ≡ pass) × (both ≡ u)). absurd (apart here.0)) (λ (there : (other ≢ pass) × (get_elem? views other ≡ some u)). there.1) (at_set views pass other both u at') in
      let theirs = (h.5 other u was).1 takes in
      let But : ℕ → Known T → Type 0 = λ j y. j ≢ other → FitsPass h.0 pass h.2 h.3 j y in
      let but : Each vs But = each_after views (FitsPass h.0 h.1 h.2 h.3) But pass both h.5 (λ _. ((λ _. mine), λ _. (refl, theirs.1))) (λ j y _ old away. (old.0, λ p. absurd (away ((old.1 p).0 ∙ sym theirs.0)))) in
      (h.0, pass, h.2, h.3, h.4, each_after vs But (FitsPass h.0 pass h.2 h.3) other spent but ((λ p. absurd (true≢false (sym p))), λ p. absurd (true≢false (sym p))) (λ j y away old. old away))

  pub totals : (pass : ℕ) (v : Known T) → v.puts ≡ true → v.takes ≡ true → Learns Carries pass v (λ items. v.put ≡ v.taken ++ items)
  totals pass v puts takes items views h at =
      let mine = h.5 pass v at in
      (mine.0 puts).1 ∙ h.4 ∙ ap (λ l. l ++ items) (sym (mine.1 takes).1)

  empty : (xs : List T) → length xs ≡ 0 → xs ≡ []
  empty [] none = refl
  empty (x ∷ xs) none = absurd (omega (arith, none))

  append_nothing : (xs : List T) → xs ++ [] ≡ xs
  append_nothing [] = refl
  append_nothing (x ∷ xs) = ap (λ l. x ∷ l) (append_nothing xs)

  -- where as many were taken out as there were, nothing is left
  pub nothing_left : (put taken left rest : List T) (count : ℕ) → put ≡ (taken ++ left) ++ rest → length put ≡ length taken + count → length left ≡ count → put ≡ taken ++ left
  nothing_left put taken left rest count all many few =
      let a : length put ≡ length (taken ++ left) + length rest = ap length all ∙ length-append (taken ++ left) rest in
      let b = length-append taken left in
      let none : length rest ≡ 0 = omega (arith, a, b, many, few) in
      all ∙ ap (λ r. (taken ++ left) ++ r) (empty rest none) ∙ append_nothing (taken ++ left)

  -- what stands in the queue is the end of what the sender put
  pub behind : (pass : ℕ) (v : Known T) → v.puts ≡ true → Learns Carries pass v (StandBehind v)
  behind pass v may items views h at = (h.3, ((h.5 pass v at).0 may).1 ∙ h.4)

-- what stands in a link was put there
pub filled : {T : Type 0} (frames taken standing : List T) (room : ℕ) → frames ≡ taken ++ standing → length standing ≡ room → room ≤ length frames
filled frames taken standing room are full = let long : length frames ≡ length taken + length standing = ap length are ∙ length-append taken standing in omega (arith, long, full)

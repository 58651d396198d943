-- Nothing happens at a node between two lists of events.
use Rattle.std.proofs.Common.{◌≡◌, ◌≢◌, ◌==◌, ℕ, suc, ◌+◌, ◌%◌, ◌^◌, Bool, true, false, List, [], ◌∷◌, ◌++◌, length, refl, sym, ap, ◌∙◌, subst, arith, append_assoc, if◌then◌else◌}
use Rattle.std.specs.List.{AllByRecursion}
use Rattle.std.proofs.lemmas.Bool.Decides.{nat_tests}
use Rattle.std.proofs.lemmas.List.{append-nil, append_cancel_left}
use mathlib.Core.List.{IsPrefix}
use Rattle.cpg_ring.specs.Worlds.{item}
use Rattle.cpg_world_laws.specs.declared.events.WorldEvent.{WorldEvent}
use Rattle.cpg_world_laws.specs.Worlds.{WorldValue, node_in, happens, runs}
use Rattle.cpg_board.specs.Words.{Rests}
use Rattle.cpg_history.specs.Traces.{stamps_of}
use Rattle.cpg_history.proofs.Runs.{runs_on, happens_other}

-- they are events of other nodes
abbrev pub AreElsewhere : ℕ → List WorldEvent → Type 0
AreElsewhere n es = AllByRecursion (λ e. node_in e ≢ n) es

pub prefix_then : {A : Type 0} (xs ys zs : List A) → IsPrefix xs ys → IsPrefix ys zs → IsPrefix xs zs
prefix_then xs ys zs p q = (p.0 ++ q.0, sym (append_assoc xs p.0 q.0) ∙ (ap (λ l. l ++ q.0) p.1 ∙ q.1))

elsewhere_push : (n : ℕ) (es : List WorldEvent) (e : WorldEvent) → AreElsewhere n es → node_in e ≢ n → AreElsewhere n (es ++ e ∷ [])
elsewhere_push n [] e all one = (one, tt)
elsewhere_push n (x ∷ es) e all one = (all.0, elsewhere_push n es e all.1 one)

elsewhere_front : (n : ℕ) (xs ys : List WorldEvent) → AreElsewhere n (xs ++ ys) → AreElsewhere n xs
elsewhere_front n [] ys all = tt
elsewhere_front n (x ∷ xs) ys all = (all.0, elsewhere_front n xs ys all.1)

elsewhere_end : (n : ℕ) (xs ys : List WorldEvent) → AreElsewhere n (xs ++ ys) → AreElsewhere n ys
elsewhere_end n [] ys all = all
elsewhere_end n (x ∷ xs) ys all = elsewhere_end n xs ys all.1

-- an event at another node
pub rests_on : (n : ℕ) (xs ys : List WorldEvent) (e : WorldEvent) → Rests n xs ys → node_in e ≢ n → Rests n xs (ys ++ e ∷ [])
rests_on n xs ys e r apart = (r.0 ++ e ∷ [], sym (append_assoc xs r.0 (e ∷ [])) ∙ ap (λ l. l ++ e ∷ []) r.1, elsewhere_push n r.0 e r.2 apart)

-- what lies between is parted by any beginning between the two
between : (n : ℕ) (xs mid ys : List WorldEvent) (p : IsPrefix xs mid) (q : IsPrefix mid ys) → Rests n xs ys → AreElsewhere n (p.0 ++ q.0)
between n xs mid ys p q r = subst (AreElsewhere n) (append_cancel_left xs r.0 (p.0 ++ q.0) (r.1 ∙ (sym q.1 ∙ (ap (λ l. l ++ q.0) (sym p.1) ∙ append_assoc xs p.0 q.0)))) r.2

pub rests_before : (n : ℕ) (xs mid ys : List WorldEvent) → IsPrefix xs mid → IsPrefix mid ys → Rests n xs ys → Rests n xs mid
rests_before n xs mid ys p q r = (p.0, p.1, elsewhere_front n p.0 q.0 (between n xs mid ys p q r))

pub rests_behind : (n : ℕ) (xs mid ys : List WorldEvent) → IsPrefix xs mid → IsPrefix mid ys → Rests n xs ys → Rests n mid ys
rests_behind n xs mid ys p q r = (q.0, q.1, elsewhere_end n p.0 q.0 (between n xs mid ys p q r))

-- the node is what it was
same_by : (w : WorldValue) (n : ℕ) (es : List WorldEvent) → AreElsewhere n es → item (runs w es).nodes n ≡ item w.nodes n
same_by w n [] all = refl
same_by w n (e ∷ es) all = same_by (happens w e) n es all.1 ∙ happens_other w e n (λ same. all.0 (sym same))

pub rests_same : (start : WorldValue) (n : ℕ) (xs ys : List WorldEvent) → Rests n xs ys → item (runs start ys).nodes n ≡ item (runs start xs).nodes n
rests_same start n xs ys r =
    ap (λ l. item (runs start l).nodes n) (sym r.1) ∙ (ap (λ (w : WorldValue). item w.nodes n) (runs_on start xs r.0) ∙ same_by (runs start xs) n r.0 r.2)

-- its events stand behind those before
pub stamps_both : (n before : ℕ) (xs ys : List WorldEvent) → stamps_of n before (xs ++ ys) ≡ stamps_of n before xs ++ stamps_of n (before + length xs) ys
stamps_both n before [] ys = let same : before ≡ before + 0 = omega arith in ap (λ k. stamps_of n k ys) same
stamps_both n before (x ∷ xs) ys =
    let same : suc before + length xs ≡ before + suc (length xs) = omega arith in
    by_test (stamps_both n (suc before) xs ys ∙ ap (λ k. stamps_of n (suc before) xs ++ stamps_of n k ys) same) (node_in x == n)
  where
    by_test : stamps_of n (suc before) (xs ++ ys) ≡ stamps_of n (suc before) xs ++ stamps_of n (before + suc (length xs)) ys → (t : Bool) → (if t then before % 2 ^ 64 ∷ stamps_of n (suc before) (xs ++ ys) else stamps_of n (suc before) (xs ++ ys)) ≡ (if t then before % 2 ^ 64 ∷ stamps_of n (suc before) xs else stamps_of n (suc before) xs) ++ stamps_of n (before + suc (length xs)) ys
    by_test later true = ap (λ l. before % 2 ^ 64 ∷ l) later
    by_test later false = later

stamps_first : (n : ℕ) (xs ys : List WorldEvent) → stamps_of n 0 (xs ++ ys) ≡ stamps_of n 0 xs ++ stamps_of n (length xs) ys
stamps_first n xs ys = let same : 0 + length xs ≡ length xs = omega arith in stamps_both n 0 xs ys ∙ ap (λ k. stamps_of n 0 xs ++ stamps_of n k ys) same

stamps_elsewhere : (n before : ℕ) (es : List WorldEvent) → AreElsewhere n es → stamps_of n before es ≡ []
stamps_elsewhere n before [] all = refl
stamps_elsewhere n before (e ∷ es) all =
    let apart = all.0 in
    let not : (node_in e == n) ≡ false = grind (arith, nat_tests) in
    ap (λ t. if t then before % 2 ^ 64 ∷ stamps_of n (suc before) es else stamps_of n (suc before) es) not ∙ stamps_elsewhere n (suc before) es all.1

pub stamps_rest : (n : ℕ) (xs ys : List WorldEvent) → Rests n xs ys → stamps_of n 0 ys ≡ stamps_of n 0 xs
stamps_rest n xs ys r =
    ap (stamps_of n 0) (sym r.1) ∙ (stamps_first n xs r.0 ∙ (ap (λ l. stamps_of n 0 xs ++ l) (stamps_elsewhere n (length xs) r.0 r.2) ∙ append-nil (stamps_of n 0 xs)))

-- one more event of the node
pub stamps_next : (n : ℕ) (xs log : List WorldEvent) (e : WorldEvent) → Rests n xs log → node_in e ≡ n → stamps_of n 0 (log ++ e ∷ []) ≡ stamps_of n 0 xs ++ length log % 2 ^ 64 ∷ []
stamps_next n xs log e r own =
    let is : (node_in e == n) ≡ true = grind (arith, nat_tests) in
    stamps_first n log (e ∷ []) ∙ (ap (λ l. l ++ stamps_of n (length log) (e ∷ [])) (stamps_rest n xs log r) ∙ ap (λ t. stamps_of n 0 xs ++ (if t then length log % 2 ^ 64 ∷ [] else [])) is)

-- Lists of places in ascending order.
use Rattle.std.proofs.Common.{◌≡◌, ◌≢◌, ◌⊎◌, ℕ, zero, suc, ◌<◌, ◌≤◌, nat_lt, ltb-true, Bool, true, false, cond, ◌||◌, List, [], ◌∷◌, ◌++◌, take, Contains, refl, sym, ap, ◌∙◌, subst, inl, inr, ⊎_elim, arith, eqb-true, eq-eqb, true≢false, append-nil, ◌==◌}
use Rattle.std.specs.List.{filter, list_any}
use Rattle.std.proofs.lemmas.Bool.{cases_eq}
use Rattle.std.proofs.lemmas.List.Elements.{filter-append, Contains-append_left, Contains-append_right, Contains-append_cases}
use Rattle.cpg_ring.specs.Visits.{up_to}
use Rattle.cpg_entry.specs.Ranges.{Ascends}
use Rattle.cpg_ring.proofs.Lists.{contains_none, contains_one}

pub ascends_weak : (low high top : ℕ) (xs : List ℕ) → high ≤ top → Ascends low high xs → Ascends low top xs
ascends_weak low high top [] h a = tt
ascends_weak low high top (x ∷ xs) h a = let b = a.1 in (a.0, omega arith, ascends_weak x high top xs h a.2)

pub ascends_push : (low high y top : ℕ) (xs : List ℕ) → low < y → high < y → y ≤ top → Ascends low high xs → Ascends low top (xs ++ y ∷ [])
ascends_push low high y top [] l h t a = (l, t, tt)
ascends_push low high y top (x ∷ xs) l h t a = let b = a.1 in (a.0, omega arith, ascends_push x high y top xs (omega arith) h t a.2)

pub ascends_take : (low high n : ℕ) (xs : List ℕ) → Ascends low high xs → Ascends low high (take n xs)
ascends_take low high zero xs a = tt
ascends_take low high (suc n) [] a = tt
ascends_take low high (suc n) (x ∷ xs) a = (a.0, a.1, ascends_take x high n xs a.2)

contains_later : (y x : ℕ) (xs : List ℕ) → Contains xs x → Contains (y ∷ xs) x
contains_later y x xs c = let h = c.1 in (suc c.0, omega arith, c.2)

pub contains_head : (x : ℕ) (xs : List ℕ) → Contains (x ∷ xs) x
contains_head x xs = (0, omega arith, refl)

pub contains_cons : (y x : ℕ) (xs : List ℕ) → Contains (y ∷ xs) x → (y ≡ x) ⊎ Contains xs x
contains_cons y x xs c = ⊎_elim (λ a. inl (contains_one y x a)) inr (Contains-append_cases (y ∷ []) xs x c)

-- so each of them lies between
pub ascends_within : (low high : ℕ) (xs : List ℕ) (x : ℕ) → Ascends low high xs → Contains xs x → (low < x) × (x ≤ high)
ascends_within low high [] x a c = absurd (contains_none x c)
ascends_within low high (y ∷ xs) x a c = ⊎_elim
    (λ (same : y ≡ x). subst (λ z. (low < z) × (z ≤ high)) same (a.0, a.1))
    (λ later. let w = ascends_within y high xs x a.2 later in let l = w.0 in let k = a.0 in (omega arith, w.1))
    (contains_cons y x xs c)

-- a test of equality finds what the list has
pub any_from_contains : (xs : List ℕ) (x : ℕ) → Contains xs x → list_any (λ p. p == x) xs ≡ true
any_from_contains [] x c = absurd (contains_none x c)
any_from_contains (y ∷ xs) x c = ⊎_elim
    (λ (same : y ≡ x). ap (λ b. b || list_any (λ p. p == x) xs) (eq-eqb y x same))
    (λ later. or_true (y == x) (any_from_contains xs x later))
    (contains_cons y x xs c)
  where
    or_true : (b : Bool) {c : Bool} → c ≡ true → (b || c) ≡ true
    or_true true e = refl
    or_true false e = e

pub contains_from_any : (xs : List ℕ) (x : ℕ) → list_any (λ p. p == x) xs ≡ true → Contains xs x
contains_from_any [] x h = absurd (true≢false (sym h))
contains_from_any (y ∷ xs) x h = by_test (y == x) refl h (contains_from_any xs x)
  where
    by_test : (b : Bool) → (y == x) ≡ b → (b || list_any (λ p. p == x) xs) ≡ true → (list_any (λ p. p == x) xs ≡ true → Contains xs x) → Contains (y ∷ xs) x
    by_test true is t more = subst (Contains (y ∷ xs)) (eqb-true y x is) (contains_head y xs)
    by_test false is t more = contains_later y x xs (more t)

-- a lower bound may be lower
ascends_from : (less low high : ℕ) (xs : List ℕ) → less ≤ low → Ascends low high xs → Ascends less high xs
ascends_from less low high [] l a = tt
ascends_from less low high (x ∷ xs) l a = let k = a.0 in (omega arith, a.1, a.2)

-- one such list after another
pub ascends_join : (low mid high : ℕ) (xs ys : List ℕ) → low ≤ mid → mid ≤ high → Ascends low mid xs → Ascends mid high ys → Ascends low high (xs ++ ys)
ascends_join low mid high [] ys l m a b = ascends_from low mid high ys l b
ascends_join low mid high (x ∷ xs) ys l m a b = let h = a.1 in (a.0, omega arith, ascends_join x mid high xs ys a.1 m a.2 b)

-- what a test finds in a list, and where
pub contains_passing : (f : ℕ → Bool) (xs : List ℕ) (p : ℕ) → Contains xs p → f p ≡ true → Contains (filter f xs) p
contains_passing f [] p c t = absurd (contains_none p c)
contains_passing f (x ∷ xs) p c t = ⊎_elim
    (λ (same : x ≡ p). subst (λ b. Contains (cond b (x ∷ filter f xs) (filter f xs)) p) (sym (ap f same ∙ t)) (subst (λ q. Contains (q ∷ filter f xs) p) (sym same) (contains_head p (filter f xs))))
    (λ later. by_test (f x) (contains_passing f xs p later t))
    (contains_cons x p xs c)
  where
    by_test : (b : Bool) → Contains (filter f xs) p → Contains (cond b (x ∷ filter f xs) (filter f xs)) p
    by_test true c = contains_later x p (filter f xs) c
    by_test false c = c

pub passing_contains : (f : ℕ → Bool) (xs : List ℕ) (p : ℕ) → Contains (filter f xs) p → Contains xs p × (f p ≡ true)
passing_contains f [] p c = absurd (contains_none p c)
passing_contains f (x ∷ xs) p c = by_test (f x) refl c (passing_contains f xs p)
  where
    by_test : (b : Bool) → f x ≡ b → Contains (cond b (x ∷ filter f xs) (filter f xs)) p → (Contains (filter f xs) p → Contains xs p × (f p ≡ true)) → Contains (x ∷ xs) p × (f p ≡ true)
    by_test true is c more = ⊎_elim
        (λ (same : x ≡ p). (subst (Contains (x ∷ xs)) same (contains_head x xs), ap f (sym same) ∙ is))
        (λ later. let w = more later in (contains_later x p xs w.0, w.1))
        (contains_cons x p (filter f xs) c)
    by_test false is c more = let w = more c in (contains_later x p xs w.0, w.1)

ascends_passing : (f : ℕ → Bool) (low high : ℕ) (xs : List ℕ) → Ascends low high xs → Ascends low high (filter f xs)
ascends_passing f low high [] a = tt
ascends_passing f low high (x ∷ xs) a = by_test (f x) (ascends_passing f x high xs a.2)
  where
    by_test : (b : Bool) → Ascends x high (filter f xs) → Ascends low high (cond b (x ∷ filter f xs) (filter f xs))
    by_test true rest = (a.0, a.1, rest)
    by_test false rest = let l = a.0 in ascends_from low x high (filter f xs) (omega arith) rest

-- those of a list that are above a number
pub ascends_above : (end high : ℕ) (xs : List ℕ) → Ascends 0 high xs → Ascends end high (filter (nat_lt end) xs)
ascends_above end high xs a = raised (filter (nat_lt end) xs) (ascends_passing (nat_lt end) 0 high xs a) (λ p c. ltb-true end p (passing_contains (nat_lt end) xs p c).1)
  where
    raised : (ys : List ℕ) → Ascends 0 high ys → ((p : ℕ) → Contains ys p → end < p) → Ascends end high ys
    raised [] a h = tt
    raised (y ∷ ys) a h = (h y (contains_head y ys), a.1, a.2)

-- lists in ascending order that have the same numbers are the same
pub same_ascending : (low high : ℕ) (xs ys : List ℕ) → Ascends low high xs → Ascends low high ys → ((p : ℕ) → Contains xs p → Contains ys p) → ((p : ℕ) → Contains ys p → Contains xs p) → xs ≡ ys
same_ascending low high [] [] a b f g = refl
same_ascending low high [] (y ∷ ys) a b f g = absurd (contains_none y (g y (contains_head y ys)))
same_ascending low high (x ∷ xs) [] a b f g = absurd (contains_none x (f x (contains_head x xs)))
same_ascending low high (x ∷ xs) (y ∷ ys) a b f g = joined (same_ascending x high xs ys a.2 (subst (λ k. Ascends k high ys) (sym same) b.2) (λ p c. into p c) (λ p c. back p c))
  where
    same : x ≡ y
    same = ⊎_elim
        (λ (e : y ≡ x). sym e)
        (λ late. ⊎_elim
        (λ (e : x ≡ y). e)
        (λ early. let l = (ascends_within y high ys x b.2 late).0 in let k = (ascends_within x high xs y a.2 early).0 in absurd (omega arith))
        (contains_cons x y xs (g y (contains_head y ys))))
        (contains_cons y x ys (f x (contains_head x xs)))

    into : (p : ℕ) → Contains xs p → Contains ys p
    into p c = ⊎_elim
        (λ (e : y ≡ p). let l = (ascends_within x high xs p a.2 c).0 in let s = same in absurd (omega arith))
        (λ later. later)
        (contains_cons y p ys (f p (contains_later x p xs c)))

    back : (p : ℕ) → Contains ys p → Contains xs p
    back p c = ⊎_elim
        (λ (e : x ≡ p). let l = (ascends_within y high ys p b.2 c).0 in let s = same in absurd (omega arith))
        (λ later. later)
        (contains_cons x p xs (g p (contains_later y p ys c)))

    joined : xs ≡ ys → (x ∷ xs) ≡ (y ∷ ys)
    joined rest = λ i. same i ∷ rest i

module _ (f : ℕ → Bool) where
  -- the numbers up to n that pass
  passing : ℕ → List ℕ
  passing n = filter f (up_to n)

  pub ascends_filter : (n : ℕ) → Ascends 0 n (filter f (up_to n))
  ascends_filter zero = tt
  ascends_filter (suc n) = subst (Ascends 0 (suc n)) (sym (filter-append f (up_to n) (suc n ∷ []))) (by_test (f (suc n)) (ascends_filter n))
    where
      by_test : (b : Bool) → Ascends 0 n (filter f (up_to n)) → Ascends 0 (suc n) (filter f (up_to n) ++ cond b (suc n ∷ []) [])
      by_test true a = ascends_push 0 n (suc n) (suc n) (filter f (up_to n)) (omega arith) (omega arith) (omega arith) a
      by_test false a = subst (Ascends 0 (suc n)) (sym (append-nil (filter f (up_to n)))) (ascends_weak 0 n (suc n) (filter f (up_to n)) (omega arith) a)

  pub contains_filter : (n p : ℕ) → 1 ≤ p → p ≤ n → f p ≡ true → Contains (filter f (up_to n)) p
  contains_filter zero p low high t = absurd (omega arith)
  contains_filter (suc n) p low high t = subst (λ l. Contains l p) (sym (filter-append f (up_to n) (suc n ∷ []))) (⊎_elim
      (λ (last : p ≡ suc n). Contains-append_right (filter f (up_to n)) (filter f (suc n ∷ [])) p (subst (λ b. Contains (cond b (suc n ∷ []) []) p) (sym t ∙ ap f last) (subst (Contains (suc n ∷ [])) (sym last) (contains_head (suc n) []))))
      (λ (less : p ≢ suc n). Contains-append_left (filter f (up_to n)) (filter f (suc n ∷ [])) p (contains_filter n p low (omega arith) t))
      (cases_eq p (suc n)))

  pub passes : (n p : ℕ) → Contains (filter f (up_to n)) p → (1 ≤ p) × (p ≤ n) × (f p ≡ true)
  passes zero p c = absurd (contains_none p c)
  passes (suc n) p c = ⊎_elim
      (λ early. let w = passes n p early in let l = w.1 in (w.0, omega arith, w.2))
      (λ last. by_test (f (suc n)) refl last)
      (Contains-append_cases (filter f (up_to n)) (filter f (suc n ∷ [])) p (subst (λ l. Contains l p) (filter-append f (up_to n) (suc n ∷ [])) c))
    where
      by_test : (b : Bool) → f (suc n) ≡ b → Contains (cond b (suc n ∷ []) []) p → (1 ≤ p) × (p ≤ suc n) × (f p ≡ true)
      by_test true is last = let same : suc n ≡ p = contains_one (suc n) p last in (omega arith, omega arith, ap f (sym same) ∙ is)
      by_test false is last = absurd (contains_none p last)

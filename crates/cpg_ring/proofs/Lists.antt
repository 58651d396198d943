-- Lists read by place.
use Rattle.std.proofs.Common.{◌≡◌, ◌≢◌, ◌⊎◌, ℕ, zero, suc, ◌<◌, ◌≤◌, List, [], ◌∷◌, ◌++◌, length, set, Some, None, Contains, refl, ap, inl, inr, ⊎_elim, arith, slice_get, slice_index_or, length-set}
use Rattle.std.proofs.lemmas.Option.{none-some, same_Some, slice_get_within, get_or_from_slice_get, slice_get_past}
use Rattle.cpg_ring.specs.Worlds.{item, with_item}

module _ {X : Type 0} where
  pub set_cases : (xs : List X) (i j : ℕ) (y x : X) → slice_get (set xs i y) j ≡ Some x → ((j ≡ i) × (y ≡ x)) ⊎ ((j ≢ i) × (slice_get xs j ≡ Some x))
  set_cases [] i j y x e = absurd (none-some x e)
  set_cases (z ∷ xs) zero zero y x e = inl (refl, same_Some y x e)
  set_cases (z ∷ xs) zero (suc j) y x e = inr ((λ h. omega arith), e)
  set_cases (z ∷ xs) (suc i) zero y x e = inr ((λ h. omega arith), e)
  set_cases (z ∷ xs) (suc i) (suc j) y x e = ⊎_elim (λ t. inl (ap suc t.0, t.1)) (λ t. let n = t.0 in inr ((λ h. n (omega arith)), t.1)) (set_cases xs i j y x e)

  pub with_item_cases : (xs : List X) (n m : ℕ) (y x : X) → item (with_item xs n y) m ≡ Some x → ((m ≡ n) × (y ≡ x)) ⊎ ((m ≢ n) × (item xs m ≡ Some x))
  with_item_cases xs n zero y x e = absurd (none-some x e)
  with_item_cases xs zero (suc j) y x e = inr ((λ h. omega arith), e)
  with_item_cases xs (suc i) (suc j) y x e = ⊎_elim (λ t. inl (ap suc t.0, t.1)) (λ t. let n = t.0 in inr ((λ h. n (omega arith)), t.1)) (set_cases xs i j y x e)

  pub get_front : (xs ys : List X) (k : ℕ) (x : X) → slice_get xs k ≡ Some x → slice_get (xs ++ ys) k ≡ Some x
  get_front [] ys k x e = absurd (none-some x e)
  get_front (z ∷ xs) ys zero x e = e
  get_front (z ∷ xs) ys (suc k) x e = get_front xs ys k x e

  pub get_end : (xs : List X) (y : X) (ys : List X) → slice_get (xs ++ y ∷ ys) (length xs) ≡ Some y
  get_end [] y ys = refl
  get_end (z ∷ xs) y ys = get_end xs y ys

  pub get_push_cases : (xs : List X) (y : X) (k : ℕ) (x : X) → slice_get (xs ++ y ∷ []) k ≡ Some x → (slice_get xs k ≡ Some x) ⊎ ((k ≡ length xs) × (y ≡ x))
  get_push_cases [] y zero x e = inr (refl, same_Some y x e)
  get_push_cases [] y (suc k) x e = absurd (none-some x e)
  get_push_cases (z ∷ xs) y zero x e = inl e
  get_push_cases (z ∷ xs) y (suc k) x e = ⊎_elim inl (λ t. inr (ap suc t.0, t.1)) (get_push_cases xs y k x e)

  pub item_front : (xs ys : List X) (k : ℕ) (x : X) → item xs k ≡ Some x → item (xs ++ ys) k ≡ Some x
  item_front xs ys zero x e = e
  item_front xs ys (suc k) x e = get_front xs ys k x e

  pub item_within : (xs : List X) (k : ℕ) (x : X) → item xs k ≡ Some x → (1 ≤ k) × (k ≤ length xs)
  item_within xs zero x e = absurd (none-some x e)
  item_within xs (suc k) x e = (omega arith, slice_get_within xs k x e)

  get_there : (xs : List X) (k : ℕ) → k < length xs → (x : X) × (slice_get xs k ≡ Some x)
  get_there [] k h = absurd (omega arith)
  get_there (z ∷ xs) zero h = (z, refl)
  get_there (z ∷ xs) (suc k) h = get_there xs k (omega arith)

  pub item_there : (xs : List X) (k : ℕ) → 1 ≤ k → k ≤ length xs → (x : X) × (item xs k ≡ Some x)
  item_there xs zero h l = absurd (omega arith)
  item_there xs (suc k) h l = get_there xs k l

  pub item_past : (xs : List X) (k : ℕ) → length xs < k → item xs k ≡ None
  item_past xs zero h = refl
  item_past xs (suc k) h = slice_get_past xs k (omega arith)

  contains_get : (xs : List X) (k : ℕ) (x : X) → slice_get xs k ≡ Some x → Contains xs x
  contains_get xs k x e = (k, slice_get_within xs k x e, get_or_from_slice_get xs k x x e)

  pub contains_item : (xs : List X) (k : ℕ) (x : X) → item xs k ≡ Some x → Contains xs x
  contains_item xs zero x e = absurd (none-some x e)
  contains_item xs (suc k) x e = contains_get xs k x e

  pub contains_none : (x : X) → Contains [] x → ⊥
  contains_none x c = let h = c.1 in omega arith

  pub contains_one : (y x : X) → Contains (y ∷ []) x → y ≡ x
  contains_one y x c = at c.0 c.1 c.2
    where
      at : (k : ℕ) → k < 1 → slice_index_or (y ∷ []) k x ≡ x → y ≡ x
      at zero h e = e
      at (suc k) h e = absurd (omega arith)

  get_set_same : (xs : List X) (i : ℕ) (y x : X) → slice_get xs i ≡ Some x → slice_get (set xs i y) i ≡ Some y
  get_set_same [] i y x e = absurd (none-some x e)
  get_set_same (z ∷ xs) zero y x e = refl
  get_set_same (z ∷ xs) (suc i) y x e = get_set_same xs i y x e

  get_set_other : (xs : List X) (i j : ℕ) (y : X) → j ≢ i → slice_get (set xs i y) j ≡ slice_get xs j
  get_set_other [] i j y h = refl
  get_set_other (z ∷ xs) zero zero y h = absurd (h refl)
  get_set_other (z ∷ xs) zero (suc j) y h = refl
  get_set_other (z ∷ xs) (suc i) zero y h = refl
  get_set_other (z ∷ xs) (suc i) (suc j) y h = get_set_other xs i j y (λ e. h (ap suc e))

  pub item_with_same : (xs : List X) (n : ℕ) (y x : X) → item xs n ≡ Some x → item (with_item xs n y) n ≡ Some y
  item_with_same xs zero y x e = absurd (none-some x e)
  item_with_same xs (suc i) y x e = get_set_same xs i y x e

  pub item_with_other : (xs : List X) (n m : ℕ) (y : X) → m ≢ n → item (with_item xs n y) m ≡ item xs m
  item_with_other xs zero m y h = refl
  item_with_other xs (suc i) zero y h = refl
  item_with_other xs (suc i) (suc j) y h = get_set_other xs i j y (λ e. h (ap suc e))

  pub length-with_item : (xs : List X) (n : ℕ) (y : X) → length (with_item xs n y) ≡ length xs
  length-with_item xs zero y = refl
  length-with_item xs (suc i) y = length-set xs i y

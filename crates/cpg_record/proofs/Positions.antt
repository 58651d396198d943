-- The places of the records that pass a test: which they are, and what lies between them.
use Rattle.std.proofs.Common.{◌≡◌, ℕ, zero, suc, ◌+◌, ◌<◌, ◌≤◌, Bool, true, false, cond, List, [], ◌∷◌, ◌++◌, length, take, Option, Some, None, refl, sym, ap, ◌∙◌, arith, ◌⊎◌, inl, inr}
use Rattle.std.specs.List.{slice_get}
use Rattle.std.proofs.lemmas.Bool.{cases_lt}
use Rattle.cpg_record.specs.declared.records.Record.{Record}
use Rattle.cpg_record.specs.Places.{places_from}

-- the places after one record more
pub places_from-push : (q : Record → Bool) (m : ℕ) (rs : List Record) (r : Record) → places_from q m (rs ++ r ∷ []) ≡ places_from q m rs ++ cond (q r) ((m + length rs) ∷ []) []
places_from-push q m [] r = by_case (q r)
  where
    by_case : (b : Bool) → cond b (m ∷ []) [] ≡ cond b ((m + 0) ∷ []) []
    by_case true = ap (λ (n : ℕ). n ∷ []) (omega arith)
    by_case false = refl
places_from-push q m (s ∷ rs) r =
    let rest : places_from q (suc m) (rs ++ r ∷ []) ≡ places_from q (suc m) rs ++ cond (q r) ((m + suc (length rs)) ∷ []) [] =
    places_from-push q (suc m) rs r ∙ ap (λ (n : ℕ). places_from q (suc m) rs ++ cond (q r) (n ∷ []) []) (omega arith) in
    by_case (q s) rest
  where
    by_case : (b : Bool) → places_from q (suc m) (rs ++ r ∷ []) ≡ places_from q (suc m) rs ++ cond (q r) ((m + suc (length rs)) ∷ []) [] →
        cond b (m ∷ places_from q (suc m) (rs ++ r ∷ [])) (places_from q (suc m) (rs ++ r ∷ []))
        ≡ cond b (m ∷ places_from q (suc m) rs) (places_from q (suc m) rs) ++ cond (q r) ((m + suc (length rs)) ∷ []) []
    by_case true rest = ap (λ (ps : List ℕ). m ∷ ps) rest
    by_case false rest = rest

-- a record that passes, at its index
pub record Passes (q : Record → Bool) (rs : List Record) (m place : ℕ) : Type 0 where
  pub index : ℕ
  pub r : Record
  pub counted : place ≡ m + index
  pub stands : slice_get rs index ≡ Some r
  pub passes : q r ≡ true

further : (q : Record → Bool) (s : Record) (rs : List Record) (m place : ℕ) → Passes q rs (suc m) place → Passes q (s ∷ rs) m place
further q s rs m place p = record { index = suc p.index; r = p.r; counted = p.counted ∙ omega arith; stands = p.stands; passes = p.passes }

-- at each of the places stands one
pub sound : (q : Record → Bool) (m : ℕ) (rs : List Record) (i place : ℕ) → slice_get (places_from q m rs) i ≡ Some place → Passes q rs m place
sound q m [] i place is = absurd (cc)
sound q m (s ∷ rs) i place is = by_case (q s) refl (sound q (suc m) rs) i is
  where
    by_case : (b : Bool) → q s ≡ b → ((i place : ℕ) → slice_get (places_from q (suc m) rs) i ≡ Some place → Passes q rs (suc m) place) → (i : ℕ) → slice_get (cond b (m ∷ places_from q (suc m) rs) (places_from q (suc m) rs)) i ≡ Some place → Passes q (s ∷ rs) m place
    by_case true at rest zero h =
        let here : m ≡ place = cc in
        record { index = 0; r = s; counted = sym here ∙ omega arith; stands = refl; passes = at }
    by_case true at rest (suc k) h = further q s rs m place (rest k place h)
    by_case false at rest k h = further q s rs m place (rest k place h)

-- and where one stands is one of the places
pub complete : (q : Record → Bool) (m : ℕ) (rs : List Record) (j : ℕ) (r : Record) → slice_get rs j ≡ Some r → q r ≡ true →
    (i : ℕ) × (slice_get (places_from q m rs) i ≡ Some (m + j))
complete q m [] j r is passes = absurd (cc)
complete q m (s ∷ rs) zero r is passes =
    let same : s ≡ r = cc in
    (0, ap (λ (b : Bool). slice_get (cond b (m ∷ places_from q (suc m) rs) (places_from q (suc m) rs)) 0) (ap q same ∙ passes) ∙ ap Some (omega arith))
complete q m (s ∷ rs) (suc j) r is passes = by_case (q s) (complete q (suc m) rs j r is passes)
  where
    by_case : (b : Bool) → (i : ℕ) × (slice_get (places_from q (suc m) rs) i ≡ Some (suc m + j)) →
        (i : ℕ) × (slice_get (cond b (m ∷ places_from q (suc m) rs) (places_from q (suc m) rs)) i ≡ Some (m + suc j))
    by_case true (i, at) = (suc i, at ∙ ap Some (omega arith))
    by_case false (i, at) = (i, at ∙ ap Some (omega arith))

-- a later one of the places is greater
pub ascending : (q : Record → Bool) (m : ℕ) (rs : List Record) (i k p s : ℕ) → slice_get (places_from q m rs) i ≡ Some p → slice_get (places_from q m rs) k ≡ Some s → i < k → p < s
ascending q m [] i k p s a b h = absurd (cc)
ascending q m (r ∷ rs) i k p s a b h = by_case (q r) (λ i k. ascending q (suc m) rs i k p s) i k a b h
  where
    by_case : (t : Bool) → ((i k : ℕ) → slice_get (places_from q (suc m) rs) i ≡ Some p → slice_get (places_from q (suc m) rs) k ≡ Some s → i < k → p < s) → (i k : ℕ) → slice_get (cond t (m ∷ places_from q (suc m) rs) (places_from q (suc m) rs)) i ≡ Some p →
        slice_get (cond t (m ∷ places_from q (suc m) rs) (places_from q (suc m) rs)) k ≡ Some s → i < k → p < s
    by_case false rest i k a b h = rest i k a b h
    by_case true rest i zero a b h = absurd (omega arith)
    by_case true rest zero (suc k) a b h =
        let later = sound q (suc m) rs k s b in
        let here : m ≡ p = cc in
        omega (arith, later.counted, here)
    by_case true rest (suc i) (suc k) a b h = rest i k a b (omega arith)

-- ---- what only records that pass can change

-- past the end a front stays
take_past_end : (rs : List Record) (n : ℕ) → slice_get rs n ≡ None → take (suc n) rs ≡ take n rs
take_past_end [] zero h = refl
take_past_end [] (suc n) h = refl
take_past_end (r ∷ rs) zero h = absurd (cc)
take_past_end (r ∷ rs) (suc n) h = ap (λ (front : List Record). r ∷ front) (take_past_end rs n h)

pub take_next : (rs : List Record) (n : ℕ) (r : Record) → slice_get rs n ≡ Some r → take (suc n) rs ≡ take n rs ++ r ∷ []
take_next [] n r h = absurd (cc)
take_next (s ∷ rs) zero r h =
    let same : s ≡ r = cc in
    ap (λ (q : Record). q ∷ []) same
take_next (s ∷ rs) (suc n) r h = ap (λ (front : List Record). s ∷ front) (take_next rs n r h)

-- what records that do not pass leave as it is stays over a stretch without one that passes
module _ {X : Type 0} (state : List Record → X) (q : Record → Bool) (rs : List Record)
    (keeps : (n : ℕ) (r : Record) → slice_get rs n ≡ Some r → q r ≡ false → state (take n rs ++ r ∷ []) ≡ state (take n rs)) where
  pub stays : (from to : ℕ) → from ≤ to → ((n : ℕ) (r : Record) → from ≤ n → n < to → slice_get rs n ≡ Some r → q r ≡ false) → state (take to rs) ≡ state (take from rs)
  stays from zero h quiet =
      let same : 0 ≡ from = omega arith in
      ap (λ (n : ℕ). state (take n rs)) same
  stays from (suc to) h quiet = by_case (cases_lt to from) (λ low. stays from to low (λ n r a b is. quiet n r a (omega arith) is))
    where
      step : (o : Option Record) → from ≤ to → slice_get rs to ≡ o → state (take (suc to) rs) ≡ state (take to rs)
      step None low is = ap state (take_past_end rs to is)
      step (Some r) low is = ap state (take_next rs to r is) ∙ keeps to r is (quiet to r low (omega arith) is)

      by_case : (to < from) ⊎ (from ≤ to) → (from ≤ to → state (take to rs) ≡ state (take from rs)) → state (take (suc to) rs) ≡ state (take from rs)
      by_case (inl below) rest =
          let same : suc to ≡ from = omega arith in
          ap (λ (n : ℕ). state (take n rs)) same
      by_case (inr low) rest = step (slice_get rs to) low refl ∙ rest low

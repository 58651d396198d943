-- lists of numbers that grow
use Rattle.std.proofs.Common.{◌≡◌, ℕ, ◌<◌, ◌≤◌, ◌≢◌, ◌==◌, nat_eq, List, [], ◌∷◌, ◌++◌, length, take, Bool, true, false, ◌||◌, refl, sym, ap, subst, ◌∙◌, append-nil, append_assoc, arith}
use Rattle.std.proofs.lemmas.Bool.Decides.{nat_tests}
use Rattle.std.proofs.lemmas.List.{take-append-le, take_all, length-append}
use Rattle.std.proofs.lemmas.Map.Keys.{IsDistinct-head, IsDistinct-tail}
use Rattle.std.specs.Prelude.{if◌then◌else◌}
use Rattle.std.specs.List.{list_any, AllByRecursion, IsDistinct}
use Rattle.cpg_cred.specs.Listed.{with_number, with_numbers}

-- the first numbers stay, as a number goes last
front_after_one : (n : ℕ) (numbers : List ℕ) (number : ℕ) (test : Bool) → n ≤ length numbers
    → (n ≤ length (if test then numbers else numbers ++ number ∷ [])) × (take n (if test then numbers else numbers ++ number ∷ []) ≡ take n numbers)
front_after_one n numbers number true within = (within, refl)
front_after_one n numbers number false within =
    (omega (arith, length-append numbers (number ∷ [])), take-append-le n numbers (number ∷ []) within)

front_after : (n : ℕ) (numbers more : List ℕ) → n ≤ length numbers → take n (with_numbers numbers more) ≡ take n numbers
front_after n numbers [] within = refl
front_after n numbers (number ∷ more) within =
    let one = front_after_one n numbers number (list_any (λ listed. number == listed) numbers) within in
    front_after n (with_number numbers number) more one.0 ∙ one.1

-- the first numbers stay, whatever is added
pub front_kept : (numbers more : List ℕ) → take (length numbers) (with_numbers numbers more) ≡ numbers
front_kept numbers more = front_after (length numbers) numbers more (omega arith) ∙ take_all (length numbers) numbers (omega arith)

-- a number amid others has what each of them has
amid : (P : ℕ → Type 0) (before : List ℕ) (number : ℕ) (after : List ℕ) → AllByRecursion P (before ++ number ∷ after) → P number
amid P [] number after h = h.0
amid P (first ∷ before) number after h = amid P before number after h.1

-- of numbers that differ, none is among those before it
absent : (before : List ℕ) (number : ℕ) (after : List ℕ) → IsDistinct nat_eq (before ++ number ∷ after) → list_any (λ listed. number == listed) before ≡ false
absent [] number after apart = refl
absent (first ∷ before) number after apart =
    let other : first == number ≡ false = amid (λ y. nat_eq first y ≡ false) before number after (IsDistinct-head nat_eq first (before ++ number ∷ after) apart) in
    let flipped : number == first ≡ false = grind (arith, nat_tests, other) in
    ap (λ test. test || list_any (λ listed. number == listed) before) flipped ∙ absent before number after (IsDistinct-tail nat_eq first (before ++ number ∷ after) apart)

-- numbers that differ are all added
all_new : (before after : List ℕ) → IsDistinct nat_eq (before ++ after) → with_numbers before after ≡ before ++ after
all_new before [] apart = sym (append-nil before)
all_new before (number ∷ after) apart =
    let whole = append_assoc before (number ∷ []) after in
    let grown : with_number before number ≡ before ++ number ∷ [] = ap (λ test. if test then before else before ++ number ∷ []) (absent before number after apart) in
    ap (λ numbers. with_numbers numbers after) grown ∙ all_new (before ++ number ∷ []) after (subst (IsDistinct nat_eq) (sym whole) apart) ∙ whole

-- so a list of such numbers is made anew
pub made_anew : (numbers : List ℕ) → IsDistinct nat_eq numbers → with_numbers [] numbers ≡ numbers
made_anew numbers apart = all_new [] numbers apart

-- no number goes
kept_by_one : (numbers : List ℕ) (number : ℕ) (test : Bool) → length numbers ≤ length (if test then numbers else numbers ++ number ∷ [])
kept_by_one numbers number true = omega arith
kept_by_one numbers number false = omega (arith, length-append numbers (number ∷ []))

never_fewer : (numbers more : List ℕ) → length numbers ≤ length (with_numbers numbers more)
never_fewer numbers [] = omega arith
never_fewer numbers (number ∷ more) =
    omega (arith, kept_by_one numbers number (list_any (λ listed. number == listed) numbers), never_fewer (with_number numbers number) more)

-- there are more numbers where one was absent as its turn came
more_with : (numbers before : List ℕ) (number : ℕ) (after : List ℕ) → list_any (λ listed. number == listed) (with_numbers numbers before) ≡ false
    → length numbers < length (with_numbers numbers (before ++ number ∷ after))
more_with numbers [] number after lacks =
    let grown : with_number numbers number ≡ numbers ++ number ∷ [] = ap (λ test. if test then numbers else numbers ++ number ∷ []) lacks in
    omega (arith, ap length grown, length-append numbers (number ∷ []), never_fewer (with_number numbers number) after)
more_with numbers (first ∷ before) number after lacks =
    omega (arith, kept_by_one numbers first (list_any (λ listed. first == listed) numbers), more_with (with_number numbers first) before number after lacks)

-- so the numbers are not the same
pub grows_with : (numbers before : List ℕ) (number : ℕ) (after : List ℕ) → list_any (λ listed. number == listed) (with_numbers numbers before) ≡ false
    → with_numbers numbers (before ++ number ∷ after) ≢ numbers
grows_with numbers before number after lacks same = absurd (omega (arith, more_with numbers before number after lacks, ap length same))

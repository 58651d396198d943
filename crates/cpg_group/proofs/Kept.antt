-- What holds after every answer, a front that is all, and the names of a map's keys.
use Rattle.std.proofs.Math.Seq.{take-nil}
use Rattle.std.proofs.Common.{◌≡◌, ◌≤◌, zero, suc, length, take, arith, ℕ, nat_eq, false, List, [], ◌∷◌, map, refl, ap}
use Rattle.std.specs.Prelude.{Result, Ok, Err, OnOk, OnErr}
use Rattle.std.specs.List.{AllByRecursion, IsDistinct}
use Rattle.std.specs.Map.{keys_of}
use Rattle.std.specs.Cmp.Lexicographic.{pointwise}
use Rattle.std.specs.Str.{bytes_eq}
use Rattle.std.specs.declared.vec.Vec.{Vec}
use Rattle.cpg_record.specs.Named.{named, names_of}
use Rattle.cpg_group.specs.Standing.{GroupValue}

-- what holds after success, or after a refusal, where it holds always
pub always_ok : {X E : Type 0} (r : Result X E) {P : Type 0} → P → OnOk r P
always_ok (Ok x) p = p
always_ok (Err e) p = tt

pub always_err : {X E : Type 0} (r : Result X E) {P : Type 0} → P → OnErr r P
always_err (Ok x) p = tt
always_err (Err e) p = p

-- a front that is long enough is all
pub take_past : {X : Type 0} (n : ℕ) (xs : List X) → length xs ≤ n → take n xs ≡ xs
take_past n [] h = take-nil n
take_past zero (x ∷ xs) h = absurd (omega arith)
take_past {X} (suc n) (x ∷ xs) h = ap (λ (rest : List X). x ∷ rest) (take_past n xs (omega arith))

-- the names of keys are the names of groups
pub keys_named : {Z : Type 0} (entries : List (Vec ℕ Z × GroupValue)) → map (λ key. key.items) (keys_of entries) ≡ names_of (named entries)
keys_named [] = refl
keys_named (entry ∷ entries) = ap (λ (names : List (List ℕ)). entry.0.items ∷ names) (keys_named entries)

-- keys that differ have names that differ
apart_from : {Z : Type 0} (name : List ℕ) (entries : List (Vec ℕ Z × GroupValue)) → AllByRecursion (λ key. pointwise nat_eq name key.items ≡ false) (keys_of entries) →
    AllByRecursion (λ other. bytes_eq name other ≡ false) (names_of (named entries))
apart_from name [] apart = tt
apart_from name (entry ∷ entries) apart = (apart.0, apart_from name entries apart.1)

pub names_apart : {Z : Type 0} (entries : List (Vec ℕ Z × GroupValue)) → IsDistinct (λ a b. pointwise nat_eq a.items b.items) (keys_of entries) →
    IsDistinct bytes_eq (names_of (named entries))
unfolding IsDistinct
names_apart [] apart = tt
names_apart (entry ∷ entries) apart = (apart_from entry.0.items entries apart.0, names_apart entries apart.1)

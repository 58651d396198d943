-- What a filter keeps, and what a test of a whole list says.
use Rattle.std.proofs.Common.{◌≡◌, zero, suc, Bool, true, false, ◌||◌, cond, List, [], ◌∷◌, Contains, refl, sym, ap, subst, ◌∙◌, arith}
use Rattle.std.specs.List.{filter, list_any}
use Rattle.std.proofs.lemmas.List.Elements.{All-contains, All-contains_itself, All-filter, Contains-append_right, filter_passes}

-- one element more in front
pub Contains-behind : {X : Type 0} (y : X) (xs : List X) (x : X) → Contains xs x → Contains (y ∷ xs) x
Contains-behind y xs x h = Contains-append_right (y ∷ []) xs x h

-- what passes is kept
pub Contains-filter : {X : Type 0} (p : X → Bool) (xs : List X) (x : X) → p x ≡ true → Contains xs x → Contains (filter p xs) x
Contains-filter p [] x passes (k, below, at) = absurd (omega arith)
Contains-filter {X} p (y ∷ ys) x passes (zero, below, at) =
    let here : p y ≡ true = ap p at ∙ passes in
    subst (λ (b : Bool). Contains (cond b (y ∷ filter p ys) (filter p ys)) x) (sym here) (0, omega arith, at)
Contains-filter {X} p (y ∷ ys) x passes (suc k, below, at) = either (p y) (Contains-filter p ys x passes (k, omega arith, at))
  where
    either : (b : Bool) → Contains (filter p ys) x → Contains (cond b (y ∷ filter p ys) (filter p ys)) x
    either true h = Contains-behind y (filter p ys) x h
    either false h = h

-- what is kept passes, and was there
pub Contains-from_filter : {X : Type 0} (p : X → Bool) (xs : List X) (x : X) → Contains (filter p xs) x → (p x ≡ true) × Contains xs x
Contains-from_filter p xs x h = (
  All-contains (λ y. p y ≡ true) (filter p xs) x (filter_passes p xs) h,
  All-contains (Contains xs) (filter p xs) x (All-filter p (Contains xs) xs (All-contains_itself xs)) h,
)

-- one of a list passes where the test of the whole says so
pub any_passes : {X : Type 0} (p : X → Bool) (list : List X) → list_any p list ≡ true → (m : X) × Contains list m × (p m ≡ true)
any_passes p [] h = absurd (cc)
any_passes {X} p (m ∷ list) h = by_case (p m) refl (any_passes p list) h
  where
    by_case : (b : Bool) → p m ≡ b → (list_any p list ≡ true → (n : X) × Contains list n × (p n ≡ true)) → (b || list_any p list) ≡ true → (n : X) × Contains (m ∷ list) n × (p n ≡ true)
    by_case true is others k = (m, (0, omega arith, refl), is)
    by_case false is others k = let o = others k in (o.0, Contains-behind m list o.0 o.1, o.2)

pub passes_any : {X : Type 0} (p : X → Bool) (list : List X) (m : X) → Contains list m → p m ≡ true → list_any p list ≡ true
passes_any p [] m (k, below, is) passes = absurd (omega arith)
passes_any p (n ∷ list) m (zero, below, is) passes = ap (λ (b : Bool). b || list_any p list) (ap p is ∙ passes)
passes_any p (n ∷ list) m (suc k, below, is) passes =
    ap (λ (b : Bool). p n || b) (passes_any p list m (k, omega arith, is) passes) ∙ or_true (p n)
  where
    or_true : (b : Bool) → (b || true) ≡ true
    or_true true = refl
    or_true false = refl

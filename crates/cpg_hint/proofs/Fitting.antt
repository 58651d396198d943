-- how a reason goes with a meaning, word by word
use Rattle.std.proofs.Common.{◌≡◌, ℕ, Bool, true, false, not, List, Option, Some, None, is_some, option_map, refl, sym, subst}
use Rattle.std.specs.Prelude.{if◌then◌else◌}
use Rattle.std.specs.Option.{ok_or}
use Rattle.std.specs.Str.{bytes_eq}
use Rattle.std.proofs.lemmas.Slice.Eq.{bytes_eq-Decides}
use Rattle.cpg_text.specs.Words.{◌>>=◌}
use Rattle.cpg_hint.specs.declared.patterns.Expected.{Expected}
use Rattle.cpg_hint.specs.declared.words.Mismatch.{Mismatch}
use Rattle.cpg_hint.specs.Patterns.{or_mismatch}

-- a word that is read goes on with the words behind it
pub read_on : {A B : Type 0} (o : Option A) (f : A → Option B) (later : List Expected) (expected : Expected) (index : ℕ) (more : List Expected → Option Mismatch)
    → ((a : A) → is_some (f a) ≡ not (is_some (more later)))
    → is_some (o >>= f) ≡ not (is_some (or_mismatch index (ok_or (if is_some o then Some later else None) expected) more))
read_on None f later expected index more h = refl
read_on (Some a) f later expected index more h = h a

-- the same where more is made of what is read
pub read_then : {A B C : Type 0} (o : Option A) (f : A → Option B) (k : B → Option C) (later : List Expected) (expected : Expected) (index : ℕ) (more : List Expected → Option Mismatch)
    → ((a : A) → is_some (f a >>= k) ≡ not (is_some (more later)))
    → is_some ((o >>= f) >>= k) ≡ not (is_some (or_mismatch index (ok_or (if is_some o then Some later else None) expected) more))
read_then None f k later expected index more h = refl
read_then (Some a) f k later expected index more h = h a

-- and where the value is the last that is read
pub read_last : {A B : Type 0} (o : Option A) (f : A → B) (later : List Expected) (expected : Expected) (index : ℕ) (more : List Expected → Option Mismatch)
    → true ≡ not (is_some (more later))
    → is_some (option_map f o) ≡ not (is_some (or_mismatch index (ok_or (if is_some o then Some later else None) expected) more))
read_last None f later expected index more h = refl
read_last (Some a) f later expected index more h = h

-- where a later word does not fit there is a reason, whether or not this one fits
pub mismatch_later : (b : Bool) (later : List Expected) (expected : Expected) (index : ℕ) (more : List Expected → Option Mismatch)
    → is_some (more later) ≡ true → is_some (or_mismatch index (ok_or (if b then Some later else None) expected) more) ≡ true
mismatch_later true later expected index more h = h
mismatch_later false later expected index more h = refl

not_some : (b : Bool) → b ≡ true → false ≡ not b
not_some true h = refl
not_some false h = h

-- and so there is none where nothing is said
pub no_later : (b : Bool) (later : List Expected) (expected : Expected) (index : ℕ) (more : List Expected → Option Mismatch)
    → is_some (more later) ≡ true → false ≡ not (is_some (or_mismatch index (ok_or (if b then Some later else None) expected) more))
no_later true later expected index more h = not_some (is_some (more later)) h
no_later false later expected index more h = refl

-- a word that is a name, or is not
name_along : (P : List ℕ → Type 0) (word name : List ℕ) (b : Bool) → bytes_eq word name ≡ b → P name → (bytes_eq word name ≡ false → P word) → P word
name_along P word name true e is isnt = subst P (sym ((bytes_eq-Decides word name).0 e)) is
name_along P word name false e is isnt = isnt e

pub by_name : (P : List ℕ → Type 0) (word name : List ℕ) → P name → (bytes_eq word name ≡ false → P word) → P word
by_name P word name is isnt = name_along P word name (bytes_eq word name) refl is isnt

-- and where what is read is all
pub read_here : {A : Type 0} (o : Option A) (later : List Expected) (expected : Expected) (index : ℕ) (more : List Expected → Option Mismatch)
    → true ≡ not (is_some (more later))
    → is_some o ≡ not (is_some (or_mismatch index (ok_or (if is_some o then Some later else None) expected) more))
read_here None later expected index more h = refl
read_here (Some a) later expected index more h = h

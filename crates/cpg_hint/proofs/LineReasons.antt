-- a reason for each ask that is none, and for each line of a names part that is faulty
use Rattle.std.proofs.Common.{◌≡◌, ℕ, Bool, true, false, not, List, [], ◌∷◌, codes, Option, Some, None, is_some, Err, is_ok, refl, ◌∙◌}
use Rattle.std.specs.Prelude.{if◌then◌else◌}
use Rattle.std.specs.Option.{ok_or}
use Rattle.std.specs.Str.{bytes_eq}
use Rattle.cpg_cred.specs.declared.refusals.Refusal.{Refusal}
use Rattle.cpg_cred.specs.declared.refusals.Refusal.TheVariants.{BadLine, BadValue}
use Rattle.cpg_text.specs.Words.{u32_of}
use Rattle.cpg_conf.specs.Names.{Naming, User, Group, made, naming_in, three}
use Rattle.cpg_accept.specs.Asks.{cred_of}
use Rattle.cpg_hint.specs.declared.patterns.Expected.{Expected}
use Rattle.cpg_hint.specs.declared.patterns.Expected.TheVariants as expected
use Rattle.cpg_hint.specs.declared.words.Mismatch.{Mismatch}
use Rattle.cpg_hint.specs.Patterns.{first_mismatch, or_mismatch}
use Rattle.cpg_hint.specs.Reasons.{why_no_ask, why_no_naming}
use Rattle.cpg_hint.proofs.Fitting.{read_here, read_on, mismatch_later, no_later}

pub ask_why : (words : List (List ℕ)) → is_some (cred_of words) ≡ not (is_some (why_no_ask words))
ask_why [] = refl
ask_why (a ∷ []) = search (no_later)
ask_why (a ∷ b ∷ []) = search (read_on)
ask_why (a ∷ b ∷ x ∷ more) = search (no_later, mismatch_later)

-- a number makes something where it is read
made_is : {A : Type 0} (make : ℕ → A) (o : Option ℕ) (refusal : Refusal) → is_ok (made make (ok_or o refusal)) ≡ is_some o
made_is make None refusal = refl
made_is make (Some n) refusal = refl

-- three words that begin with `user` or `group` say what their number makes
three_why : (user group : Bool) (o : Option ℕ) (f g : ℕ → Naming) (bad_value bad_line : Refusal) (later : List Expected) (expected : Expected) (index : ℕ) (more : List Expected → Option Mismatch)
    → is_some o ≡ not (is_some (more later))
    → is_ok (if user then made f (ok_or o bad_value) else if group then made g (ok_or o bad_value) else Err bad_line)
    ≡ not (is_some (or_mismatch index (ok_or (if (if user then true else group) then Some later else None) expected) more))
three_why true group o f g bad_value bad_line later expected index more h = made_is f o bad_value ∙ h
three_why false true o f g bad_value bad_line later expected index more h = made_is g o bad_value ∙ h
three_why false false o f g bad_value bad_line later expected index more h = refl

number_why : (name value : List ℕ) → is_some (u32_of value) ≡ not (is_some (first_mismatch 0 1 (expected.Named ∷ expected.Number ∷ []) (name ∷ value ∷ [])))
number_why name value = search (read_here)

pub naming_why : (line : ℕ) (words : List (List ℕ)) → is_ok (naming_in line (three words)) ≡ not (is_some (why_no_naming words))
naming_why line [] = refl
naming_why line (a ∷ []) = search (no_later)
naming_why line (a ∷ b ∷ []) = search (no_later)
naming_why line (a ∷ b ∷ c ∷ []) =
    three_why (bytes_eq a (codes "user")) (bytes_eq a (codes "group")) (u32_of c) (λ n. User b n) (λ n. Group b n) (BadValue line) (BadLine line)
    (expected.Named ∷ expected.Number ∷ []) expected.Table 0 (λ later. first_mismatch 0 1 later (b ∷ c ∷ [])) (number_why b c)
naming_why line (a ∷ b ∷ c ∷ x ∷ more) = search (no_later, mismatch_later)

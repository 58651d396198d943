-- a value that digits write, whatever name there is
use Rattle.std.proofs.Common.{◌≡◌, ℕ, List, [], ◌∷◌, Bool, true, false, Option, None, Some, Ok, Err, length, refl, ap, ◌∙◌, arith}
use Rattle.std.specs.Prelude.{◌==◌, if◌then◌else◌}
use Rattle.std.proofs.lemmas.Bool.Decides.{nat_tests}
use Rattle.std.specs.Option.{ok_or}
use Rattle.cpg_cred.specs.declared.refusals.Refusal.TheVariants.{BadValue, UnknownName}
use Rattle.cpg_text.specs.Numbers.{is_number, number_in}
use Rattle.cpg_conf.specs.Listed.{number_said}
use Rattle.cpg_conf.specs.Names.{value_on}

by_digits : (line : ℕ) (value : List ℕ) (known : Option ℕ) (number : ℕ) (digits : Bool) → is_number value ≡ digits → number_in 0 4294967295 value ≡ Some number
    → (if digits then value_on line value else ok_or known (UnknownName line)) ≡ Ok number
by_digits line value known number true is e = ap (λ found. ok_or found (BadValue line)) e
by_digits line value known number false is e = let none : None ≡ Some number = rw is at e in absurd (cc)

pub said_at_once : (line : ℕ) (value : List ℕ) (known : Option ℕ) (number : ℕ) → number_in 0 4294967295 value ≡ Some number → number_said line value known ≡ Ok number
said_at_once line [] known number e = absurd (cc)
said_at_once line (byte ∷ bytes) known number e =
    let has : (length (byte ∷ bytes) == 0) ≡ false = grind (arith, nat_tests) in
    ap (λ empty. if empty then Err (BadValue line) else if is_number (byte ∷ bytes) then value_on line (byte ∷ bytes) else ok_or known (UnknownName line)) has
    ∙ by_digits line (byte ∷ bytes) known number (is_number (byte ∷ bytes)) refl e

-- what lines of a conf text do to the sections
use Rattle.std.proofs.Common.{◌≡◌, ℕ, List, Option, Some, None, refl}
use Rattle.cpg_conf.specs.Lines.{keyed}
use Rattle.cpg_hint.specs.declared.parts.Turn.TheVariants as turn
use Rattle.cpg_hint.specs.Parts.{turn_of}

-- a key and a bad line do nothing
pub keyed_stays : (line : List ℕ) (colon : Option ℕ) → turn_of (keyed line colon) ≡ turn.Stays
keyed_stays line None = refl
keyed_stays line (Some colon) = refl

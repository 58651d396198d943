-- what is written of the lines of a text, where the writer tells its bytes
use Rattle.std.specs.Prelude.{ℕ, ◌≡◌, ⊤, List, ◌++◌, Option}
use Rattle.std.specs.List.{concat}
use Rattle.std.specs.Io.KnownBytes.{Appends, Keeps}
use Rattle.cpg_cred.specs.declared.refusals.Refusal.{Refusal}
use Rattle.cpg_cred.specs.declared.refusals.Refusal.TheVariants as refusal
use Rattle.cpg_text.specs.Streams.{AppendsFront}

-- known bytes grow by the first lines of the text, each whole
pub record AppendsLines (old new : Option (List ℕ)) (lines : List (List ℕ)) : Type 0 where
  pub front : List (List ℕ)
  pub rest : List (List ℕ)
  pub whole : lines ≡ front ++ rest
  pub written : Appends old new (concat front)

-- what a refusal leaves of the lines: a front of the text where the writer failed, and whole lines where
-- memory was refused
abbrev pub LeavesLines : List (List ℕ) → Refusal → Option (List ℕ) → Option (List ℕ) → Type 0
LeavesLines lines refusal.Write old new = AppendsFront old new (concat lines)
LeavesLines lines refusal.Memory old new = AppendsLines old new lines
LeavesLines lines _ old new = ⊥

-- nothing is written before the script was read and checked: other refusals than those of writing and of
-- memory leave nothing, whatever the reader tells
abbrev pub WritesLate : Refusal → Option (List ℕ) → Option (List ℕ) → Type 0
WritesLate refusal.Write old new = ⊤
WritesLate refusal.Memory old new = ⊤
WritesLate _ old new = Keeps old new

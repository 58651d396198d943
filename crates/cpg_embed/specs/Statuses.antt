-- The numbers that calls answer, and bytes that are handed over.
use Rattle.std.specs.Prelude.{◌≡◌, ℕ, List, ◌++◌, length, drop, nat_le, Option, Some, None, ◌⊎◌, Bool, true, false}
use Rattle.cpg_cred.specs.declared.refusals.Refusal.{Refusal}
use Rattle.cpg_cred.specs.declared.refusals.Refusal.TheVariants as refusal
use Rattle.cpg_cred.specs.Shown.{number}
use Rattle.cpg_embed.specs.declared.statuses.TheConstants.{OK, SPACE, NONE}

-- A status: the number of the first refusal that fits, with nothing changed; where none fits, 0 with what was done, or Memory's
-- with nothing changed.
abbrev pub IsStatus : Option Refusal → ℕ → Type 0 → Type 0 → Type 0
IsStatus (Some why) status same done = (status ≡ number why) × same
IsStatus None status same done = ((status ≡ OK) × done) ⊎ ((status ≡ number refusal.Memory) × same)

-- one of two statements, by a test
abbrev pub IfElse : Bool → Type 0 → Type 0 → Type 0
IfElse true yes_so not_so = yes_so
IfElse false yes_so not_so = not_so

-- Bytes are handed over where they fit: they stand at the buffer's front, and what lies behind them stays. Else all of the buffer stays.
abbrev pub IsHanded : List ℕ → List ℕ → ℕ → List ℕ → Type 0
IsHanded bytes buffer status filled =
    IfElse (nat_le (length bytes) (length buffer)) ((status ≡ OK) × (filled ≡ bytes ++ drop (length bytes) buffer)) ((status ≡ SPACE) × (filled ≡ buffer))

-- The same of bytes that may not be there.
abbrev pub AreHanded : Option (List ℕ) → List ℕ → ℕ → List ℕ → Type 0
AreHanded None buffer status filled = (status ≡ NONE) × (filled ≡ buffer)
AreHanded (Some bytes) buffer status filled = IsHanded bytes buffer status filled

-- Bytes are lent: how many there are.
abbrev pub AreLent : Option (List ℕ) → ℕ → ℕ → Type 0
AreLent None status len = status ≡ NONE
AreLent (Some bytes) status len = (status ≡ OK) × (len ≡ length bytes)

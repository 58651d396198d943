-- How many places a board has.
use Rattle.std.specs.Prelude.{ℕ, ◌≤◌}
use Rattle.cpg_cred.specs.declared.refusals.Refusal.{Refusal}
use Rattle.cpg_cred.specs.declared.refusals.Refusal.TheVariants.{Memory, Range}
use Rattle.cpg_record.specs.Judging.{most_places}

-- a board may have so many places
abbrev pub HasBoard : ℕ → Type 0
HasBoard places = (1 ≤ places) × (places ≤ most_places)

-- why a board of so many places isn't made
abbrev pub IsUnmade : ℕ → Refusal → Type 0
IsUnmade places Range = ¬ HasBoard places
IsUnmade places Memory = HasBoard places
IsUnmade places _ = ⊥

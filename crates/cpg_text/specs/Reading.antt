-- scripts whose lines say items
use Rattle.std.specs.Prelude.{ℕ, ◌≡◌, ◌+◌, ⊤, List, [], ◌∷◌, Option, Some, None, Result, Ok, Err}
use Rattle.cpg_cred.specs.declared.refusals.Refusal.{Refusal}
use Rattle.cpg_cred.specs.declared.refusals.Refusal.TheVariants as refusal
use Rattle.cpg_text.specs.Commands.{commands_of}

-- the item before those of the lines after it, or the number of the first line that has none
abbrev pub item_then : {T : Type 0} → ℕ → Option T → Result (List T) ℕ → Result (List T) ℕ
item_then number None later = Err number
item_then number (Some item) (Ok items) = Ok (item ∷ items)
item_then number (Some item) (Err line) = Err line

-- the items of numbered lines, or the first bad line; a meaning is what a trimmed line says after so many items
abbrev pub items_after : {T : Type 0} → (ℕ → List ℕ → Option T) → ℕ → List (ℕ × List ℕ) → Result (List T) ℕ
items_after meaning before [] = Ok []
items_after meaning before (line ∷ later) = item_then line.0 (meaning before line.1) (items_after meaning (before + 1) later)

-- the items of a script by that meaning, or the number of its first bad line
abbrev pub read_all : {T : Type 0} → (ℕ → List ℕ → Option T) → List ℕ → Result (List T) ℕ
read_all meaning script = items_after meaning 0 (commands_of script)

-- a refusal says the first bad line
abbrev pub FailsAs : {T : Type 0} → Result (List T) ℕ → Refusal → Type 0
FailsAs script (refusal.BadCommand line) = script ≡ Err line
FailsAs script refusal.Memory = ⊤
FailsAs script _ = ⊥

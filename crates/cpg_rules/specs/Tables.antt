-- tables as lists
use Rattle.std.specs.Prelude.{ℕ, Bool, ◌==◌, not, List}
use Rattle.std.specs.List.{filter, list_any}
use Rattle.cpg_rules.specs.declared.rules.Rule.{Rule}

-- a table, as contracts see it: each rule with its id, the rule that is asked first at the front
abbrev pub Rules : Type 0
Rules = List (ℕ × Rule)

-- a rule of the table has that id
abbrev pub has_id : ℕ → Rules → Bool
has_id id rules = list_any (λ entry. entry.0 == id) rules

-- the table without the rule of that id
abbrev pub without_id : ℕ → Rules → Rules
without_id id rules = filter (λ entry. not (entry.0 == id)) rules

-- How many members and rules there can be. It is the contract of a function of `src/laws.rt`, which has
-- nothing to do.
use Rattle.std.specs.Prelude.{ℕ, ◌≤◌, List, length, All}
use Rattle.cpg_rules.specs.declared.tables.TheConstants.{MOST_RULES}
use Rattle.cpg_entry.specs.declared.entries.Entry.{Entry}
use Rattle.cpg_record.specs.declared.limits.TheConstants.{MOST_MEMBERS}
use Rattle.cpg_record.specs.declared.records.Record.{Record}
use Rattle.cpg_record.specs.Judging.{judged}
use Rattle.cpg_record.specs.Membership.{members}
use Rattle.cpg_record.specs.RuleTables.{rules_of}

-- no group has too many members, no record lists too many, and no table has too many rules
pub record WithinBounds (records : List Record) : Type 0 where
  pub few_members : (g : List ℕ) → length (members records g) ≤ MOST_MEMBERS
  pub few_listed : All (λ r. length r.members ≤ MOST_MEMBERS) records
  pub few_rules : (g : List ℕ) → length (rules_of records g) ≤ MOST_RULES

-- so it is over judged records
abbrev pub JudgedWithinBounds : Type 0
JudgedWithinBounds = (entries : List Entry) → WithinBounds (judged entries)

-- What follows from the definitions, in the subject's own words. Each is the contract of a function of `src/laws.rt`,
-- which has nothing to do.
use Rattle.std.specs.Prelude.{ℕ, ◌≡◌, ◌≢◌, ◌<◌, ◌↔◌, ◌⊎◌, true, false, List, length, slice_get, Some}
use Rattle.std.specs.List.{position_or_len}
use Rattle.cpg_cred.specs.declared.bases.By.{By}
use Rattle.cpg_cred.specs.declared.bases.By.TheVariants as by
use Rattle.cpg_rules.specs.declared.decisions.Decision.{Decision}
use Rattle.cpg_rules.specs.declared.decisions.Decision.TheVariants.{Allowed, Denied}
use Rattle.cpg_rules.specs.declared.rules.Asker.{Asker}
use Rattle.cpg_rules.specs.declared.rules.Right.{Right}
use Rattle.cpg_rules.specs.declared.rules.Rule.{Rule}
use Rattle.cpg_rules.specs.declared.rules.Who.{Who}
use Rattle.cpg_rules.specs.Decision.{decide, default, matches, said_by, same_right, speaks}
use Rattle.cpg_rules.specs.Tables.{Rules, without_id}
use Rattle.cpg_entry.specs.declared.entries.Entry.{Entry}
use Rattle.cpg_entry.specs.Entries.{asker_of}
use Rattle.cpg_record.specs.declared.records.Record.{Record}
use Rattle.cpg_record.specs.declared.verdicts.Reason.TheVariants as reason
use Rattle.cpg_record.specs.declared.verdicts.Verdict.{Verdict}
use Rattle.cpg_record.specs.declared.verdicts.Verdict.TheVariants as verdicts
use Rattle.cpg_record.specs.Connections.{conn_of}
use Rattle.cpg_record.specs.Judging.{entry_group, record_of}
use Rattle.cpg_record.specs.Membership.{group_of, members}
use Rattle.cpg_record.specs.RuleTables.{rules_of}
use Rattle.cpg_record.specs.Verdicts.{verdict}
use Rattle.cpg_why.specs.declared.findings.Decided.TheVariants as decided
use Rattle.cpg_why.specs.declared.findings.Ruled.{Ruled}
use Rattle.cpg_why.specs.declared.findings.Unruled.{Unruled}
use Rattle.cpg_why.specs.declared.unmet.Unmet.{Unmet}
use Rattle.cpg_why.specs.Deciding.{decided_of, passed_rules, right_needed}
use Rattle.cpg_why.specs.Unmet.{had_by, unmet, wanted_by}
use Rattle.cpg_why.specs.Without.{verdict_under, verdict_without}

-- ---- the rule that is named

-- what a decision rests on
abbrev pub basis_of : Decision → By
basis_of (Allowed basis) = basis
basis_of (Denied basis) = basis

-- the verdict is by the rule of that number
abbrev pub IsByRule : Verdict → ℕ → Type 0
IsByRule given id = (given ≡ verdicts.Allowed (by.Rule id)) ⊎ (given ≡ verdicts.Denied (reason.Rule id))

-- where a verdict is by a rule, that rule is the one that is named
abbrev pub NamedIsTheVerdicts : Type 0
NamedIsTheVerdicts = (before : List Record) (entry : Entry) (right : Right) (g : List ℕ) (id : ℕ) → right_needed entry.op ≡ Some right →
    entry_group before entry entry.op ≡ Some g → IsByRule (verdict before entry) id →
    (told : Ruled) × (decided_of before (record_of before entry) ≡ decided.Rule told) × (told.id ≡ id)

-- the rule that decides is the one whose removal changes what decides: without it the decision rests on something
-- else, and without any other rule it is the same
pub record IsWhatDecides (rules : Rules) (right : Right) (asker : Asker) (id : ℕ) : Type 0 where
  pub without_it : basis_of (decide (without_id id rules) right asker) ≢ by.Rule id
  pub without_another : (other : ℕ) → other ≢ id → decide (without_id other rules) right asker ≡ decide rules right asker

-- so is each rule that a decision rests on
abbrev pub RemovalTellsWhatDecides : Type 0
RemovalTellsWhatDecides = (rules : Rules) (right : Right) (asker : Asker) (id : ℕ) → basis_of (decide rules right asker) ≡ by.Rule id →
    IsWhatDecides rules right asker id

-- a rule that is named: it decides, and stands where it is told to in the table of the group, which has so many; its removal changes what decides;
-- the rules of the right before it are those that it passed; and what is told as the verdict without it is that
pub record IsNamed (rules : Rules) (right : Right) (before : List Record) (entry : Entry) (told : Ruled) : Type 0 where
  pub decides : decide rules right (asker_of entry) ≡ said_by right (Some (told.id, told.rule))
  pub stands : slice_get rules told.index ≡ Some (told.id, told.rule)
  pub counted : told.rules ≡ length rules
  pub removal : IsWhatDecides rules right (asker_of entry) told.id
  pub passed : told.passed ≡ passed_rules right (asker_of entry) rules told.index
  pub without : told.without ≡ verdict_without rules told.id before entry

-- each rule that is told as what decided is named so, of the right that the entry needs, in its group's table
abbrev pub TellsRules : Type 0
TellsRules = (before : List Record) (entry : Entry) (right : Right) (g : List ℕ) (told : Ruled) → right_needed entry.op ≡ Some right →
    entry_group before entry entry.op ≡ Some g → decided_of before (record_of before entry) ≡ decided.Rule told →
    IsNamed (rules_of before g) right before entry told

-- where the default is told as what decided, it is that of the right, no rule speaks, and the rules of the right are all passed
abbrev pub TellsDefaults : Type 0
TellsDefaults = (before : List Record) (entry : Entry) (right : Right) (g : List ℕ) (told : Unruled) → right_needed entry.op ≡ Some right →
    entry_group before entry entry.op ≡ Some g → decided_of before (record_of before entry) ≡ decided.Default told →
    (told.right ≡ right) × (decide (rules_of before g) right (asker_of entry) ≡ default right)
    × (told.passed ≡ passed_rules right (asker_of entry) (rules_of before g) (length (rules_of before g)))

-- ---- what would hold without it

-- other records make the same of the entry's connection and of its group, but that the group has that table
pub record HasTable (before others : List Record) (entry : Entry) (g : List ℕ) (rules : Rules) : Type 0 where
  pub same_members : members others g ≡ members before g
  pub same_group : group_of others (conn_of entry) ≡ group_of before (conn_of entry)
  pub table : rules_of others g ≡ rules

-- what is told as the verdict under a table is the verdict over any records that make that table and all else the same
abbrev pub TellsVerdictsUnder : Type 0
TellsVerdictsUnder = (before others : List Record) (entry : Entry) (g : List ℕ) (rules : Rules) → entry_group before entry entry.op ≡ Some g →
    HasTable before others entry g rules → verdict others entry ≡ verdict_under rules before entry entry.op

-- what is told as the verdict without a rule is the verdict where the group's table lacks that rule, all else the same
abbrev pub TellsVerdictsWithout : Type 0
TellsVerdictsWithout = (before others : List Record) (entry : Entry) (g : List ℕ) (id : ℕ) → entry_group before entry entry.op ≡ Some g →
    HasTable before others entry g (without_id id (rules_of before g)) → verdict others entry ≡ verdict_without (rules_of before g) id before entry

-- ---- the rules that are passed

-- it is a condition of the rule, and the asker, which has what is told, does not meet it
pub record IsUnmet (who : Who) (asker : Asker) (found : Unmet) : Type 0 where
  pub wanted : wanted_by found.kind who ≡ Some found.wanted
  pub had : had_by found.kind asker ≡ found.has
  pub differs : found.has ≢ found.wanted

-- a rule does not match an asker exactly where a condition is told
abbrev pub TellsWhereNotMatched : Type 0
TellsWhereNotMatched = (who : Who) (asker : Asker) → (matches who asker ≡ false) ↔ ((found : Unmet) × (unmet who asker ≡ Some found))

-- what is told is a condition that the rule has and the asker does not meet
abbrev pub TellsTheUnmet : Type 0
TellsTheUnmet = (who : Who) (asker : Asker) (found : Unmet) → unmet who asker ≡ Some found → IsUnmet who asker found

-- a rule of the right that stands before the one that decides does not match the asker
abbrev pub PassedDoNotMatch : Type 0
PassedDoNotMatch = (rules : Rules) (right : Right) (asker : Asker) (index : ℕ) (entry : ℕ × Rule) → slice_get rules index ≡ Some entry →
    index < position_or_len (speaks right asker) rules → same_right entry.1.right right ≡ true → matches entry.1.who asker ≡ false

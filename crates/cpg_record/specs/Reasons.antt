-- Why an entry is answered as it is: the rule that decided, or the state that it met. Each law is the
-- contract of a function of `src/laws.rt`, which has nothing to do.
use Rattle.std.specs.Prelude.{ℕ, ◌≡◌, ◌≢◌, ◌<◌, ◌≤◌, ◌↔◌, true, false, List, ◌∷◌, ◌++◌, length, Some, Err, All, Contains}
use Rattle.cpg_cred.specs.declared.bases.By.{By}
use Rattle.cpg_cred.specs.declared.bases.By.TheVariants as by
use Rattle.cpg_rules.specs.declared.rules.Asker.{Asker}
use Rattle.cpg_rules.specs.declared.rules.Effect.{Effect}
use Rattle.cpg_rules.specs.declared.rules.Effect.TheVariants.{Allow, Deny}
use Rattle.cpg_rules.specs.declared.rules.Right.{Right}
use Rattle.cpg_rules.specs.declared.rules.Right.TheVariants as right
use Rattle.cpg_rules.specs.declared.rules.Rule.{Rule}
use Rattle.cpg_rules.specs.declared.tables.TheConstants.{MOST_RULES}
use Rattle.cpg_rules.specs.Decision.{speaks}
use Rattle.cpg_rules.specs.Tables.{Rules}
use Rattle.cpg_entry.specs.declared.calls.Call.TheVariants.{Join, Leave, Send, Insert, Remove}
use Rattle.cpg_entry.specs.declared.calls.Op.{Op}
use Rattle.cpg_entry.specs.declared.calls.Op.TheVariants.{Act, Gone}
use Rattle.cpg_entry.specs.declared.entries.Entry.{Entry}
use Rattle.cpg_entry.specs.Entries.{asker_of}
use Rattle.cpg_record.specs.declared.connections.ConnId.{ConnId}
use Rattle.cpg_record.specs.declared.limits.TheConstants.{MOST_MEMBERS}
use Rattle.cpg_record.specs.declared.memberships.Member.{Member}
use Rattle.cpg_record.specs.declared.records.Record.{Record}
use Rattle.cpg_record.specs.declared.verdicts.Reason.TheVariants as reason
use Rattle.cpg_record.specs.declared.verdicts.Verdict.{Verdict}
use Rattle.cpg_record.specs.declared.verdicts.Verdict.TheVariants.{Allowed, Denied}
use Rattle.cpg_record.specs.Connections.{conn_of}
use Rattle.cpg_record.specs.Judging.{judged}
use Rattle.cpg_record.specs.Laws.{InGroup}
use Rattle.cpg_record.specs.Listings.{listing}
use Rattle.cpg_record.specs.Membership.{members}
use Rattle.cpg_record.specs.Places.{record_at, records_before}
use Rattle.cpg_record.specs.RuleTables.{rules_of}

-- ---- what a table says

-- no rule of the list speaks of the right and the asker
abbrev pub AreSilent : Rules → Right → Asker → Type 0
AreSilent rules right asker = All (λ entry. speaks right asker entry ≡ false) rules

-- the first rule that speaks of the right and the asker, with its id
pub record IsFirst (rules : Rules) (right : Right) (asker : Asker) (id : ℕ) (rule : Rule) : Type 0 where
  pub earlier : Rules
  pub later : Rules
  pub stands : rules ≡ earlier ++ (id, rule) ∷ later
  pub speaks_so : speaks right asker (id, rule) ≡ true
  pub before_it : AreSilent earlier right asker

-- what a right is where no rule speaks: an edit is denied, and all else is allowed
abbrev pub by_default : Right → Effect
by_default right.Edit = Deny
by_default _ = Allow

-- the table has that effect: by the rule of that id, the first that speaks, or by default, where none does
abbrev pub Says : Rules → Right → Asker → Effect → By → Type 0
Says rules right asker effect (by.Rule id) = (rule : Rule) × IsFirst rules right asker id rule × (rule.effect ≡ effect)
Says rules right asker effect by.Default = AreSilent rules right asker × (effect ≡ by_default right)
Says rules right asker effect _ = ⊥

-- the table allows it
abbrev pub Lets : Rules → Right → Asker → Type 0
Lets rules right asker = (basis : By) × Says rules right asker Allow basis

-- the right to edit: user 0 has it as root, and for the others the table says
abbrev pub EditSays : Rules → Entry → Effect → By → Type 0
EditSays rules entry Allow by.Root = entry.cred.uid ≡ 0
EditSays rules entry effect basis = (entry.cred.uid ≢ 0) × Says rules right.Edit (asker_of entry) effect basis

-- the entry's maker may edit
abbrev pub LetsEdit : Rules → Entry → Type 0
LetsEdit rules entry = (basis : By) × EditSays rules entry Allow basis

-- ---- states

-- the connection is in a group
abbrev pub IsInSome : List Record → ConnId → Type 0
IsInSome before conn = (g : List ℕ) × InGroup before conn g

-- the entry's process is a member of the group
abbrev pub IsMemberAlready : List Record → Entry → List ℕ → Type 0
IsMemberAlready before entry g = (member : Member) × Contains (members before g) member × (member.node ≡ entry.node) × (member.pid ≡ entry.pid)

-- the table has a rule of that id
abbrev pub HasRule : Rules → ℕ → Type 0
HasRule rules id = (rule : Rule) × Contains rules (id, rule)

-- ---- verdicts

-- a join is denied by the table; else as the connection is in a group, its process a member, or the group full
abbrev pub IsJoinVerdict : List Record → Entry → List ℕ → Verdict → Type 0
IsJoinVerdict before entry g (Denied (reason.Rule id)) = Says (rules_of before g) right.Join (asker_of entry) Deny (by.Rule id)
IsJoinVerdict before entry g (Denied reason.Joined) = Lets (rules_of before g) right.Join (asker_of entry) × IsInSome before (conn_of entry)
IsJoinVerdict before entry g (Denied reason.Twice) =
    Lets (rules_of before g) right.Join (asker_of entry) × (¬ IsInSome before (conn_of entry)) × IsMemberAlready before entry g
IsJoinVerdict before entry g (Denied reason.Full) =
    Lets (rules_of before g) right.Join (asker_of entry) × (¬ IsInSome before (conn_of entry)) × (¬ IsMemberAlready before entry g)
    × (MOST_MEMBERS ≤ length (members before g))
IsJoinVerdict before entry g (Allowed basis) =
    Says (rules_of before g) right.Join (asker_of entry) Allow basis × (¬ IsInSome before (conn_of entry)) × (¬ IsMemberAlready before entry g)
    × (length (members before g) < MOST_MEMBERS)
IsJoinVerdict before entry g _ = ⊥

-- a leave is denied as the connection is in no group
abbrev pub IsLeaveVerdict : List Record → Entry → Verdict → Type 0
IsLeaveVerdict before entry (Denied reason.Closed) = ¬ IsInSome before (conn_of entry)
IsLeaveVerdict before entry (Allowed by.Free) = IsInSome before (conn_of entry)
IsLeaveVerdict before entry _ = ⊥

-- a send is denied as the connection is in no group; else the table of its group says
abbrev pub IsSendVerdict : List Record → Entry → Verdict → Type 0
IsSendVerdict before entry (Denied reason.Closed) = ¬ IsInSome before (conn_of entry)
IsSendVerdict before entry (Denied (reason.Rule id)) =
    (g : List ℕ) × InGroup before (conn_of entry) g × Says (rules_of before g) right.Send (asker_of entry) Deny (by.Rule id)
IsSendVerdict before entry (Allowed basis) =
    (g : List ℕ) × InGroup before (conn_of entry) g × Says (rules_of before g) right.Send (asker_of entry) Allow basis
IsSendVerdict before entry _ = ⊥

-- an insert is denied by the table, which denies by default; else as the index is past its end, or it is full
abbrev pub IsInsertVerdict : Rules → Entry → ℕ → Verdict → Type 0
IsInsertVerdict rules entry index (Denied (reason.Rule id)) = EditSays rules entry Deny (by.Rule id)
IsInsertVerdict rules entry index (Denied reason.Default) = EditSays rules entry Deny by.Default
IsInsertVerdict rules entry index (Denied reason.Position) = LetsEdit rules entry × (length rules < index)
IsInsertVerdict rules entry index (Denied reason.TableFull) = LetsEdit rules entry × (index ≤ length rules) × (MOST_RULES ≤ length rules)
IsInsertVerdict rules entry index (Allowed basis) = EditSays rules entry Allow basis × (index ≤ length rules) × (length rules < MOST_RULES)
IsInsertVerdict rules entry index _ = ⊥

-- a remove is denied by the table, which denies by default; else as no rule has the id
abbrev pub IsRemoveVerdict : Rules → Entry → ℕ → Verdict → Type 0
IsRemoveVerdict rules entry id (Denied (reason.Rule decider)) = EditSays rules entry Deny (by.Rule decider)
IsRemoveVerdict rules entry id (Denied reason.Default) = EditSays rules entry Deny by.Default
IsRemoveVerdict rules entry id (Denied reason.Absent) = LetsEdit rules entry × (¬ HasRule rules id)
IsRemoveVerdict rules entry id (Allowed basis) = EditSays rules entry Allow basis × HasRule rules id
IsRemoveVerdict rules entry id _ = ⊥

-- the end of a connection is always allowed
abbrev pub IsEndVerdict : Verdict → Type 0
IsEndVerdict (Allowed by.Free) = Unit {0}
IsEndVerdict _ = ⊥

-- the verdict on an op of the entry's connection
abbrev pub IsVerdict : List Record → Entry → Op → Verdict → Type 0
IsVerdict before entry (Act (Join g)) verdict = IsJoinVerdict before entry g verdict
IsVerdict before entry (Act Leave) verdict = IsLeaveVerdict before entry verdict
IsVerdict before entry (Act (Send message)) verdict = IsSendVerdict before entry verdict
IsVerdict before entry (Act (Insert g index rule)) verdict = IsInsertVerdict (rules_of before g) entry index verdict
IsVerdict before entry (Act (Remove g id)) verdict = IsRemoveVerdict (rules_of before g) entry id verdict
IsVerdict before entry Gone verdict = IsEndVerdict verdict

-- each entry has exactly the verdict that names what decided it
abbrev pub VerdictsNameWhatDecided : Type 0
VerdictsNameWhatDecided = (entries : List Entry) (place : ℕ) (r : Record) → record_at (judged entries) place ≡ Some r →
    (verdict : Verdict) → (r.verdict ≡ verdict) ↔ IsVerdict (records_before (judged entries) place) r.entry r.entry.op verdict

-- a listing is denied exactly by the rule of the group's table that says so, and never by default
abbrev pub DeniedListingsNameTheirRule : Type 0
DeniedListingsNameTheirRule = (records : List Record) (asker : Asker) (g : List ℕ) (basis : By) →
    (listing records asker g ≡ Err basis)
    ↔ ((id : ℕ) × (basis ≡ by.Rule id) × Says (rules_of records g) right.List asker Deny (by.Rule id))

-- what a record says of the records before it
use Rattle.std.proofs.Common.{◌≡◌, ℕ, ◌<◌, ◌≤◌, nat_le, Bool, true, false, cond, List, [], ◌∷◌, ◌++◌, length, take, refl, sym, ap, ◌∙◌, arith}
use Rattle.std.specs.Prelude.{is_some}
use Rattle.std.proofs.lemmas.Bool.{le-leb}
use Rattle.std.proofs.lemmas.Bool.Decides.{nat_tests}
use Rattle.std.proofs.lemmas.List.{take_all}
use Rattle.cpg_cred.specs.declared.bases.By.{By}
use Rattle.cpg_rules.specs.declared.decisions.Decision.{Decision}
use Rattle.cpg_rules.specs.declared.decisions.Decision.TheVariants as decision
use Rattle.cpg_rules.specs.declared.rules.Right.TheVariants as right
use Rattle.cpg_rules.specs.Decision.{decide}
use Rattle.cpg_entry.specs.declared.calls.Call.TheVariants.{Join}
use Rattle.cpg_entry.specs.declared.calls.Op.{Op}
use Rattle.cpg_entry.specs.declared.calls.Op.TheVariants.{Act}
use Rattle.cpg_entry.specs.declared.entries.Entry.{Entry}
use Rattle.cpg_entry.specs.Entries.{asker_of}
use Rattle.cpg_record.specs.declared.limits.TheConstants.{MOST_MEMBERS}
use Rattle.cpg_record.specs.declared.memberships.Member.{Member}
use Rattle.cpg_record.specs.declared.records.Record.{Record}
use Rattle.cpg_record.specs.declared.verdicts.Reason.TheVariants as reason
use Rattle.cpg_record.specs.declared.verdicts.Verdict.{Verdict}
use Rattle.cpg_record.specs.declared.verdicts.Verdict.TheVariants.{Allowed, Denied}
use Rattle.cpg_record.specs.Connections.{conn_of}
use Rattle.cpg_record.specs.Judging.{draft, judged, record_of, entry_group}
use Rattle.cpg_record.specs.Membership.{group_of, is_allowed, members, members_in}
use Rattle.cpg_record.specs.RuleTables.{rules_of}
use Rattle.cpg_record.specs.Verdicts.{decided, has_process, op_verdict}
use Rattle.cpg_record.proofs.Denials.{denial_changes_nothing, each_entry_is_judged}
use Rattle.cpg_why.specs.Without.{join_states}

-- all records are the first so many
pub all_before : (entries : List Entry) (n : ℕ) → n ≡ length entries → take n (judged entries) ≡ judged entries
all_before entries n is = take_all n (judged entries) (omega (arith, (each_entry_is_judged entries).0))

-- the states of a join as three tests
abbrev pub states : Bool → Bool → Bool → By → Verdict
states in_some twice full by = cond in_some (Denied reason.Joined) (cond twice (Denied reason.Twice) (cond full (Denied reason.Full) (Allowed by)))

pass_alike : (a b c : Bool) (first by : By) → is_allowed (states a b c first) ≡ true → states a b c by ≡ Allowed by
pass_alike true b c first by h = absurd (cc)
pass_alike false true c first by h = absurd (cc)
pass_alike false false true first by h = absurd (cc)
pass_alike false false false first by h = refl

-- an allowed join met no state that denies it
pass_decided : (before : List Record) (entry : Entry) (g : List ℕ) (d : Decision) (by : By) → is_allowed (decided d (join_states before entry g)) ≡ true →
    join_states before entry g by ≡ Allowed by
pass_decided before entry g (decision.Denied b) by h = absurd (cc)
pass_decided before entry g (decision.Allowed first) by h =
    pass_alike (is_some (group_of before (conn_of entry))) (has_process entry (members before g)) (nat_le MOST_MEMBERS (length (members before g))) first by h

pub states_passed : (before : List Record) (r : Record) (g : List ℕ) (by : By) → r ≡ record_of before r.entry → r.entry.op ≡ Act (Join g) → is_allowed r.verdict ≡ true →
    join_states before r.entry g by ≡ Allowed by
states_passed before r g by is joins allowed =
    pass_decided before r.entry g (decide (rules_of before g) right.Join (asker_of r.entry)) by
    (sym (ap (λ (o : Op). is_allowed (op_verdict before r.entry o)) joins) ∙ sym (ap (λ (x : Record). is_allowed x.verdict) is) ∙ allowed)

-- a denied join leaves the members of its group
pub denied_members : (before : List Record) (r : Record) (g : List ℕ) → r ≡ record_of before r.entry → r.entry.op ≡ Act (Join g) → is_allowed r.verdict ≡ false →
    r.members ≡ members before g
denied_members before r g is joins denied =
    ap (λ (x : Record). x.members) is
    ∙ ap (λ (o : Op). members_in (before ++ draft before r.entry ∷ []) (entry_group before r.entry o)) joins
    ∙ (denial_changes_nothing before (draft before r.entry) (sym (ap (λ (x : Record). is_allowed x.verdict) is) ∙ denied)).same_members g

not_le : (a b : ℕ) → b < a → nat_le a b ≡ false
not_le a b h = grind (arith, nat_tests)

-- the states of a denied join by its record's members
pub states_told : (before : List Record) (r : Record) (g : List ℕ) (by : By) (a b c : Bool) → r ≡ record_of before r.entry → r.entry.op ≡ Act (Join g) → is_allowed r.verdict ≡ false →
    is_some (group_of before (conn_of r.entry)) ≡ a → has_process r.entry r.members ≡ b → nat_le MOST_MEMBERS (length r.members) ≡ c →
    states a b c by ≡ join_states before r.entry g by
states_told before r g by a b c is joins denied one two three =
    let same = denied_members before r g is joins denied in
    let twice : has_process r.entry (members before g) ≡ b = ap (has_process r.entry) (sym same) ∙ two in
    let full : nat_le MOST_MEMBERS (length (members before g)) ≡ c = ap (λ (ms : List Member). nat_le MOST_MEMBERS (length ms)) (sym same) ∙ three in
    sym (ap (λ (x : Bool). states x (has_process r.entry (members before g)) (nat_le MOST_MEMBERS (length (members before g))) by) one
    ∙ ap (λ (x : Bool). states a x (nat_le MOST_MEMBERS (length (members before g))) by) twice
    ∙ ap (λ (x : Bool). states a b x by) full)

pub states_twice : (before : List Record) (r : Record) (g : List ℕ) (by : By) → r ≡ record_of before r.entry → r.entry.op ≡ Act (Join g) → is_allowed r.verdict ≡ false →
    is_some (group_of before (conn_of r.entry)) ≡ false → has_process r.entry r.members ≡ true → Denied reason.Twice ≡ join_states before r.entry g by
states_twice before r g by is joins denied one two =
    states_told before r g by false true (nat_le MOST_MEMBERS (length r.members)) is joins denied one two refl

pub states_full : (before : List Record) (r : Record) (g : List ℕ) (by : By) → r ≡ record_of before r.entry → r.entry.op ≡ Act (Join g) → is_allowed r.verdict ≡ false →
    is_some (group_of before (conn_of r.entry)) ≡ false → has_process r.entry r.members ≡ false → MOST_MEMBERS ≤ length r.members → Denied reason.Full ≡ join_states before r.entry g by
states_full before r g by is joins denied one two many =
    states_told before r g by false false true is joins denied one two (le-leb MOST_MEMBERS (length r.members) many)

pub states_none : (before : List Record) (r : Record) (g : List ℕ) (by : By) → r ≡ record_of before r.entry → r.entry.op ≡ Act (Join g) → is_allowed r.verdict ≡ false →
    is_some (group_of before (conn_of r.entry)) ≡ false → has_process r.entry r.members ≡ false → length r.members < MOST_MEMBERS → Allowed by ≡ join_states before r.entry g by
states_none before r g by is joins denied one two few =
    states_told before r g by false false false is joins denied one two (not_le MOST_MEMBERS (length r.members) few)

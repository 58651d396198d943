-- the rule that a verdict carries is the rule that is named
use Rattle.std.proofs.Common.{◌≡◌, ℕ, ◌+◌, ◌==◌, nat_le, nat_lt, Bool, true, false, cond, List, [], ◌∷◌, length, slice_get, inl, inr, Option, Some, None, refl, sym, ap, subst, ◌∙◌, suc, arith}
use Rattle.std.specs.Prelude.{is_some, not}
use Rattle.std.specs.List.{find, position_or_len}
use Rattle.std.proofs.lemmas.Bool.{false≢true}
use Rattle.std.proofs.lemmas.List.Folds.{find_at}
use Rattle.std.proofs.lemmas.Option.{same_Some}
use Rattle.cpg_cred.specs.declared.bases.By.{By}
use Rattle.cpg_cred.specs.declared.bases.By.TheVariants as by
use Rattle.cpg_rules.specs.declared.decisions.Decision.{Decision}
use Rattle.cpg_rules.specs.declared.decisions.Decision.TheVariants as decision
use Rattle.cpg_rules.specs.declared.rules.Asker.{Asker}
use Rattle.cpg_rules.specs.declared.rules.Right.{Right}
use Rattle.cpg_rules.specs.declared.rules.Right.TheVariants as right
use Rattle.cpg_rules.specs.declared.rules.Rule.{Rule}
use Rattle.cpg_rules.specs.declared.tables.TheConstants.{MOST_RULES}
use Rattle.cpg_rules.specs.Decision.{decide, default, said_by, speaks}
use Rattle.cpg_rules.specs.Tables.{Rules, has_id}
use Rattle.cpg_entry.specs.declared.calls.Call.TheVariants.{Join, Leave, Send, Insert, Remove}
use Rattle.cpg_entry.specs.declared.calls.Op.{Op}
use Rattle.cpg_entry.specs.declared.calls.Op.TheVariants.{Act, Gone}
use Rattle.cpg_entry.specs.declared.entries.Entry.{Entry}
use Rattle.cpg_entry.specs.Entries.{asker_of}
use Rattle.cpg_record.specs.declared.limits.TheConstants.{MOST_MEMBERS}
use Rattle.cpg_record.specs.declared.records.Record.{Record}
use Rattle.cpg_record.specs.declared.verdicts.Reason.TheVariants as reason
use Rattle.cpg_record.specs.declared.verdicts.Verdict.{Verdict}
use Rattle.cpg_record.specs.declared.verdicts.Verdict.TheVariants.{Allowed, Denied}
use Rattle.cpg_record.specs.Connections.{conn_of}
use Rattle.cpg_record.specs.Judging.{entry_group, record_of}
use Rattle.cpg_record.specs.Membership.{group_of, members}
use Rattle.cpg_record.specs.RuleTables.{rules_of}
use Rattle.cpg_record.specs.Verdicts.{decided as decided_then, edit_decision, has_process, op_verdict, send_verdict, verdict}
use Rattle.cpg_why.specs.declared.findings.Decided.{Decided}
use Rattle.cpg_why.specs.declared.findings.Decided.TheVariants as decided
use Rattle.cpg_why.specs.declared.findings.Ruled.{Ruled}
use Rattle.cpg_why.specs.declared.findings.Unruled.{Unruled}
use Rattle.cpg_why.specs.Deciding.{decided_at, decided_by, decided_by_right, decided_by_table, decided_of, passed_rules, right_needed, subject}
use Rattle.cpg_why.specs.Laws.{basis_of, IsByRule, IsNamed, NamedIsTheVerdicts, TellsDefaults, TellsRules}
use Rattle.cpg_why.specs.Moves.{last_move}
use Rattle.cpg_why.specs.Without.{verdict_without}
use Rattle.cpg_why.proofs.Before.{states}
use Rattle.cpg_why.proofs.Removal.{basis_ruling, named_decides, no_rule, removal_tells, same_rule}

-- a test after the right that carries a rule is the right's own
Passes : (By → Verdict) → Type 0
Passes next = (basis : By) (id : ℕ) → IsByRule (next basis) id → basis ≡ by.Rule id

by_decided : (d : Decision) (next : By → Verdict) (id : ℕ) → Passes next → IsByRule (decided_then d next) id → basis_of d ≡ by.Rule id
unfolding Passes
by_decided (decision.Allowed b) next id passes is = passes b id is
by_decided (decision.Denied (by.Rule n)) next id passes (inl h) = absurd (cc)
by_decided (decision.Denied (by.Rule n)) next id passes (inr h) = cc
by_decided (decision.Denied by.Default) next id passes (inl h) = absurd (cc)
by_decided (decision.Denied by.Default) next id passes (inr h) = absurd (cc)
by_decided (decision.Denied by.Root) next id passes (inl h) = absurd (cc)
by_decided (decision.Denied by.Root) next id passes (inr h) = absurd (cc)
by_decided (decision.Denied by.Free) next id passes (inl h) = absurd (cc)
by_decided (decision.Denied by.Free) next id passes (inr h) = absurd (cc)

allowed_passes : Passes Allowed
unfolding Passes
allowed_passes b id (inl h) = cc
allowed_passes b id (inr h) = absurd (cc)

states_pass : (x y z : Bool) → Passes (states x y z)
unfolding Passes
states_pass true y z b id (inl h) = absurd (cc)
states_pass true y z b id (inr h) = absurd (cc)
states_pass false true z b id (inl h) = absurd (cc)
states_pass false true z b id (inr h) = absurd (cc)
states_pass false false true b id (inl h) = absurd (cc)
states_pass false false true b id (inr h) = absurd (cc)
states_pass false false false b id (inl h) = cc
states_pass false false false b id (inr h) = absurd (cc)

insert_passes : (x y : Bool) → Passes (λ b. cond x (Denied reason.Position) (cond y (Denied reason.TableFull) (Allowed b)))
unfolding Passes
insert_passes true y b id (inl h) = absurd (cc)
insert_passes true y b id (inr h) = absurd (cc)
insert_passes false true b id (inl h) = absurd (cc)
insert_passes false true b id (inr h) = absurd (cc)
insert_passes false false b id (inl h) = cc
insert_passes false false b id (inr h) = absurd (cc)

remove_passes : (x : Bool) → Passes (λ b. cond x (Allowed b) (Denied reason.Absent))
unfolding Passes
remove_passes true b id (inl h) = cc
remove_passes true b id (inr h) = absurd (cc)
remove_passes false b id (inl h) = absurd (cc)
remove_passes false b id (inr h) = absurd (cc)

-- an edit that rests on a rule is not root's
edit_rule : (rules : Rules) (entry : Entry) (id : ℕ) → basis_of (edit_decision rules entry) ≡ by.Rule id → basis_of (decide rules right.Edit (asker_of entry)) ≡ by.Rule id
edit_rule rules entry id is = by_case (entry.cred.uid == 0) is
  where
    by_case : (b : Bool) → basis_of (cond b (decision.Allowed by.Root) (decide rules right.Edit (asker_of entry))) ≡ by.Rule id → basis_of (decide rules right.Edit (asker_of entry)) ≡ by.Rule id
    by_case true h = absurd (cc)
    by_case false h = h

-- where the decision rests on a rule, that rule is named
found_named : (rules : Rules) (r : Right) (asker : Asker) (id : ℕ) → basis_of (decide rules r asker) ≡ by.Rule id →
    (rule : Rule) × (slice_get rules (position_or_len (speaks r asker) rules) ≡ Some (id, rule))
found_named rules r asker id named = by_found (find (speaks r asker) rules) refl named
  where
    by_found : (o : Option (ℕ × Rule)) → find (speaks r asker) rules ≡ o → basis_of (said_by r o) ≡ by.Rule id →
        (rule : Rule) × (slice_get rules (position_or_len (speaks r asker) rules) ≡ Some (id, rule))
    by_found None is so = absurd (no_rule r id so)
    by_found (Some entry) is so =
        let same : entry.0 ≡ id = same_rule entry.0 id (sym (basis_ruling entry.1.effect entry.0) ∙ so) in
        (entry.1, sym (find_at (speaks r asker) rules) ∙ is ∙ ap (λ (n : ℕ). Some (n, entry.1)) same)

-- of the same table and the same right
moved_to : (rules table : Rules) (q r : Right) (asker : Asker) (id : ℕ) → rules ≡ table → q ≡ r → basis_of (decide rules q asker) ≡ by.Rule id →
    basis_of (decide table r asker) ≡ by.Rule id
moved_to rules table q r asker id same alike is =
    sym (ap (λ (x : Rules). basis_of (decide x q asker)) same ∙ ap (λ (x : Right). basis_of (decide table x asker)) alike) ∙ is

named_by : (before : List Record) (entry : Entry) (op : Op) (r : Right) (g : List ℕ) (id : ℕ) → right_needed op ≡ Some r → entry_group before entry op ≡ Some g →
    IsByRule (op_verdict before entry op) id → basis_of (decide (rules_of before g) r (asker_of entry)) ≡ by.Rule id
named_by before entry (Act (Join h)) r g id needs names is =
    let in_some = is_some (group_of before (conn_of entry)) in
    let twice = has_process entry (members before h) in
    let full = nat_le MOST_MEMBERS (length (members before h)) in
    moved_to (rules_of before h) (rules_of before g) right.Join r (asker_of entry) id (ap (rules_of before) (same_Some h g names)) (same_Some right.Join r needs)
    (by_decided (decide (rules_of before h) right.Join (asker_of entry)) (states in_some twice full) id (states_pass in_some twice full) is)
named_by before entry (Act Leave) r g id needs names is = absurd (cc)
named_by before entry (Act (Send message)) r g id needs names is =
    moved_to (rules_of before g) (rules_of before g) right.Send r (asker_of entry) id refl (same_Some right.Send r needs)
    (by_decided (decide (rules_of before g) right.Send (asker_of entry)) Allowed id allowed_passes
    (subst (λ (o : Option (List ℕ)). IsByRule (send_verdict before entry o) id) names is))
named_by before entry (Act (Insert h index rule)) r g id needs names is =
    let past = nat_lt (length (rules_of before h)) index in
    let full = nat_le MOST_RULES (length (rules_of before h)) in
    moved_to (rules_of before h) (rules_of before g) right.Edit r (asker_of entry) id (ap (rules_of before) (same_Some h g names)) (same_Some right.Edit r needs)
    (edit_rule (rules_of before h) entry id
    (by_decided (edit_decision (rules_of before h) entry) (λ b. cond past (Denied reason.Position) (cond full (Denied reason.TableFull) (Allowed b))) id (insert_passes past full) is))
named_by before entry (Act (Remove h n)) r g id needs names is =
    let there = has_id n (rules_of before h) in
    moved_to (rules_of before h) (rules_of before g) right.Edit r (asker_of entry) id (ap (rules_of before) (same_Some h g names)) (same_Some right.Edit r needs)
    (edit_rule (rules_of before h) entry id
    (by_decided (edit_decision (rules_of before h) entry) (λ b. cond there (Allowed b) (Denied reason.Absent)) id (remove_passes there) is))
named_by before entry Gone r g id needs names is = absurd (cc)

-- ---- what is told

-- it is told by a table
abbrev of_table : Decided → Bool
of_table (decided.Rule told) = true
of_table (decided.Default told) = true
of_table _ = false

-- what a table decided is decided by the right that is needed
by_right : (before : List Record) (r : Record) (last : Option ℕ) (v : Verdict) (told : Decided) → of_table told ≡ true → decided_by before r last v ≡ told
    → decided_by_right before r.entry (right_needed r.entry.op) r.group ≡ told
by_right before r last (Allowed by.Root) told of is = absurd (false≢true (ap of_table is ∙ of))
by_right before r last (Allowed by.Free) told of is = is
by_right before r last (Allowed by.Default) told of is = is
by_right before r last (Allowed (by.Rule id)) told of is = is
by_right before r last (Denied reason.Default) told of is = is
by_right before r last (Denied (reason.Rule id)) told of is = is
by_right before r last (Denied reason.Closed) told of is = absurd (false≢true (ap of_table is ∙ of))
by_right before r last (Denied reason.Joined) told of is = absurd (false≢true (ap of_table is ∙ of))
by_right before r last (Denied reason.Twice) told of is = absurd (false≢true (ap of_table is ∙ of))
by_right before r last (Denied reason.Full) told of is = absurd (false≢true (ap of_table is ∙ of))
by_right before r last (Denied reason.Position) told of is = absurd (false≢true (ap of_table is ∙ of))
by_right before r last (Denied reason.TableFull) told of is = absurd (false≢true (ap of_table is ∙ of))
by_right before r last (Denied reason.Absent) told of is = absurd (false≢true (ap of_table is ∙ of))

-- where no rule is found, all are passed
all_passed : {X : Type 0} (p : X → Bool) (xs : List X) → slice_get xs (position_or_len p xs) ≡ None → position_or_len p xs ≡ length xs
all_passed p [] is = refl
all_passed {X} p (x ∷ xs) is = by_case (p x) (all_passed p xs) is
  where
    by_case : (b : Bool) → (slice_get xs (position_or_len p xs) ≡ None → position_or_len p xs ≡ length xs) → slice_get (x ∷ xs) (cond (not b) (1 + position_or_len p xs) 0) ≡ None → cond (not b) (1 + position_or_len p xs) 0 ≡ length (x ∷ xs)
    by_case true later h = absurd (cc)
    by_case false later h =
        let next : 1 + position_or_len p xs ≡ suc (position_or_len p xs) = omega arith in
        let rest : slice_get xs (position_or_len p xs) ≡ None = ap (slice_get (x ∷ xs)) (sym next) ∙ h in
        omega (arith, later rest)

module _ (before : List Record) (entry : Entry) (r : Right) (g : List ℕ) (needs : right_needed entry.op ≡ Some r) (names : entry_group before entry entry.op ≡ Some g) where
  -- the table of the group decides of the right
  by_table : decided_by_right before entry (right_needed entry.op) (entry_group before entry entry.op) ≡ decided_by_table before entry r (rules_of before g)
  by_table =
      ap (λ (o : Option Right). decided_by_right before entry o (entry_group before entry entry.op)) needs
      ∙ ap (decided_by_right before entry (Some r)) names

  told_by_table : (told : Decided) → of_table told ≡ true → decided_of before (record_of before entry) ≡ told → decided_by_table before entry r (rules_of before g) ≡ told
  told_by_table told of is =
      let next = record_of before entry in
      sym by_table ∙ by_right before next (last_move before (subject next next.verdict)) next.verdict told of is

  -- a rule that is told
  named_at : (told : Ruled) (o : Option (ℕ × Rule)) → slice_get (rules_of before g) (position_or_len (speaks r (asker_of entry)) (rules_of before g)) ≡ o
      → decided_at before entry r (rules_of before g) (position_or_len (speaks r (asker_of entry)) (rules_of before g)) o ≡ decided.Rule told
      → IsNamed (rules_of before g) r before entry told
  named_at told None is so = absurd (cc)
  named_at told (Some e) is so =
      let table = rules_of before g in
      let asker = asker_of entry in
      let index = position_or_len (speaks r asker) table in
      let same : record { index = index; id = e.0; rule = e.1; rules = length table; passed = passed_rules r asker table index; without = verdict_without table e.0 before entry } ≡ told =
      same_ruled _ told so in
      let decides : decide table r asker ≡ said_by r (Some (told.id, told.rule)) =
      named_decides table r asker ∙ ap (said_by r) (is ∙ ap (λ (t : Ruled). Some (t.id, t.rule)) same) in
      record {
        decides = decides;
        stands = ap (slice_get table) (sym (ap (λ (t : Ruled). t.index) same)) ∙ is ∙ ap (λ (t : Ruled). Some (t.id, t.rule)) same;
        counted = sym (ap (λ (t : Ruled). t.rules) same);
        removal = removal_tells table r asker told.id (ap basis_of decides ∙ basis_ruling told.rule.effect told.id);
        passed = sym (ap (λ (t : Ruled). t.passed) same) ∙ ap (passed_rules r asker table) (ap (λ (t : Ruled). t.index) same);
        without = sym (ap (λ (t : Ruled). t.without) same) ∙ ap (λ (n : ℕ). verdict_without table n before entry) (ap (λ (t : Ruled). t.id) same);
      }
    where
      same_ruled : (a b : Ruled) → decided.Rule a ≡ decided.Rule b → a ≡ b
      same_ruled a b h = cc

  -- a default that is told
  default_at : (told : Unruled) (o : Option (ℕ × Rule)) → slice_get (rules_of before g) (position_or_len (speaks r (asker_of entry)) (rules_of before g)) ≡ o
      → decided_at before entry r (rules_of before g) (position_or_len (speaks r (asker_of entry)) (rules_of before g)) o ≡ decided.Default told
      → (told.right ≡ r) × (decide (rules_of before g) r (asker_of entry) ≡ default r) × (told.passed ≡ passed_rules r (asker_of entry) (rules_of before g) (length (rules_of before g)))
  default_at told (Some e) is so = absurd (cc)
  default_at told None is so =
      let table = rules_of before g in
      let asker = asker_of entry in
      let index = position_or_len (speaks r asker) table in
      let same : record { right = r; passed = passed_rules r asker table index } ≡ told = same_unruled _ told so in (
        sym (ap (λ (t : Unruled). t.right) same),
        named_decides table r asker ∙ ap (said_by r) is,
        sym (ap (λ (t : Unruled). t.passed) same) ∙ ap (passed_rules r asker table) (all_passed (speaks r asker) table is),
      )
    where
      same_unruled : (a b : Unruled) → decided.Default a ≡ decided.Default b → a ≡ b
      same_unruled a b h = cc

  -- a verdict by a rule
  by_its_rule : (id : ℕ) → IsByRule (verdict before entry) id → decided_of before (record_of before entry) ≡ decided_by_right before entry (right_needed entry.op) (entry_group before entry entry.op)
  by_its_rule id (inl h) =
      let next = record_of before entry in
      ap (decided_by before next (last_move before (subject next next.verdict))) h
  by_its_rule id (inr h) =
      let next = record_of before entry in
      ap (decided_by before next (last_move before (subject next next.verdict))) h

pub tells_rules : TellsRules
tells_rules before entry r g told needs names is =
    named_at before entry r g needs names told (slice_get (rules_of before g) (position_or_len (speaks r (asker_of entry)) (rules_of before g))) refl
    (told_by_table before entry r g needs names (decided.Rule told) refl is)

pub tells_defaults : TellsDefaults
tells_defaults before entry r g told needs names is =
    default_at before entry r g needs names told (slice_get (rules_of before g) (position_or_len (speaks r (asker_of entry)) (rules_of before g))) refl
    (told_by_table before entry r g needs names (decided.Default told) refl is)

pub named_is_the_verdicts : NamedIsTheVerdicts
named_is_the_verdicts before entry r g id needs names is =
    let table = rules_of before g in
    let asker = asker_of entry in
    let index = position_or_len (speaks r asker) table in
    let found = found_named table r asker id (named_by before entry entry.op r g id needs names is) in (
      record { index = index; id = id; rule = found.0; rules = length table; passed = passed_rules r asker table index; without = verdict_without table id before entry },
      by_its_rule before entry r g needs names id is ∙ by_table before entry r g needs names ∙ ap (decided_at before entry r table index) found.1,
      refl,
    )

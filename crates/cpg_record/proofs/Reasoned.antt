-- Each verdict is what the table and the state make of its op.
use Rattle.std.proofs.Common.{◌≡◌, ◌≢◌, ℕ, ◌-◌, Bool, true, false, ◌&&◌, ◌==◌, cond, leb, ltb, List, length, Option, Some, None, Contains, refl, sym, ap, ◌∙◌, subst}
use Rattle.std.specs.Prelude.{◌↔◌, is_some}
use Rattle.std.proofs.lemmas.Bool.{eqb-true, eqb-false, eq-eqb, ne_eqb, leb-false, leb-true, le-leb, lt-leb, ltb-false, ltb-true, lt-ltb, le-ltb}
use Rattle.cpg_cred.specs.declared.bases.By.{By}
use Rattle.cpg_cred.specs.declared.bases.By.TheVariants as by
use Rattle.cpg_rules.specs.declared.decisions.Decision.{Decision}
use Rattle.cpg_rules.specs.declared.decisions.Decision.TheVariants as decision
use Rattle.cpg_rules.specs.declared.rules.Effect.{Effect}
use Rattle.cpg_rules.specs.declared.rules.Effect.TheVariants.{Allow, Deny}
use Rattle.cpg_rules.specs.declared.rules.Right.TheVariants as right
use Rattle.cpg_rules.specs.declared.rules.Rule.{Rule}
use Rattle.cpg_rules.specs.declared.tables.TheConstants.{MOST_RULES}
use Rattle.cpg_rules.specs.Decision.{decide}
use Rattle.cpg_rules.specs.Tables.{Rules, has_id}
use Rattle.cpg_entry.specs.declared.calls.Call.TheVariants.{Join, Leave, Send, Insert, Remove}
use Rattle.cpg_entry.specs.declared.calls.Op.{Op}
use Rattle.cpg_entry.specs.declared.calls.Op.TheVariants.{Act, Gone}
use Rattle.cpg_entry.specs.declared.entries.Entry.{Entry}
use Rattle.cpg_entry.specs.Entries.{asker_of}
use Rattle.cpg_record.specs.declared.connections.ConnId.{ConnId}
use Rattle.cpg_record.specs.declared.limits.TheConstants.{MOST_MEMBERS}
use Rattle.cpg_record.specs.declared.memberships.Member.{Member}
use Rattle.cpg_record.specs.declared.records.Record.{Record}
use Rattle.cpg_record.specs.declared.verdicts.Reason.TheVariants as reason
use Rattle.cpg_record.specs.declared.verdicts.Verdict.{Verdict}
use Rattle.cpg_record.specs.declared.verdicts.Verdict.TheVariants.{Allowed, Denied}
use Rattle.cpg_record.specs.Connections.{conn_of}
use Rattle.cpg_record.specs.Judging.{judged}
use Rattle.cpg_record.specs.Laws.{InGroup}
use Rattle.cpg_record.specs.Membership.{group_of, members}
use Rattle.cpg_record.specs.Places.{records_before}
use Rattle.cpg_record.specs.RuleTables.{rules_of}
use Rattle.cpg_record.specs.Verdicts.{decided, edit_decision, has_process, insert_verdict, join_verdict, leave_verdict, op_verdict, remove_verdict, send_verdict}
use Rattle.cpg_record.specs.Reasons.{EditSays, HasRule, IsEndVerdict, IsInSome, IsInsertVerdict, IsJoinVerdict, IsLeaveVerdict, IsMemberAlready, IsRemoveVerdict, IsSendVerdict, IsVerdict, Says, VerdictsNameWhatDecided}
use Rattle.cpg_record.proofs.Kept.{any_passes, passes_any}
use Rattle.cpg_record.proofs.Told.{group_in_first, record_is}
use Rattle.cpg_record.proofs.Why.{decided_so, decides_so, decision_of, DecidedSo}

-- ---- tests, in words

-- a test that is false says that it isn't so
not_so : {A : Type 0} (b : Bool) → (b ≡ true) ↔ A → (b ≡ false) ↔ (¬ A)
not_so true says = ((λ h. absurd (cc)), (λ n. absurd (n (says.0 refl))))
not_so false says = ((λ h a. absurd (let never = says.1 a in cc)), (λ n. refl))

-- the computed group is the one that the connection is in
abbrev pub Grouped : List Record → Type 0
Grouped rs = (c : ConnId) (g : List ℕ) → InGroup rs c g ↔ (group_of rs c ≡ Some g)

in_some : (rs : List Record) → Grouped rs → (c : ConnId) → (is_some (group_of rs c) ≡ true) ↔ IsInSome rs c
in_some rs grouped c = ((λ h. by_group (group_of rs c) refl h), (λ (g, i). ap is_some ((grouped c g).0 i)))
  where
    by_group : (o : Option (List ℕ)) → group_of rs c ≡ o → is_some o ≡ true → IsInSome rs c
    by_group None is h = absurd (cc)
    by_group (Some g) is h = (g, (grouped c g).1 is)

-- a connection that is in no group has none
none_of : (rs : List Record) → Grouped rs → (c : ConnId) → (group_of rs c ≡ None) ↔ (¬ IsInSome rs c)
none_of rs grouped c = (
  (λ none (g, i). let some = (grouped c g).0 i in absurd (cc)),
  (λ out. by_group (group_of rs c) refl out),
)
  where
    by_group : (o : Option (List ℕ)) → group_of rs c ≡ o → (¬ IsInSome rs c) → o ≡ None
    by_group None is out = refl
    by_group (Some g) is out = absurd (out (g, (grouped c g).1 is))

same_process : (e : Entry) (m : Member) → (((m.node == e.node) && (m.pid == e.pid)) ≡ true) ↔ ((m.node ≡ e.node) × (m.pid ≡ e.pid))
same_process e m = (
  (λ h. by_case (m.node == e.node) (m.pid == e.pid) refl refl h),
  (λ (n, p).
      let node : (m.node == e.node) ≡ true = eq-eqb m.node e.node n in
      let pid : (m.pid == e.pid) ≡ true = eq-eqb m.pid e.pid p in
      rw (node, pid) refl),
)
  where
    by_case : (x y : Bool) → (m.node == e.node) ≡ x → (m.pid == e.pid) ≡ y → (x && y) ≡ true → (m.node ≡ e.node) × (m.pid ≡ e.pid)
    by_case true true n p h = (eqb-true m.node e.node n, eqb-true m.pid e.pid p)
    by_case true false n p h = absurd (cc)
    by_case false y n p h = absurd (cc)

member_already : (rs : List Record) (e : Entry) (g : List ℕ) → (has_process e (members rs g) ≡ true) ↔ IsMemberAlready rs e g
member_already rs e g =
    let test : Member → Bool = λ m. (m.node == e.node) && (m.pid == e.pid) in (
      (λ h.
          let there = any_passes test (members rs g) h in
          let same = (same_process e there.0).0 there.2 in
          (there.0, there.1, same.0, same.1)),
      (λ (m, listed, node, pid). passes_any test (members rs g) m listed ((same_process e m).1 (node, pid))),
    )

has_rule : (rules : Rules) (id : ℕ) → (has_id id rules ≡ true) ↔ HasRule rules id
has_rule rules id =
    let test : ℕ × Rule → Bool = λ entry. entry.0 == id in (
      (λ h.
          let there = any_passes test rules h in
          let same : there.0.0 ≡ id = eqb-true there.0.0 id there.2 in
          (there.0.1, subst (λ (n : ℕ). Contains rules (n, there.0.1)) same there.1)),
      (λ (rule, listed). passes_any test rules (id, rule) listed (eq-eqb id id refl)),
    )

-- ---- joins

abbrev pub join_by : Decision → Bool → Bool → Bool → Verdict
join_by d joined twice full = decided d (λ basis. cond joined (Denied reason.Joined) (cond twice (Denied reason.Twice) (cond full (Denied reason.Full) (Allowed basis))))

join_is : (rs : List Record) (e : Entry) (g : List ℕ) (d : Decision) (joined twice full : Bool) → DecidedSo (rules_of rs g) right.Join (asker_of e) d →
    (joined ≡ true) ↔ IsInSome rs (conn_of e) → (twice ≡ true) ↔ IsMemberAlready rs e g → leb MOST_MEMBERS (length (members rs g)) ≡ full →
    IsJoinVerdict rs e g (join_by d joined twice full)
join_is rs e g (decision.Denied (by.Rule id)) joined twice full says j t f = says
join_is rs e g (decision.Denied by.Default) joined twice full says j t f = let never = says.1 in absurd (cc)
join_is rs e g (decision.Denied by.Root) joined twice full says j t f = absurd says
join_is rs e g (decision.Denied by.Free) joined twice full says j t f = absurd says
join_is rs e g (decision.Allowed b) true twice full says j t f = ((b, says), j.0 refl)
join_is rs e g (decision.Allowed b) false true full says j t f = ((b, says), (not_so false j).0 refl, t.0 refl)
join_is rs e g (decision.Allowed b) false false true says j t f =
    ((b, says), (not_so false j).0 refl, (not_so false t).0 refl, leb-true MOST_MEMBERS (length (members rs g)) f)
join_is rs e g (decision.Allowed b) false false false says j t f =
    (says, (not_so false j).0 refl, (not_so false t).0 refl, leb-false MOST_MEMBERS (length (members rs g)) f)

join_from : (rs : List Record) → Grouped rs → (e : Entry) (g : List ℕ) (v : Verdict) → IsJoinVerdict rs e g v → join_verdict rs e g ≡ v
join_from rs grouped e g (Denied (reason.Rule id)) says =
    let d : decide (rules_of rs g) right.Join (asker_of e) ≡ decision.Denied (by.Rule id) = decides_so (rules_of rs g) right.Join (asker_of e) Deny (by.Rule id) says in
    ap (λ (x : Decision). join_by x (is_some (group_of rs (conn_of e))) (has_process e (members rs g)) (leb MOST_MEMBERS (length (members rs g)))) d
join_from rs grouped e g (Denied reason.Joined) (lets, inside) =
    let d : decide (rules_of rs g) right.Join (asker_of e) ≡ decision.Allowed lets.0 = decides_so (rules_of rs g) right.Join (asker_of e) Allow lets.0 lets.1 in
    let j : is_some (group_of rs (conn_of e)) ≡ true = (in_some rs grouped (conn_of e)).1 inside in
    λ i. join_by (d i) (j i) (has_process e (members rs g)) (leb MOST_MEMBERS (length (members rs g)))
join_from rs grouped e g (Denied reason.Twice) (lets, outside, member) =
    let d : decide (rules_of rs g) right.Join (asker_of e) ≡ decision.Allowed lets.0 = decides_so (rules_of rs g) right.Join (asker_of e) Allow lets.0 lets.1 in
    let j : is_some (group_of rs (conn_of e)) ≡ false = (not_so (is_some (group_of rs (conn_of e))) (in_some rs grouped (conn_of e))).1 outside in
    let t : has_process e (members rs g) ≡ true = (member_already rs e g).1 member in
    λ i. join_by (d i) (j i) (t i) (leb MOST_MEMBERS (length (members rs g)))
join_from rs grouped e g (Denied reason.Full) (lets, outside, other, many) =
    let d : decide (rules_of rs g) right.Join (asker_of e) ≡ decision.Allowed lets.0 = decides_so (rules_of rs g) right.Join (asker_of e) Allow lets.0 lets.1 in
    let j : is_some (group_of rs (conn_of e)) ≡ false = (not_so (is_some (group_of rs (conn_of e))) (in_some rs grouped (conn_of e))).1 outside in
    let t : has_process e (members rs g) ≡ false = (not_so (has_process e (members rs g)) (member_already rs e g)).1 other in
    let f : leb MOST_MEMBERS (length (members rs g)) ≡ true = le-leb MOST_MEMBERS (length (members rs g)) many in
    λ i. join_by (d i) (j i) (t i) (f i)
join_from rs grouped e g (Allowed basis) (says, outside, other, few) =
    let d : decide (rules_of rs g) right.Join (asker_of e) ≡ decision.Allowed basis = decides_so (rules_of rs g) right.Join (asker_of e) Allow basis says in
    let j : is_some (group_of rs (conn_of e)) ≡ false = (not_so (is_some (group_of rs (conn_of e))) (in_some rs grouped (conn_of e))).1 outside in
    let t : has_process e (members rs g) ≡ false = (not_so (has_process e (members rs g)) (member_already rs e g)).1 other in
    let f : leb MOST_MEMBERS (length (members rs g)) ≡ false = lt-leb MOST_MEMBERS (length (members rs g)) few in
    λ i. join_by (d i) (j i) (t i) (f i)
join_from rs grouped e g _ is = absurd is

-- ---- leaves

leave_is : (rs : List Record) → Grouped rs → (e : Entry) (o : Option (List ℕ)) → group_of rs (conn_of e) ≡ o → IsLeaveVerdict rs e (leave_verdict o)
leave_is rs grouped e None is = (none_of rs grouped (conn_of e)).0 is
leave_is rs grouped e (Some g) is = (g, (grouped (conn_of e) g).1 is)

leave_from : (rs : List Record) → Grouped rs → (e : Entry) (v : Verdict) → IsLeaveVerdict rs e v → leave_verdict (group_of rs (conn_of e)) ≡ v
leave_from rs grouped e (Denied reason.Closed) outside = ap leave_verdict ((none_of rs grouped (conn_of e)).1 outside)
leave_from rs grouped e (Allowed by.Free) (g, inside) = ap leave_verdict ((grouped (conn_of e) g).0 inside)
leave_from rs grouped e _ is = absurd is

-- ---- sends

send_is : (rs : List Record) → Grouped rs → (e : Entry) (o : Option (List ℕ)) → group_of rs (conn_of e) ≡ o → IsSendVerdict rs e (send_verdict rs e o)
send_is rs grouped e None is = (none_of rs grouped (conn_of e)).0 is
send_is rs grouped e (Some g) is =
    by_decision (decide (rules_of rs g) right.Send (asker_of e)) (decided_so (rules_of rs g) right.Send (asker_of e))
  where
    by_decision : (d : Decision) → DecidedSo (rules_of rs g) right.Send (asker_of e) d → IsSendVerdict rs e (decided d Allowed)
    by_decision (decision.Allowed b) says = (g, (grouped (conn_of e) g).1 is, says)
    by_decision (decision.Denied (by.Rule id)) says = (g, (grouped (conn_of e) g).1 is, says)
    by_decision (decision.Denied by.Default) says = let never = says.1 in absurd (cc)
    by_decision (decision.Denied by.Root) says = absurd says
    by_decision (decision.Denied by.Free) says = absurd says

send_from : (rs : List Record) → Grouped rs → (e : Entry) (v : Verdict) → IsSendVerdict rs e v → send_verdict rs e (group_of rs (conn_of e)) ≡ v
send_from rs grouped e (Denied reason.Closed) outside = ap (send_verdict rs e) ((none_of rs grouped (conn_of e)).1 outside)
send_from rs grouped e (Denied (reason.Rule id)) (g, inside, says) =
    ap (send_verdict rs e) ((grouped (conn_of e) g).0 inside)
    ∙ ap (λ (d : Decision). decided d Allowed) (decides_so (rules_of rs g) right.Send (asker_of e) Deny (by.Rule id) says)
send_from rs grouped e (Allowed basis) (g, inside, says) =
    ap (send_verdict rs e) ((grouped (conn_of e) g).0 inside)
    ∙ ap (λ (d : Decision). decided d Allowed) (decides_so (rules_of rs g) right.Send (asker_of e) Allow basis says)
send_from rs grouped e _ is = absurd is

-- ---- the right to edit

-- the decision on an edit, in words
abbrev pub EditDecidedSo : Rules → Entry → Decision → Type 0
EditDecidedSo rules e (decision.Allowed basis) = EditSays rules e Allow basis
EditDecidedSo rules e (decision.Denied basis) = EditSays rules e Deny basis

edit_decided : (rules : Rules) (e : Entry) → EditDecidedSo rules e (edit_decision rules e)
edit_decided rules e = by_user (e.cred.uid == 0) refl
  where
    by_decision : (d : Decision) → e.cred.uid ≢ 0 → DecidedSo rules right.Edit (asker_of e) d → EditDecidedSo rules e d
    by_decision (decision.Allowed (by.Rule id)) other says = (other, says)
    by_decision (decision.Allowed by.Default) other says = (other, says)
    by_decision (decision.Allowed by.Root) other says = absurd says
    by_decision (decision.Allowed by.Free) other says = absurd says
    by_decision (decision.Denied (by.Rule id)) other says = (other, says)
    by_decision (decision.Denied by.Default) other says = (other, says)
    by_decision (decision.Denied by.Root) other says = absurd says
    by_decision (decision.Denied by.Free) other says = absurd says

    by_user : (b : Bool) → (e.cred.uid == 0) ≡ b → EditDecidedSo rules e (cond b (decision.Allowed by.Root) (decide rules right.Edit (asker_of e)))
    by_user true is = eqb-true e.cred.uid 0 is
    by_user false is = by_decision (decide rules right.Edit (asker_of e)) (eqb-false e.cred.uid 0 is) (decided_so rules right.Edit (asker_of e))

others_edit : (rules : Rules) (e : Entry) (effect : Effect) (basis : By) → e.cred.uid ≢ 0 → Says rules right.Edit (asker_of e) effect basis → edit_decision rules e ≡ decision_of effect basis
others_edit rules e effect basis other says =
    ap (λ (b : Bool). cond b (decision.Allowed by.Root) (decide rules right.Edit (asker_of e))) (ne_eqb e.cred.uid 0 other)
    ∙ decides_so rules right.Edit (asker_of e) effect basis says

edits_so : (rules : Rules) (e : Entry) (effect : Effect) (basis : By) → EditSays rules e effect basis → edit_decision rules e ≡ decision_of effect basis
edits_so rules e Allow by.Root root = ap (λ (b : Bool). cond b (decision.Allowed by.Root) (decide rules right.Edit (asker_of e))) (eq-eqb e.cred.uid 0 root)
edits_so rules e Allow (by.Rule id) (other, says) = others_edit rules e Allow (by.Rule id) other says
edits_so rules e Allow by.Default (other, says) = others_edit rules e Allow by.Default other says
edits_so rules e Allow by.Free (other, says) = absurd says
edits_so rules e Deny (by.Rule id) (other, says) = others_edit rules e Deny (by.Rule id) other says
edits_so rules e Deny by.Default (other, says) = others_edit rules e Deny by.Default other says
edits_so rules e Deny by.Root (other, says) = absurd says
edits_so rules e Deny by.Free (other, says) = absurd says

-- ---- inserts

abbrev pub insert_by : Decision → Bool → Bool → Verdict
insert_by d past full = decided d (λ basis. cond past (Denied reason.Position) (cond full (Denied reason.TableFull) (Allowed basis)))

insert_is : (rules : Rules) (e : Entry) (index : ℕ) (d : Decision) (past full : Bool) → EditDecidedSo rules e d → ltb (length rules) index ≡ past → leb MOST_RULES (length rules) ≡ full →
    IsInsertVerdict rules e index (insert_by d past full)
insert_is rules e index (decision.Denied (by.Rule id)) past full says p f = says
insert_is rules e index (decision.Denied by.Default) past full says p f = says
insert_is rules e index (decision.Denied by.Root) past full says p f = absurd says.1
insert_is rules e index (decision.Denied by.Free) past full says p f = absurd says.1
insert_is rules e index (decision.Allowed b) true full says p f = ((b, says), ltb-true (length rules) index p)
insert_is rules e index (decision.Allowed b) false true says p f = ((b, says), ltb-false (length rules) index p, leb-true MOST_RULES (length rules) f)
insert_is rules e index (decision.Allowed b) false false says p f = (says, ltb-false (length rules) index p, leb-false MOST_RULES (length rules) f)

insert_from : (rules : Rules) (e : Entry) (index : ℕ) (v : Verdict) → IsInsertVerdict rules e index v → insert_verdict rules e index ≡ v
insert_from rules e index (Denied (reason.Rule id)) says =
    ap (λ (d : Decision). insert_by d (ltb (length rules) index) (leb MOST_RULES (length rules))) (edits_so rules e Deny (by.Rule id) says)
insert_from rules e index (Denied reason.Default) says =
    ap (λ (d : Decision). insert_by d (ltb (length rules) index) (leb MOST_RULES (length rules))) (edits_so rules e Deny by.Default says)
insert_from rules e index (Denied reason.Position) (lets, past) =
    let d : edit_decision rules e ≡ decision.Allowed lets.0 = edits_so rules e Allow lets.0 lets.1 in
    let p : ltb (length rules) index ≡ true = lt-ltb (length rules) index past in
    λ i. insert_by (d i) (p i) (leb MOST_RULES (length rules))
insert_from rules e index (Denied reason.TableFull) (lets, within, many) =
    let d : edit_decision rules e ≡ decision.Allowed lets.0 = edits_so rules e Allow lets.0 lets.1 in
    let p : ltb (length rules) index ≡ false = le-ltb (length rules) index within in
    let f : leb MOST_RULES (length rules) ≡ true = le-leb MOST_RULES (length rules) many in
    λ i. insert_by (d i) (p i) (f i)
insert_from rules e index (Allowed basis) (says, within, few) =
    let d : edit_decision rules e ≡ decision.Allowed basis = edits_so rules e Allow basis says in
    let p : ltb (length rules) index ≡ false = le-ltb (length rules) index within in
    let f : leb MOST_RULES (length rules) ≡ false = lt-leb MOST_RULES (length rules) few in
    λ i. insert_by (d i) (p i) (f i)
insert_from rules e index _ is = absurd is

-- ---- removes

abbrev pub remove_by : Decision → Bool → Verdict
remove_by d has = decided d (λ basis. cond has (Allowed basis) (Denied reason.Absent))

remove_is : (rules : Rules) (e : Entry) (id : ℕ) (d : Decision) (has : Bool) → EditDecidedSo rules e d → (has ≡ true) ↔ HasRule rules id → IsRemoveVerdict rules e id (remove_by d has)
remove_is rules e id (decision.Denied (by.Rule decider)) has says h = says
remove_is rules e id (decision.Denied by.Default) has says h = says
remove_is rules e id (decision.Denied by.Root) has says h = absurd says.1
remove_is rules e id (decision.Denied by.Free) has says h = absurd says.1
remove_is rules e id (decision.Allowed b) true says h = (says, h.0 refl)
remove_is rules e id (decision.Allowed b) false says h = ((b, says), (not_so false h).0 refl)

remove_from : (rules : Rules) (e : Entry) (id : ℕ) (v : Verdict) → IsRemoveVerdict rules e id v → remove_verdict rules e id ≡ v
remove_from rules e id (Denied (reason.Rule decider)) says = ap (λ (d : Decision). remove_by d (has_id id rules)) (edits_so rules e Deny (by.Rule decider) says)
remove_from rules e id (Denied reason.Default) says = ap (λ (d : Decision). remove_by d (has_id id rules)) (edits_so rules e Deny by.Default says)
remove_from rules e id (Denied reason.Absent) (lets, absent) =
    let d : edit_decision rules e ≡ decision.Allowed lets.0 = edits_so rules e Allow lets.0 lets.1 in
    let h : has_id id rules ≡ false = (not_so (has_id id rules) (has_rule rules id)).1 absent in
    λ i. remove_by (d i) (h i)
remove_from rules e id (Allowed basis) (says, has) =
    let d : edit_decision rules e ≡ decision.Allowed basis = edits_so rules e Allow basis says in
    let h : has_id id rules ≡ true = (has_rule rules id).1 has in
    λ i. remove_by (d i) (h i)
remove_from rules e id _ is = absurd is

-- ---- ends of connections

end_from : (v : Verdict) → IsEndVerdict v → Allowed by.Free ≡ v
end_from (Allowed by.Free) is = refl
end_from _ is = absurd is

-- ---- all ops

verdict_is : (rs : List Record) → Grouped rs → (e : Entry) (op : Op) → IsVerdict rs e op (op_verdict rs e op)
verdict_is rs grouped e (Act (Join g)) =
    join_is rs e g (decide (rules_of rs g) right.Join (asker_of e)) (is_some (group_of rs (conn_of e))) (has_process e (members rs g)) (leb MOST_MEMBERS (length (members rs g)))
    (decided_so (rules_of rs g) right.Join (asker_of e)) (in_some rs grouped (conn_of e)) (member_already rs e g) refl
verdict_is rs grouped e (Act Leave) = leave_is rs grouped e (group_of rs (conn_of e)) refl
verdict_is rs grouped e (Act (Send message)) = send_is rs grouped e (group_of rs (conn_of e)) refl
verdict_is rs grouped e (Act (Insert g index rule)) =
    insert_is (rules_of rs g) e index (edit_decision (rules_of rs g) e) (ltb (length (rules_of rs g)) index) (leb MOST_RULES (length (rules_of rs g))) (edit_decided (rules_of rs g) e) refl refl
verdict_is rs grouped e (Act (Remove g id)) =
    remove_is (rules_of rs g) e id (edit_decision (rules_of rs g) e) (has_id id (rules_of rs g)) (edit_decided (rules_of rs g) e) (has_rule (rules_of rs g) id)
verdict_is rs grouped e Gone = tt

verdict_from : (rs : List Record) → Grouped rs → (e : Entry) (op : Op) (v : Verdict) → IsVerdict rs e op v → op_verdict rs e op ≡ v
verdict_from rs grouped e (Act (Join g)) v is = join_from rs grouped e g v is
verdict_from rs grouped e (Act Leave) v is = leave_from rs grouped e v is
verdict_from rs grouped e (Act (Send message)) v is = send_from rs grouped e v is
verdict_from rs grouped e (Act (Insert g index rule)) v is = insert_from (rules_of rs g) e index v is
verdict_from rs grouped e (Act (Remove g id)) v is = remove_from (rules_of rs g) e id v is
verdict_from rs grouped e Gone v is = end_from v is

pub verdicts_name_what_decided : VerdictsNameWhatDecided
verdicts_name_what_decided es place r stands v =
    let grouped : Grouped (records_before (judged es) place) = λ c g. group_in_first es (place - 1) c g in
    let said : r.verdict ≡ op_verdict (records_before (judged es) place) r.entry r.entry.op = ap (λ (q : Record). q.verdict) (record_is es place r stands) in (
      (λ is. subst (λ (x : Verdict). IsVerdict (records_before (judged es) place) r.entry r.entry.op x) (sym said ∙ is) (verdict_is (records_before (judged es) place) grouped r.entry r.entry.op)),
      (λ is. said ∙ verdict_from (records_before (judged es) place) grouped r.entry r.entry.op v is),
    )

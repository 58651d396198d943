-- Judged records list no more members, and keep no more rules, than there may be.
use Rattle.std.proofs.Common.{◌≡◌, ℕ, suc, ◌+◌, ◌<◌, ◌≤◌, Bool, true, false, not, ◌&&◌, ◌==◌, cond, List, [], ◌∷◌, ◌++◌, length, take, get_or, Option, Some, None, refl, sym, ap, ◌∙◌, subst, arith}
use Rattle.std.specs.Str.{bytes_eq}
use Rattle.std.specs.List.{filter, fold}
use Rattle.std.proofs.lemmas.Bool.{leb-false}
use Rattle.std.proofs.lemmas.List.{length_push}
use Rattle.std.proofs.lemmas.List.Edits.{length-insert}
use Rattle.std.proofs.lemmas.List.Filters.{length-filter_both}
use Rattle.std.proofs.lemmas.Option.{slice_get-get_or}
use Rattle.std.proofs.lemmas.Slice.Eq.{bytes_eq-Decides}
use Rattle.cpg_rules.specs.declared.tables.TheConstants.{MOST_RULES}
use Rattle.cpg_rules.specs.Tables.{Rules}
use Rattle.cpg_entry.specs.declared.calls.Call.TheVariants.{Join, Leave, Send, Insert, Remove}
use Rattle.cpg_entry.specs.declared.calls.Op.{Op}
use Rattle.cpg_entry.specs.declared.calls.Op.TheVariants.{Act, Gone}
use Rattle.cpg_entry.specs.declared.entries.Entry.{Entry}
use Rattle.cpg_record.specs.declared.limits.TheConstants.{MOST_MEMBERS}
use Rattle.cpg_record.specs.declared.memberships.Member.{Member}
use Rattle.cpg_record.specs.declared.records.Record.{Record}
use Rattle.cpg_record.specs.Bounds.{JudgedWithinBounds}
use Rattle.cpg_record.specs.Connections.{conn_in, conn_of, is_conn, member_of}
use Rattle.cpg_record.specs.Judging.{judged, with_judgement, draft, entry_group, record_of}
use Rattle.cpg_record.specs.Membership.{is_allowed, is_named, members, members_in}
use Rattle.cpg_record.specs.Places.{record_at, records_before}
use Rattle.cpg_record.specs.RuleTables.{edited_by, named, rules_of}
use Rattle.cpg_record.specs.Steps.{members_by}
use Rattle.cpg_record.specs.Verdicts.{edit_decision, op_verdict}
use Rattle.cpg_record.proofs.Changed.{records_list_their_members}
use Rattle.cpg_record.proofs.Denials.{prefixes_are_judged_alike}
use Rattle.cpg_record.proofs.Growing.{members_push, rules_of_push}
use Rattle.cpg_record.proofs.Judging.{insert_decided}
use Rattle.cpg_record.proofs.Once.{allowed_join}
use Rattle.cpg_record.proofs.Told.{group_is, record_is}

fewer : {X : Type 0} (p : X → Bool) (xs : List X) → length (filter p xs) ≤ length xs
fewer p xs = omega (arith, length-filter_both p (λ x. not (p x)) (λ x. refl) xs)

-- ---- members

few_joined : (list : List Member) (e : Entry) (here : Bool) → length list ≤ MOST_MEMBERS → (here ≡ true → length list < MOST_MEMBERS) →
    length (cond here (list ++ member_of e ∷ []) list) ≤ MOST_MEMBERS
few_joined list e true few room =
    let below : length list < MOST_MEMBERS = room refl in
    omega (arith, length_push list (member_of e))
few_joined list e false few room = few

few_by : (rs : List Record) (e : Entry) (op : Op) (g : List ℕ) (v : Bool) → is_allowed (op_verdict rs e op) ≡ v → ((h : List ℕ) → length (members rs h) ≤ MOST_MEMBERS) →
    length (cond v (members_by e op g (members rs g)) (members rs g)) ≤ MOST_MEMBERS
few_by rs e op g false is few = few g
few_by rs e (Act (Join h)) g true is few =
    few_joined (members rs g) e (bytes_eq h g) (few g)
    (λ here.
    let same : h ≡ g = (bytes_eq-Decides h g).0 here in
    subst (λ (k : List ℕ). length (members rs k) < MOST_MEMBERS) same (leb-false MOST_MEMBERS (length (members rs h)) (allowed_join rs e h is).2))
few_by rs e (Act Leave) g true is few = omega (arith, fewer (λ member. not (is_conn (conn_in member) (conn_of e))) (members rs g), few g)
few_by rs e Gone g true is few = omega (arith, fewer (λ member. not (is_conn (conn_in member) (conn_of e))) (members rs g), few g)
few_by rs e (Act (Send m)) g true is few = few g
few_by rs e (Act (Insert h index rule)) g true is few = few g
few_by rs e (Act (Remove h id)) g true is few = few g

few_from : (rs : List Record) (es : List Entry) → ((g : List ℕ) → length (members rs g) ≤ MOST_MEMBERS) →
    (g : List ℕ) → length (members (fold with_judgement rs es) g) ≤ MOST_MEMBERS
few_from rs [] few = few
few_from rs (e ∷ es) few =
    few_from (rs ++ record_of rs e ∷ []) es
    (λ g. subst (λ (list : List Member). length list ≤ MOST_MEMBERS) (sym (members_push rs (record_of rs e) g)) (few_by rs e e.op g (is_allowed (op_verdict rs e e.op)) refl few))

few_members : (es : List Entry) (g : List ℕ) → length (members (judged es) g) ≤ MOST_MEMBERS
few_members es = few_from [] es (λ g. omega arith)

-- ---- rules

few_edited : (rs : List Record) (e : Entry) (op : Op) (g : List ℕ) (place : ℕ) → is_allowed (op_verdict rs e op) ≡ true → is_named (named op) g ≡ true →
    length (rules_of rs g) ≤ MOST_RULES → length (edited_by place op (rules_of rs g)) ≤ MOST_RULES
few_edited rs e (Act (Insert h index rule)) g place is here few =
    let same : h ≡ g = (bytes_eq-Decides h g).0 here in
    let room : (index ≤ length (rules_of rs h)) × (length (rules_of rs h) < 64) = insert_decided (rules_of rs h) index (edit_decision (rules_of rs h) e) is in
    let room' : (index ≤ length (rules_of rs g)) × (length (rules_of rs g) < 64) = subst (λ (k : List ℕ). (index ≤ length (rules_of rs k)) × (length (rules_of rs k) < 64)) same room in
    let below : length (rules_of rs g) < 64 = room'.1 in
    omega (arith, length-insert (rules_of rs g) index (place, rule) room'.0)
few_edited rs e (Act (Remove h id)) g place is here few = omega (arith, fewer (λ entry. not (entry.0 == id)) (rules_of rs g))
few_edited rs e (Act (Join h)) g place is here few = few
few_edited rs e (Act Leave) g place is here few = few
few_edited rs e (Act (Send m)) g place is here few = few
few_edited rs e Gone g place is here few = few

few_rules_by : (rs : List Record) (e : Entry) (g : List ℕ) (v n : Bool) (place : ℕ) → is_allowed (op_verdict rs e e.op) ≡ v → is_named (named e.op) g ≡ n →
    length (rules_of rs g) ≤ MOST_RULES → length (cond (v && n) (edited_by place e.op (rules_of rs g)) (rules_of rs g)) ≤ MOST_RULES
few_rules_by rs e g false n place is here few = few
few_rules_by rs e g true false place is here few = few
few_rules_by rs e g true true place is here few = few_edited rs e e.op g place is here few

few_rules_from : (rs : List Record) (es : List Entry) → ((g : List ℕ) → length (rules_of rs g) ≤ MOST_RULES) →
    (g : List ℕ) → length (rules_of (fold with_judgement rs es) g) ≤ MOST_RULES
few_rules_from rs [] few = few
few_rules_from rs (e ∷ es) few =
    few_rules_from (rs ++ record_of rs e ∷ []) es
    (λ g. subst (λ (rules : Rules). length rules ≤ MOST_RULES) (sym (rules_of_push rs (record_of rs e) g))
    (few_rules_by rs e g (is_allowed (op_verdict rs e e.op)) (is_named (named e.op) g) (1 + length rs) refl refl (few g)))

-- ---- what records list

few_listed : (es : List Entry) (p : ℕ) (r : Record) → record_at (judged es) p ≡ Some r → length r.members ≤ MOST_MEMBERS
few_listed es p r stands = by_group r.group refl
  where
    by_group : (o : Option (List ℕ)) → r.group ≡ o → length r.members ≤ MOST_MEMBERS
    by_group None group =
        let none : entry_group (records_before (judged es) p) r.entry r.entry.op ≡ None = sym (group_is es p r stands) ∙ group in
        let nobody : r.members ≡ [] =
        ap (λ (q : Record). q.members) (record_is es p r stands)
        ∙ ap (members_in (records_before (judged es) p ++ draft (records_before (judged es) p) r.entry ∷ [])) none in
        omega (arith, ap length nobody)
    by_group (Some g) group =
        subst (λ (list : List Member). length list ≤ MOST_MEMBERS) (sym (records_list_their_members es p r g stands group))
        (subst (λ (rs : List Record). length (members rs g) ≤ MOST_MEMBERS) (prefixes_are_judged_alike es p) (few_members (take p es) g))

pub judged_within_bounds : JudgedWithinBounds
judged_within_bounds es = record {
  few_members = few_members es;
  few_listed = λ k d below. few_listed es (suc k) (get_or (judged es) k d) (slice_get-get_or (judged es) k d below);
  few_rules = few_rules_from [] es (λ g. omega arith);
}

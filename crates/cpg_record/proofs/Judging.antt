-- What holds of the records of agreed entries.
use Rattle.std.proofs.Common.{◌≡◌, ◌≢◌, ℕ, ◌+◌, ◌<◌, ◌≤◌, Bool, true, false, ◌&&◌, cond, leb, ltb, ◌⊎◌, inl, inr, List, [], ◌∷◌, ◌++◌, length, take, drop, get_or, refl, sym, ap, subst, ◌∙◌, arith, rules, All}
use Rattle.std.specs.List.{fold}
use Rattle.std.proofs.lemmas.Bool.{leb-false, ltb-false, cases_lt}
use Rattle.std.proofs.lemmas.Slice.Eq.{bytes_eq-Decides}
use Rattle.std.proofs.lemmas.List.{take_at, take-append-le, get_or_append_left, get_or_push, length_push}
use Rattle.std.proofs.lemmas.List.Elements.{All-append, All-cons, All-take, All-drop, All-filter}
use Rattle.cpg_cred.specs.declared.bases.By.{By}
use Rattle.cpg_rules.specs.declared.decisions.Decision.{Decision}
use Rattle.cpg_rules.specs.declared.decisions.Decision.TheVariants as decision
use Rattle.cpg_rules.specs.Tables.{Rules}
use Rattle.cpg_entry.specs.declared.entries.Entry.{Entry}
use Rattle.cpg_entry.specs.declared.calls.Op.{Op}
use Rattle.cpg_entry.specs.declared.calls.Op.TheVariants.{Act, Gone}
use Rattle.cpg_entry.specs.declared.calls.Call.TheVariants.{Join, Leave, Send, Insert, Remove}
use Rattle.cpg_record.specs.declared.records.Record.{Record}
use Rattle.cpg_record.specs.declared.verdicts.Verdict.TheVariants.{Allowed, Denied}
use Rattle.cpg_record.specs.declared.verdicts.Reason.TheVariants as reason
use Rattle.cpg_record.specs.Membership.{is_allowed, is_named}
use Rattle.cpg_record.specs.RuleTables.{edited_by, named, edited, rules_of}
use Rattle.cpg_record.specs.Verdicts.{edit_decision, decided, op_verdict}
use Rattle.cpg_record.specs.Judging.{with_judgement, record_of, entries_of, AreJudged}
use Rattle.cpg_record.specs.Steps.{CanEdit, CanEditBy}

-- ---- each record is the judgement of its entry

abbrev pub Each : List Record → Type 0
Each rs = (i : ℕ) (d : Record) → i < length rs → get_or rs i d ≡ record_of (take i rs) (get_or rs i d).entry

Each-push : (rs : List Record) (e : Entry) → Each rs → Each (rs ++ record_of rs e ∷ [])
Each-push rs e each i d h = last_or_before (cases_lt i (length rs))
  where
    last_or_before : (i < length rs) ⊎ (length rs ≤ i) → get_or (rs ++ record_of rs e ∷ []) i d ≡ record_of (take i (rs ++ record_of rs e ∷ [])) (get_or (rs ++ record_of rs e ∷ []) i d).entry
    last_or_before (inl below) = rw (get_or_append_left rs (record_of rs e ∷ []) d i below, take-append-le i rs (record_of rs e ∷ []) (omega arith)) (each i d below)
    last_or_before (inr above) =
        let here : length rs ≡ i = omega (arith, length_push rs (record_of rs e)) in
        get_or_push rs (record_of rs e) d i here
        ∙ ap (λ ps. record_of ps e) (sym (take_at rs (record_of rs e ∷ []) i here))
        ∙ ap (λ r. record_of (take i (rs ++ record_of rs e ∷ [])) r.entry) (sym (get_or_push rs (record_of rs e) d i here))

Each-fold : (rs : List Record) (es : List Entry) → Each rs → Each (fold with_judgement rs es)
Each-fold rs [] each = each
Each-fold rs (e ∷ es) each = Each-fold (rs ++ record_of rs e ∷ []) es (Each-push rs e each)

pub Each-judged : (rs : List Record) → AreJudged rs → Each rs
Each-judged rs are = subst Each (sym are) (Each-fold [] (entries_of rs) (λ i d h. absurd (omega arith)))

-- ---- an allowed insert finds its place and room

insert_room : (rules : Rules) (at : ℕ) (b : By) →
    is_allowed (cond (ltb (length rules) at) (Denied reason.Position) (cond (leb 64 (length rules)) (Denied reason.TableFull) (Allowed b))) ≡ true →
    (at ≤ length rules) × (length rules < 64)
insert_room rules at b h = room (ltb (length rules) at) (leb 64 (length rules)) refl refl h
  where
    room : (x y : Bool) → ltb (length rules) at ≡ x → leb 64 (length rules) ≡ y → is_allowed (cond x (Denied reason.Position) (cond y (Denied reason.TableFull) (Allowed b))) ≡ true → (at ≤ length rules) × (length rules < 64)
    room true y p q k = absurd (cc)
    room false true p q k = absurd (cc)
    room false false p q k = (ltb-false (length rules) at p, leb-false 64 (length rules) q)

pub insert_decided : (rules : Rules) (at : ℕ) (d : Decision) →
    is_allowed (decided d (λ b. cond (ltb (length rules) at) (Denied reason.Position) (cond (leb 64 (length rules)) (Denied reason.TableFull) (Allowed b)))) ≡ true →
    (at ≤ length rules) × (length rules < 64)
insert_decided rules at (decision.Allowed b) h = insert_room rules at b h
insert_decided rules at (decision.Denied b) h = absurd (cc)

-- over rules with lower ids, an allowed record can edit
can_edit_on : (P : List Record) (e : Entry) (op : Op) (g : List ℕ) (place : ℕ) → is_allowed (op_verdict P e op) ≡ true → is_named (named op) g ≡ true →
    All (λ entry. entry.0 ≢ place) (rules_of P g) → CanEditBy (rules_of P g) place op
can_edit_on P e (Act (Insert h at rule)) g place allowed is fresh =
    let same : h ≡ g = grind (arith, bytes_eq-Decides h g) in
    let room : (at ≤ length (rules_of P h)) × (length (rules_of P h) < 64) = insert_decided (rules_of P h) at (edit_decision (rules_of P h) e) allowed in
    let room' = rw same at room in
    (room'.0, room'.1, fresh)
can_edit_on P e (Act (Join h)) g place allowed is fresh = tt
can_edit_on P e (Act Leave) g place allowed is fresh = tt
can_edit_on P e (Act (Send m)) g place allowed is fresh = tt
can_edit_on P e (Act (Remove h id)) g place allowed is fresh = tt
can_edit_on P e Gone g place allowed is fresh = tt

pub can_edit : (P : List Record) (r : Record) (g : List ℕ) (place : ℕ) → r ≡ record_of P r.entry → All (λ entry. entry.0 ≢ place) (rules_of P g) → CanEdit g (rules_of P g) (place, r)
can_edit P r g place is fresh allowed named_is =
    can_edit_on P r.entry r.entry.op g place (ap (λ q. is_allowed q.verdict) (sym is) ∙ allowed) named_is fresh

-- ---- no id is above the last place

ids_by : (rules : Rules) (place : ℕ) (op : Op) → All (λ entry. entry.0 ≤ place) rules → All (λ entry. entry.0 ≤ place) (edited_by place op rules)
ids_by rules place (Act (Insert h at rule)) low =
    All-append (λ entry. entry.0 ≤ place) (take at rules) ((place, rule) ∷ drop at rules) (All-take (λ entry. entry.0 ≤ place) at rules low)
    (All-cons (λ entry. entry.0 ≤ place) (place, rule) (drop at rules) (omega arith) (All-drop (λ entry. entry.0 ≤ place) at rules low))
ids_by rules place (Act (Remove h id)) low = All-filter _ (λ entry. entry.0 ≤ place) rules low
ids_by rules place (Act (Join h)) low = low
ids_by rules place (Act Leave) low = low
ids_by rules place (Act (Send m)) low = low
ids_by rules place Gone low = low

pub ids_edited : (g : List ℕ) (rules : Rules) (i : ℕ) (r : Record) → All (λ entry. entry.0 ≤ i) rules → All (λ entry. entry.0 ≤ i + 1) (edited g rules (i + 1, r))
ids_edited g rules i r low =
    let low' : All (λ entry. entry.0 ≤ i + 1) rules = λ k d h. omega (arith, low k d h) in
    elim (is_allowed r.verdict && is_named (named r.entry.op) g) as (λ b. All (λ entry. entry.0 ≤ i + 1) (cond b (edited_by (i + 1) r.entry.op rules) rules))
    [ true ↦ ids_by rules (i + 1) r.entry.op low' | false ↦ low' ]

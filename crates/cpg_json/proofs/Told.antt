-- the rest of the line of what a place tells, and which of it a connection hears
use Rattle.std.proofs.Common.{◌≡◌, ℕ, ◌+◌, ◌-◌, ◌≤◌, Bool, true, false, List, [], ◌∷◌, ◌++◌, length, map, take, drop, codes, Option, Result, Ok, Err, Some, None, nat_lt, refl, sym, ap, subst, ◌∙◌, append_assoc, append-nil, arith}
use Rattle.std.specs.Prelude.{if◌then◌else◌, is_some, option_to_list, OnOk}
use Rattle.cpg_cred.specs.declared.refusals.Refusal.{Refusal}
use Rattle.std.specs.Int.{from_bool}
use Rattle.std.specs.List.{concat, flat_map, range_with_len}
use Rattle.std.proofs.lemmas.List.{map-append, drop_at}
use Rattle.std.proofs.lemmas.List.FromFn.{take-map-range_with_len, length-map-range_with_len}
use Rattle.cpg_entry.specs.declared.calls.Call.TheVariants.{Join, Leave, Send, Insert, Remove}
use Rattle.cpg_entry.specs.declared.calls.Op.{Op}
use Rattle.cpg_entry.specs.declared.calls.Op.TheVariants.{Act, Gone}
use Rattle.cpg_record.specs.declared.connections.ConnId.{ConnId}
use Rattle.cpg_record.specs.declared.events.Event.{Event}
use Rattle.cpg_record.specs.declared.events.Event.TheVariants.{Verdict}
use Rattle.cpg_record.specs.declared.records.Record.{Record}
use Rattle.cpg_record.specs.Connections.{conn_of, is_conn}
use Rattle.cpg_record.specs.Events.{events, events_by, hears_change, news, news_by}
use Rattle.cpg_record.specs.Membership.{is_allowed, is_member}
use Rattle.cpg_record.specs.Places.{record_at, records_before}
use Rattle.cpg_group.specs.Telling.{told, told_by, told_from, told_in}
use Rattle.cpg_judge.specs.Texts.{with_text, HoldsTexts, TextValue}
use Rattle.cpg_judge.proofs.Ends.{holds_more}
use Rattle.cpg_judge.proofs.Ranges.{numbers_parted}
use Rattle.cpg_json.specs.Events.{event_fields, event_json}
use Rattle.cpg_json.specs.Objects.{after_comma, kind, more, number}
use Rattle.cpg_json.specs.Steps.{lines_at}
use Rattle.cpg_json.specs.Tails.{front_of, heard_text, own_text, tail_at, tail_of, tails_upto, AreTails}

-- ---- tails by place

tails_more : (rs : List Record) (last : ℕ) → tails_upto rs (last + 1) ≡ tails_upto rs last ++ tail_at rs (last + 1) ∷ []
tails_more rs last =
    let sum : 1 + last ≡ last + 1 = omega arith in
    ap (map (tail_at rs)) (numbers_parted 1 last 1) ∙ map-append (tail_at rs) (range_with_len 1 last) ((1 + last) ∷ [])
    ∙ ap (λ n. tails_upto rs last ++ tail_at rs n ∷ []) sum

-- the tails of one place more
pub tails_next : (rs : List Record) (last : ℕ) (value new : TextValue) → AreTails value rs last → new ≡ with_text (tail_at rs (last + 1)) value → AreTails new rs (last + 1)
tails_next rs last value new are is =
    subst (λ v. AreTails v rs (last + 1)) (sym is)
    (subst (λ texts. HoldsTexts (with_text (tail_at rs (last + 1)) value) texts) (sym (tails_more rs last)) (holds_more value (tails_upto rs last) (tail_at rs (last + 1)) are))

-- one tail of them
pub tail_cut : (rs : List Record) (place : ℕ) → 1 ≤ place → place ≤ length rs → concat (drop (place - 1) (take place (tails_upto rs (length rs)))) ≡ tail_at rs place
tail_cut rs place some within =
    let back : place - 1 + 1 ≡ place = omega (arith, some) in
    ap (λ l. concat (drop (place - 1) l)) (take-map-range_with_len (tail_at rs) 1 (length rs) place within ∙ ap (tails_upto rs) (sym back) ∙ tails_more rs (place - 1))
    ∙ ap concat (drop_at (tails_upto rs (place - 1)) (tail_at rs (place - 1 + 1) ∷ []) (place - 1) (length-map-range_with_len (tail_at rs) 1 (place - 1)))
    ∙ append-nil (tail_at rs (place - 1 + 1)) ∙ ap (tail_at rs) back

pub tails_counted : (rs : List Record) (last : ℕ) → length (tails_upto rs last) ≡ last
tails_counted rs last = length-map-range_with_len (tail_at rs) 1 last

-- ---- the line of an event in two parts

regrouped : (k n c m : List ℕ) → ((k ++ (n ++ (c ++ m))) ++ (125 ∷ [])) ++ (10 ∷ []) ≡ (k ++ (n ++ (c ++ []))) ++ (m ++ (125 ∷ 10 ∷ []))
regrouped k n c m = simp (append_assoc, append-nil)

pub in_two : (conn : ConnId) (event : Event) → event_json conn event ≡ front_of conn ++ tail_of event
in_two conn event = ap (λ l. 123 ∷ l) (regrouped (kind (codes "event")) (after_comma (number (codes "node") conn.node)) (after_comma (number (codes "connection") conn.conn)) (more (event_fields event)))

-- ---- what a connection hears

some_if : (t : Bool) (x : Event) → is_some (if t then Some x else None) ≡ true → (if t then Some x else None) ≡ Some x
some_if true x some = refl
some_if false x some = absurd (cc)

by_op : (place : ℕ) (before : List Record) (r : Record) (conn : ConnId) (g : List ℕ) (op : Op)
    → is_some (news_by place before r conn g op) ≡ true → news_by place before r conn g op ≡ Some (told_by place before r g op)
by_op place before r conn g (Act (Send message)) some = some_if (is_member before conn g) (told_by place before r g (Act (Send message))) some
by_op place before r conn g (Act (Join name)) some = some_if (hears_change before r conn g) (told_by place before r g (Act (Join name))) some
by_op place before r conn g (Act Leave) some = some_if (hears_change before r conn g) (told_by place before r g (Act Leave)) some
by_op place before r conn g Gone some = some_if (hears_change before r conn g) (told_by place before r g Gone) some
by_op place before r conn g (Act (Insert name index rule)) some = some_if (is_member before conn g) (told_by place before r g (Act (Insert name index rule))) some
by_op place before r conn g (Act (Remove name id)) some = some_if (is_member before conn g) (told_by place before r g (Act (Remove name id))) some

pub by_group : (place : ℕ) (before : List Record) (r : Record) (conn : ConnId) (o : Option (List ℕ))
    → is_some (news place before r conn o) ≡ true → news place before r conn o ≡ told_in place before r o
by_group place before r conn None some = refl
by_group place before r conn (Some g) some = by_verdict (is_allowed r.verdict) some
  where
    by_verdict : (b : Bool) → is_some (if b then news_by place before r conn g r.entry.op else None) ≡ true
        → (if b then news_by place before r conn g r.entry.op else None) ≡ (if b then Some (told_by place before r g r.entry.op) else None)
    by_verdict true h = by_op place before r conn g r.entry.op h
    by_verdict false h = refl

counted : (own : Bool) (v : Event) (n : Option Event) → nat_lt (from_bool own) (length ((if own then v ∷ [] else []) ++ option_to_list n)) ≡ is_some n
counted true v (Some e) = refl
counted true v None = refl
counted false v (Some e) = refl
counted false v None = refl

one_told : (conn : ConnId) (e : Event) (t : Option Event) → Some e ≡ t → event_json conn e ++ [] ≡ front_of conn ++ flat_map tail_of (option_to_list t)
one_told conn e t is =
    append-nil (event_json conn e) ∙ in_two conn e ∙ ap (λ l. front_of conn ++ l) (sym (append-nil (tail_of e))) ∙ ap (λ (o : Option Event). front_of conn ++ flat_map tail_of (option_to_list o)) is

split : (conn : ConnId) (own : Bool) (v : Event) (n t : Option Event) → (is_some n ≡ true → n ≡ t)
    → concat (map (event_json conn) ((if own then v ∷ [] else []) ++ option_to_list n))
    ≡ own_text own (front_of conn) v ++ heard_text (is_some n) (front_of conn) (flat_map tail_of (option_to_list t))
split conn true v (Some e) t same = ap (λ l. l ++ (event_json conn e ++ [])) (in_two conn v) ∙ ap (λ l. (front_of conn ++ tail_of v) ++ l) (one_told conn e t (same refl))
split conn true v None t same = ap (λ l. l ++ []) (in_two conn v)
split conn false v (Some e) t same = one_told conn e t (same refl)
split conn false v None t same = refl

-- what a place tells a connection: the verdict of its own entry, and what the place tells the group where it hears it
pub told_text : (rs : List Record) (place : ℕ) (conn : ConnId) (r : Record) (own heard : Bool) → record_at rs place ≡ Some r
    → own ≡ is_conn conn (conn_of r.entry) → heard ≡ nat_lt (from_bool own) (length (events rs place conn))
    → concat (lines_at rs conn place) ≡ own_text own (front_of conn) (Verdict place r.verdict) ++ heard_text heard (front_of conn) (tail_at rs place)
told_text rs place conn r own heard there is counts =
    let before = records_before rs place in
    let n = news place (records_before rs place) r conn r.group in
    let all : events rs place conn ≡ (if own then Verdict place r.verdict ∷ [] else []) ++ option_to_list n =
    ap (events_by place (records_before rs place) conn) there ∙ ap (λ (b : Bool). (if b then Verdict place r.verdict ∷ [] else []) ++ option_to_list n) (sym is) in
    let hears_it : heard ≡ is_some n = counts ∙ ap (λ (es : List Event). nat_lt (from_bool own) (length es)) all ∙ counted own (Verdict place r.verdict) n in
    let group : told_in place (records_before rs place) r r.group ≡ told rs place = sym (ap (told_from place (records_before rs place)) there) in
    ap (λ (es : List Event). concat (map (event_json conn) es)) all
    ∙ split conn own (Verdict place r.verdict) n (told_in place (records_before rs place) r r.group) (by_group place (records_before rs place) r conn r.group)
    ∙ ap (λ (b : Bool). own_text own (front_of conn) (Verdict place r.verdict) ++ heard_text b (front_of conn) (flat_map tail_of (option_to_list (told_in place (records_before rs place) r r.group)))) (sym hears_it)
    ∙ ap (λ (o : Option Event). own_text own (front_of conn) (Verdict place r.verdict) ++ heard_text heard (front_of conn) (flat_map tail_of (option_to_list o))) group

-- what is put of a place
pub place_put : (rs : List Record) (place : ℕ) (conn : ConnId) (r : Record) (own : Bool) (count from : ℕ) (front tail old mid new : List ℕ) → record_at rs place ≡ Some r
    → own ≡ is_conn conn (conn_of r.entry) → count ≡ length (events rs place conn) → from ≡ from_bool own → front ≡ front_of conn → tail ≡ tail_at rs place
    → mid ≡ old ++ own_text own front (Verdict place r.verdict) → new ≡ mid ++ heard_text (nat_lt from count) front tail → new ≡ old ++ concat (lines_at rs conn place)
place_put rs place conn r own count from front tail old mid new there is counts less fronts tails first second =
    let told = told_text rs place conn r own (nat_lt (from_bool own) (length (events rs place conn))) there is refl in
    second ∙ ap (λ l. l ++ heard_text (nat_lt from count) front tail) first
    ∙ append_assoc old (own_text own front (Verdict place r.verdict)) (heard_text (nat_lt from count) front tail)
    ∙ ap (λ l. old ++ l)
    (ap (λ (n : ℕ). own_text own front (Verdict place r.verdict) ++ heard_text (nat_lt n count) front tail) less
    ∙ ap (λ (n : ℕ). own_text own front (Verdict place r.verdict) ++ heard_text (nat_lt (from_bool own) n) front tail) counts
    ∙ ap (λ l. own_text own l (Verdict place r.verdict) ++ heard_text (nat_lt (from_bool own) (length (events rs place conn))) l tail) fronts
    ∙ ap (λ l. own_text own (front_of conn) (Verdict place r.verdict) ++ heard_text (nat_lt (from_bool own) (length (events rs place conn))) (front_of conn) l) tails
    ∙ sym told)

-- what follows where a call went well
pub where_ok : {P Q : Type 0} (result : Result (Unit {0}) Refusal) → (P → Q) → OnOk result P → OnOk result Q
where_ok (Ok done) f h = f h
where_ok (Err why) f h = h

-- What an inbox holds, in the words of membership.
use Rattle.std.proofs.Common.{◌≡◌, ℕ, zero, suc, ◌+◌, ◌-◌, ◌⊎◌, inl, inr, Bool, true, false, cond, List, [], ◌∷◌, ◌++◌, take, get_or, Option, Some, None, refl, sym, ap, ◌∙◌, subst, arith}
use Rattle.std.specs.Prelude.{◌↔◌, Contains, option_map, option_to_list}
use Rattle.std.specs.List.{slice_get}
use Rattle.std.proofs.lemmas.List.{take_more}
use Rattle.std.proofs.lemmas.List.Elements.{Contains-append_left, Contains-append_right, Contains-append_cases}
use Rattle.std.proofs.lemmas.Option.{slice_get-map, slice_get_within, get_or_from_slice_get, none-some, cond_some}
use Rattle.cpg_entry.specs.declared.calls.Call.TheVariants.{Join, Leave, Send, Insert, Remove}
use Rattle.cpg_entry.specs.declared.calls.Op.{Op}
use Rattle.cpg_entry.specs.declared.calls.Op.TheVariants.{Act, Gone}
use Rattle.cpg_entry.specs.declared.entries.Entry.{Entry}
use Rattle.cpg_record.specs.declared.connections.ConnId.{ConnId}
use Rattle.cpg_record.specs.declared.events.Event.{Event}
use Rattle.cpg_record.specs.declared.events.Event.TheVariants as event
use Rattle.cpg_record.specs.declared.records.Record.{Record}
use Rattle.cpg_record.specs.declared.verdicts.Verdict.{Verdict}
use Rattle.cpg_record.specs.Connections.{conn_of, is_conn}
use Rattle.cpg_record.specs.Events.{answer, hears_change, inbox, news, news_by}
use Rattle.cpg_record.specs.Judging.{judged, record_of, entry_group}
use Rattle.cpg_record.specs.Laws.{InGroup, EachIsJudgedByThoseBefore}
use Rattle.cpg_record.specs.Membership.{group_of, is_allowed, is_member}
use Rattle.cpg_record.specs.Places.{record_at, records_before}
use Rattle.cpg_record.specs.Receiving.{IsSent, ReceivesExactly, EditsTable, IsEdit, HearsEditsExactly, IsVerdictOn, is_verdict, place_of, HearsVerdictsExactly}
use Rattle.cpg_record.proofs.Denials.{prefixes_are_judged_alike, each_entry_is_judged}
use Rattle.cpg_record.proofs.Elsewhere.{named_group}
use Rattle.cpg_record.proofs.Growing.{is_conn-true}
use Rattle.cpg_record.proofs.Inboxes.{told_from_inbox, inbox_from_told, in_single, single_in, nothing}
use Rattle.cpg_record.proofs.Judging.{Each-judged}
use Rattle.cpg_record.proofs.Once.{group_is_membership}
use Rattle.cpg_record.proofs.Lasting.{is_conn-itself}

-- ---- judged records at their places

-- record i is the judgement of its entry over the records before it
pub each_by_those_before : (es : List Entry) (i : ℕ) (r : Record) → slice_get (judged es) i ≡ Some r → r ≡ record_of (take i (judged es)) r.entry
each_by_those_before es i r is =
    let here : get_or (judged es) i r ≡ r = get_or_from_slice_get (judged es) i r r is in
    sym here
    ∙ Each-judged (judged es) (ap judged (sym (each_entry_is_judged es).1)) i r (slice_get_within (judged es) i r is)
    ∙ ap (λ (q : Record). record_of (take i (judged es)) q.entry) here

pub each_is_judged_by_those_before : EachIsJudgedByThoseBefore
each_is_judged_by_those_before es i r is = (
  ap (λ (list : List Entry). slice_get list i) (sym (each_entry_is_judged es).1)
      ∙ slice_get-map (λ (q : Record). q.entry) (judged es) i
      ∙ ap (option_map (λ (q : Record). q.entry)) is,
  each_by_those_before es i r is,
)

pub record_is : (es : List Entry) (p : ℕ) (r : Record) → record_at (judged es) p ≡ Some r → r ≡ record_of (records_before (judged es) p) r.entry
record_is es zero r is = absurd (none-some r is)
record_is es (suc i) r is =
    let before : i ≡ suc i - 1 = omega arith in
    each_by_those_before es i r is ∙ ap (λ (n : ℕ). record_of (take n (judged es)) r.entry) before

pub group_is : (es : List Entry) (p : ℕ) (r : Record) → record_at (judged es) p ≡ Some r → r.group ≡ entry_group (records_before (judged es) p) r.entry r.entry.op
group_is es p r is = ap (λ (q : Record). q.group) (record_is es p r is)

-- the records up to a place are those before it and its own
pub first_records : (rs : List Record) (p : ℕ) (r : Record) → record_at rs p ≡ Some r → take p rs ≡ records_before rs p ++ r ∷ []
first_records rs zero r is = absurd (none-some r is)
first_records rs (suc i) r is =
    let next : suc i ≡ i + 1 = omega arith in
    let before : i ≡ suc i - 1 = omega arith in
    ap (λ n. take n rs) next
    ∙ take_more rs i r (slice_get_within rs i r is)
    ∙ ap (λ (q : Record). take i rs ++ q ∷ []) (get_or_from_slice_get rs i r r is)
    ∙ ap (λ n. take n rs ++ r ∷ []) before

-- ---- membership of the first records

pub group_in_first : (es : List Entry) (n : ℕ) (c : ConnId) (g : List ℕ) → InGroup (take n (judged es)) c g ↔ (group_of (take n (judged es)) c ≡ Some g)
group_in_first es n c g =
    subst (λ (rs : List Record). InGroup rs c g ↔ (group_of rs c ≡ Some g)) (prefixes_are_judged_alike es n) (group_is_membership (take n es) c g)

pub member_in_first : (es : List Entry) (n : ℕ) (c : ConnId) (g : List ℕ) → InGroup (take n (judged es)) c g ↔ (is_member (take n (judged es)) c g ≡ true)
member_in_first es n c g =
    let group = group_in_first es n c g in
    let named = named_group (group_of (take n (judged es)) c) g in
    ((λ i. named.1 (group.0 i)), (λ h. group.1 (named.0 h)))

-- ---- news

no_answer : (place : ℕ) (r : Record) (c : ConnId) (told : Event) → is_verdict told ≡ false → Contains (answer place r c) told → ⊥
no_answer place r c told is has = by_case (is_conn c (conn_of r.entry)) has
  where
    by_case : (b : Bool) → Contains (cond b (event.Verdict place r.verdict ∷ []) []) told → ⊥
    by_case true h =
        let same : true ≡ is_verdict told = ap is_verdict (in_single (event.Verdict place r.verdict) told h) in
        absurd (cc)
    by_case false h = nothing told h

in_option : (o : Option Event) (told : Event) → Contains (option_to_list o) told → o ≡ Some told
in_option None told has = absurd (nothing told has)
in_option (Some x) told has = ap Some (in_single x told has)

option_in : (o : Option Event) (told : Event) → o ≡ Some told → Contains (option_to_list o) told
option_in o told is = subst (λ (x : Option Event). Contains (option_to_list x) told) (sym is) (single_in told told refl)

-- an allowed record of a group that tells the news at its place
pub record Heard (rs : List Record) (c : ConnId) (told : Event) : Type 0 where
  pub place : ℕ
  pub r : Record
  pub g : List ℕ
  pub stands : record_at rs place ≡ Some r
  pub group : r.group ≡ Some g
  pub allowed : is_allowed r.verdict ≡ true
  pub says : news_by place (records_before rs place) r c g r.entry.op ≡ Some told

heard_at : (rs : List Record) (c : ConnId) (told : Event) (place : ℕ) (r : Record) → record_at rs place ≡ Some r → news place (records_before rs place) r c r.group ≡ Some told → Heard rs c told
heard_at rs c told place r stands says = by_group r.group refl says
  where
    by_verdict : (g : List ℕ) (b : Bool) → r.group ≡ Some g → is_allowed r.verdict ≡ b → cond b (news_by place (records_before rs place) r c g r.entry.op) None ≡ Some told → Heard rs c told
    by_verdict g true group allowed h = record { place = place; r = r; g = g; stands = stands; group = group; allowed = allowed; says = h }
    by_verdict g false group allowed h = absurd (none-some told h)

    by_group : (o : Option (List ℕ)) → r.group ≡ o → news place (records_before rs place) r c o ≡ Some told → Heard rs c told
    by_group None group h = absurd (none-some told h)
    by_group (Some g) group h = by_verdict g (is_allowed r.verdict) group refl h

pub heard : (rs : List Record) (c : ConnId) (told : Event) → is_verdict told ≡ false → Contains (inbox rs c) told → Heard rs c told
heard rs c told is has =
    let at = told_from_inbox rs c told has in
    by_part at.place at.r at.stands (Contains-append_cases (answer at.place at.r c) (option_to_list (news at.place (records_before rs at.place) at.r c at.r.group)) told at.tells)
  where
    by_part : (place : ℕ) (r : Record) → record_at rs place ≡ Some r → Contains (answer place r c) told ⊎ Contains (option_to_list (news place (records_before rs place) r c r.group)) told → Heard rs c told
    by_part place r stands (inl own) = absurd (no_answer place r c told is own)
    by_part place r stands (inr other) = heard_at rs c told place r stands (in_option (news place (records_before rs place) r c r.group) told other)

pub hears : (rs : List Record) (c : ConnId) (told : Event) (place : ℕ) (r : Record) (g : List ℕ) → record_at rs place ≡ Some r → r.group ≡ Some g → is_allowed r.verdict ≡ true →
    news_by place (records_before rs place) r c g r.entry.op ≡ Some told → Contains (inbox rs c) told
hears rs c told place r g stands group allowed says =
    let new : news place (records_before rs place) r c r.group ≡ Some told =
    ap (news place (records_before rs place) r c) group ∙ ap (λ (b : Bool). cond b (news_by place (records_before rs place) r c g r.entry.op) None) allowed ∙ says in
    inbox_from_told rs c place r told stands
    (Contains-append_right (answer place r c) (option_to_list (news place (records_before rs place) r c r.group)) told
    (option_in (news place (records_before rs place) r c r.group) told new))

-- ---- messages

-- what a message in the news says of its record
record MessageBy (p : ℕ) (before : List Record) (r : Record) (c : ConnId) (h : List ℕ) (op : Op) (place : ℕ) (g : List ℕ) (node pid : ℕ) (message : List ℕ) : Type 0 where
  sends : op ≡ Act (Send message)
  here : is_member before c h ≡ true
  at : p ≡ place
  name : h ≡ g
  by_node : r.entry.node ≡ node
  by_process : r.entry.pid ≡ pid

message_by : (p : ℕ) (before : List Record) (r : Record) (c : ConnId) (h : List ℕ) (op : Op) (place : ℕ) (g : List ℕ) (node pid : ℕ) (message : List ℕ) →
    news_by p before r c h op ≡ Some (event.Message place g node pid message) → MessageBy p before r c h op place g node pid message
message_by p before r c h (Act (Send m)) place g node pid message says =
    let k = cond_some (is_member before c h) (event.Message p h r.entry.node r.entry.pid m) (event.Message place g node pid message) says in
    let said : event.Message p h r.entry.node r.entry.pid m ≡ event.Message place g node pid message = k.1 in
    let same : m ≡ message = cc in
    record { sends = ap (λ (x : List ℕ). Act (Send x)) same; here = k.0; at = cc; name = cc; by_node = cc; by_process = cc }
message_by p before r c h (Act (Join n)) place g node pid message says = let k = cond_some (hears_change before r c h) _ (event.Message place g node pid message) says in let e = k.1 in absurd (cc)
message_by p before r c h (Act Leave) place g node pid message says = let k = cond_some (hears_change before r c h) _ (event.Message place g node pid message) says in let e = k.1 in absurd (cc)
message_by p before r c h Gone place g node pid message says = let k = cond_some (hears_change before r c h) _ (event.Message place g node pid message) says in let e = k.1 in absurd (cc)
message_by p before r c h (Act (Insert n index rule)) place g node pid message says = let k = cond_some (is_member before c h) _ (event.Message place g node pid message) says in let e = k.1 in absurd (cc)
message_by p before r c h (Act (Remove n id)) place g node pid message says = let k = cond_some (is_member before c h) _ (event.Message place g node pid message) says in let e = k.1 in absurd (cc)

pub receives_exactly : ReceivesExactly
receives_exactly es c place g node pid message = (from_inbox, to_inbox)
  where
    Says : ℕ → List ℕ → Type 0
    Says q n = IsSent (judged es) q n node pid message × InGroup (records_before (judged es) q) c n

    from_inbox : Contains (inbox (judged es) c) (event.Message place g node pid message) → Says place g
    from_inbox has =
        let h = heard (judged es) c (event.Message place g node pid message) refl has in
        let m = message_by h.place (records_before (judged es) h.place) h.r c h.g h.r.entry.op place g node pid message h.says in
        let own : group_of (records_before (judged es) h.place) (conn_of h.r.entry) ≡ Some h.g =
        sym (ap (entry_group (records_before (judged es) h.place) h.r.entry) m.sends) ∙ sym (group_is es h.place h.r h.stands) ∙ h.group in
        let sent : IsSent (judged es) h.place h.g node pid message = record {
          r = h.r;
          stands = h.stands;
          allowed = h.allowed;
          sends = m.sends;
          by_node = m.by_node;
          by_process = m.by_process;
          by_member = (group_in_first es (h.place - 1) (conn_of h.r.entry) h.g).1 own;
        } in
        let inside : InGroup (records_before (judged es) h.place) c h.g = (member_in_first es (h.place - 1) c h.g).1 m.here in
        subst (λ (q : ℕ). Says q g) m.at (subst (λ (n : List ℕ). Says h.place n) m.name (sent, inside))

    to_inbox : Says place g → Contains (inbox (judged es) c) (event.Message place g node pid message)
    to_inbox (sent, inside) =
        let group : sent.r.group ≡ Some g =
        group_is es place sent.r sent.stands ∙ ap (entry_group (records_before (judged es) place) sent.r.entry) sent.sends
        ∙ (group_in_first es (place - 1) (conn_of sent.r.entry) g).0 sent.by_member in
        let here : is_member (records_before (judged es) place) c g ≡ true = (member_in_first es (place - 1) c g).0 inside in
        hears (judged es) c (event.Message place g node pid message) place sent.r g sent.stands group sent.allowed
        (ap (news_by place (records_before (judged es) place) sent.r c g) sent.sends
        ∙ ap (λ (b : Bool). cond b (Some (event.Message place g sent.r.entry.node sent.r.entry.pid message)) None) here
        ∙ ap (λ (n : ℕ). Some (event.Message place g n sent.r.entry.pid message)) sent.by_node
        ∙ ap (λ (n : ℕ). Some (event.Message place g node n message)) sent.by_process)

-- ---- edits of tables

-- what a notice of changed rules in the news says of its record
record EditBy (p : ℕ) (before : List Record) (c : ConnId) (h : List ℕ) (entry : Entry) (op : Op) (place : ℕ) (g : List ℕ) : Type 0 where
  edits : (n : List ℕ) → entry_group before entry op ≡ Some n → EditsTable op n
  here : is_member before c h ≡ true
  at : p ≡ place
  name : h ≡ g

edit_by : (p : ℕ) (before : List Record) (r : Record) (c : ConnId) (h : List ℕ) (op : Op) (place : ℕ) (g : List ℕ) →
    news_by p before r c h op ≡ Some (event.RulesChanged place g) → EditBy p before c h r.entry op place g
edit_by p before r c h (Act (Insert n index rule)) place g says =
    let k = cond_some (is_member before c h) (event.RulesChanged p h) (event.RulesChanged place g) says in
    let said : event.RulesChanged p h ≡ event.RulesChanged place g = k.1 in
    record { edits = λ m is. cc; here = k.0; at = cc; name = cc }
edit_by p before r c h (Act (Remove n id)) place g says =
    let k = cond_some (is_member before c h) (event.RulesChanged p h) (event.RulesChanged place g) says in
    let said : event.RulesChanged p h ≡ event.RulesChanged place g = k.1 in
    record { edits = λ m is. cc; here = k.0; at = cc; name = cc }
edit_by p before r c h (Act (Send m)) place g says = let k = cond_some (is_member before c h) _ (event.RulesChanged place g) says in let e = k.1 in absurd (cc)
edit_by p before r c h (Act (Join n)) place g says = let k = cond_some (hears_change before r c h) _ (event.RulesChanged place g) says in let e = k.1 in absurd (cc)
edit_by p before r c h (Act Leave) place g says = let k = cond_some (hears_change before r c h) _ (event.RulesChanged place g) says in let e = k.1 in absurd (cc)
edit_by p before r c h Gone place g says = let k = cond_some (hears_change before r c h) _ (event.RulesChanged place g) says in let e = k.1 in absurd (cc)

-- an edit of the group tells its members so
edit_says : (p : ℕ) (before : List Record) (r : Record) (c : ConnId) (op : Op) (g : List ℕ) → EditsTable op g → is_member before c g ≡ true →
    (entry_group before r.entry op ≡ Some g) × (news_by p before r c g op ≡ Some (event.RulesChanged p g))
edit_says p before r c (Act (Insert n index rule)) g edits here = (ap Some edits, ap (λ (b : Bool). cond b (Some (event.RulesChanged p g)) None) here)
edit_says p before r c (Act (Remove n id)) g edits here = (ap Some edits, ap (λ (b : Bool). cond b (Some (event.RulesChanged p g)) None) here)
edit_says p before r c (Act (Send m)) g edits here = absurd edits
edit_says p before r c (Act (Join n)) g edits here = absurd edits
edit_says p before r c (Act Leave) g edits here = absurd edits
edit_says p before r c Gone g edits here = absurd edits

pub hears_edits_exactly : HearsEditsExactly
hears_edits_exactly es c place g = (from_inbox, to_inbox)
  where
    Says : ℕ → List ℕ → Type 0
    Says q n = IsEdit (judged es) q n × InGroup (records_before (judged es) q) c n

    from_inbox : Contains (inbox (judged es) c) (event.RulesChanged place g) → Says place g
    from_inbox has =
        let h = heard (judged es) c (event.RulesChanged place g) refl has in
        let m = edit_by h.place (records_before (judged es) h.place) h.r c h.g h.r.entry.op place g h.says in
        let edit : IsEdit (judged es) h.place h.g = record {
          r = h.r;
          stands = h.stands;
          allowed = h.allowed;
          edits = m.edits h.g (sym (group_is es h.place h.r h.stands) ∙ h.group);
        } in
        let inside : InGroup (records_before (judged es) h.place) c h.g = (member_in_first es (h.place - 1) c h.g).1 m.here in
        subst (λ (q : ℕ). Says q g) m.at (subst (λ (n : List ℕ). Says h.place n) m.name (edit, inside))

    to_inbox : Says place g → Contains (inbox (judged es) c) (event.RulesChanged place g)
    to_inbox (edit, inside) =
        let here : is_member (records_before (judged es) place) c g ≡ true = (member_in_first es (place - 1) c g).0 inside in
        let said = edit_says place (records_before (judged es) place) edit.r c edit.r.entry.op g edit.edits here in
        hears (judged es) c (event.RulesChanged place g) place edit.r g edit.stands (group_is es place edit.r edit.stands ∙ said.0) edit.allowed said.1

-- ---- verdicts

-- news are of their place, and no verdict
pub news_place : (p : ℕ) (before : List Record) (r : Record) (c : ConnId) (h : List ℕ) (op : Op) (told : Event) → news_by p before r c h op ≡ Some told → (p ≡ place_of told) × (false ≡ is_verdict told)
news_place p before r c h (Act (Send m)) told says = let k = cond_some (is_member before c h) _ told says in (ap place_of k.1, ap is_verdict k.1)
news_place p before r c h (Act (Join n)) told says = let k = cond_some (hears_change before r c h) _ told says in (ap place_of k.1, ap is_verdict k.1)
news_place p before r c h (Act Leave) told says = let k = cond_some (hears_change before r c h) _ told says in (ap place_of k.1, ap is_verdict k.1)
news_place p before r c h Gone told says = let k = cond_some (hears_change before r c h) _ told says in (ap place_of k.1, ap is_verdict k.1)
news_place p before r c h (Act (Insert n index rule)) told says = let k = cond_some (is_member before c h) _ told says in (ap place_of k.1, ap is_verdict k.1)
news_place p before r c h (Act (Remove n id)) told says = let k = cond_some (is_member before c h) _ told says in (ap place_of k.1, ap is_verdict k.1)

pub hears_verdicts_exactly : HearsVerdictsExactly
hears_verdicts_exactly es c place verdict = (from_inbox, to_inbox)
  where
    by_own : (p : ℕ) (r : Record) (b : Bool) → record_at (judged es) p ≡ Some r → is_conn c (conn_of r.entry) ≡ b →
        Contains (cond b (event.Verdict p r.verdict ∷ []) []) (event.Verdict place verdict) → IsVerdictOn (judged es) place c verdict
    by_own p r true stands own has =
        let same : event.Verdict p r.verdict ≡ event.Verdict place verdict = in_single (event.Verdict p r.verdict) (event.Verdict place verdict) has in
        let at : p ≡ place = cc in
        record { r = r; stands = subst (λ (q : ℕ). record_at (judged es) q ≡ Some r) at stands; own = is_conn-true c (conn_of r.entry) own; said = cc }
    by_own p r false stands own has = absurd (nothing (event.Verdict place verdict) has)

    by_part : (p : ℕ) (r : Record) → record_at (judged es) p ≡ Some r →
        Contains (answer p r c) (event.Verdict place verdict) ⊎ Contains (option_to_list (news p (records_before (judged es) p) r c r.group)) (event.Verdict place verdict) →
        IsVerdictOn (judged es) place c verdict
    by_part p r stands (inl answered) = by_own p r (is_conn c (conn_of r.entry)) stands refl answered
    by_part p r stands (inr other) =
        let h = heard_at (judged es) c (event.Verdict place verdict) p r stands (in_option (news p (records_before (judged es) p) r c r.group) (event.Verdict place verdict) other) in
        let never = (news_place h.place (records_before (judged es) h.place) h.r c h.g h.r.entry.op (event.Verdict place verdict) h.says).1 in
        absurd (cc)

    from_inbox : Contains (inbox (judged es) c) (event.Verdict place verdict) → IsVerdictOn (judged es) place c verdict
    from_inbox has =
        let at = told_from_inbox (judged es) c (event.Verdict place verdict) has in
        by_part at.place at.r at.stands
        (Contains-append_cases (answer at.place at.r c) (option_to_list (news at.place (records_before (judged es) at.place) at.r c at.r.group)) (event.Verdict place verdict) at.tells)

    to_inbox : IsVerdictOn (judged es) place c verdict → Contains (inbox (judged es) c) (event.Verdict place verdict)
    to_inbox a =
        let own : is_conn c (conn_of a.r.entry) ≡ true = subst (λ (x : ConnId). is_conn c x ≡ true) a.own (is_conn-itself c) in
        let list : answer place a.r c ≡ event.Verdict place verdict ∷ [] =
        ap (λ (b : Bool). cond b (event.Verdict place a.r.verdict ∷ []) []) own ∙ ap (λ (v : Verdict). event.Verdict place v ∷ []) a.said in
        inbox_from_told (judged es) c place a.r (event.Verdict place verdict) a.stands
        (Contains-append_left (answer place a.r c) (option_to_list (news place (records_before (judged es) place) a.r c a.r.group)) (event.Verdict place verdict)
        (subst (λ (l : List Event). Contains l (event.Verdict place verdict)) (sym list) (single_in (event.Verdict place verdict) (event.Verdict place verdict) refl)))

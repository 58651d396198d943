-- The verdicts in an inbox are those of the connection's own entries.
use Rattle.std.proofs.Common.{◌≡◌, ℕ, suc, Bool, true, false, cond, List, [], ◌∷◌, ◌++◌, map, length, Option, Some, None, refl, sym, ap, subst, ◌∙◌, append-nil, append_assoc}
use Rattle.std.specs.Prelude.{option_to_list}
use Rattle.std.specs.List.{flat_map}
use Rattle.std.proofs.lemmas.Grind.{flat_map-append}
use Rattle.std.proofs.lemmas.List.{map-append}
use Rattle.std.proofs.lemmas.List.Elements.{filter-append}
use Rattle.cpg_entry.specs.declared.calls.Call.TheVariants.{Join, Leave, Send, Insert, Remove}
use Rattle.cpg_entry.specs.declared.calls.Op.{Op}
use Rattle.cpg_entry.specs.declared.calls.Op.TheVariants.{Act, Gone}
use Rattle.cpg_record.specs.declared.connections.ConnId.{ConnId}
use Rattle.cpg_record.specs.declared.events.Event.{Event}
use Rattle.cpg_record.specs.declared.events.Event.TheVariants as event
use Rattle.cpg_record.specs.declared.records.Record.{Record}
use Rattle.cpg_record.specs.declared.verdicts.Verdict.{Verdict}
use Rattle.cpg_record.specs.Connections.{conn_of, is_conn}
use Rattle.cpg_record.specs.Membership.{is_allowed, is_member}
use Rattle.cpg_record.specs.Events.{hears_change, news_by, news, answer, events_by, events, inbox}
use Rattle.cpg_record.specs.Places.{records_before}
use Rattle.cpg_serve.specs.Verdicts.{verdict_in, own_records, VerdictsAreItsOwn}
use Rattle.cpg_serve.proofs.Growing.{inbox_push}
use Rattle.cpg_serve.proofs.Running.{get_last}

-- what is told beside a verdict is none
if_none : (b : Bool) (e : Event) → verdict_in e ≡ [] → flat_map verdict_in (option_to_list (cond b (Some e) None)) ≡ []
if_none true e h = append-nil (verdict_in e) ∙ h
if_none false e h = refl

by_op : (p : ℕ) (before : List Record) (r : Record) (conn : ConnId) (g : List ℕ) (op : Op) → flat_map verdict_in (option_to_list (news_by p before r conn g op)) ≡ []
by_op p before r conn g (Act (Send message)) = if_none (is_member before conn g) (event.Message p g r.entry.node r.entry.pid message) refl
by_op p before r conn g (Act (Join name)) = if_none (hears_change before r conn g) _ refl
by_op p before r conn g (Act Leave) = if_none (hears_change before r conn g) _ refl
by_op p before r conn g Gone = if_none (hears_change before r conn g) _ refl
by_op p before r conn g (Act (Insert name index rule)) = if_none (is_member before conn g) (event.RulesChanged p g) refl
by_op p before r conn g (Act (Remove name id)) = if_none (is_member before conn g) (event.RulesChanged p g) refl

by_allowed : (b : Bool) (o : Option Event) → flat_map verdict_in (option_to_list o) ≡ [] → flat_map verdict_in (option_to_list (cond b o None)) ≡ []
by_allowed true o h = h
by_allowed false o h = refl

no_news : (p : ℕ) (before : List Record) (r : Record) (conn : ConnId) (g : Option (List ℕ)) → flat_map verdict_in (option_to_list (news p before r conn g)) ≡ []
no_news p before r conn None = refl
no_news p before r conn (Some g) = by_allowed (is_allowed r.verdict) (news_by p before r conn g r.entry.op) (by_op p before r conn g r.entry.op)

own_answer : (p : ℕ) (r : Record) (conn : ConnId) → flat_map verdict_in (answer p r conn) ≡ map (λ (q : Record). q.verdict) (own_records (r ∷ []) conn)
own_answer p r conn = by (is_conn conn (conn_of r.entry))
  where
    by : (b : Bool) → flat_map verdict_in (cond b (event.Verdict p r.verdict ∷ []) []) ≡ map (λ (q : Record). q.verdict) (cond b (r ∷ []) [])
    by true = refl
    by false = refl

own_events : (rs : List Record) (r : Record) (conn : ConnId) → flat_map verdict_in (events (rs ++ r ∷ []) (suc (length rs)) conn) ≡ map (λ (q : Record). q.verdict) (own_records (r ∷ []) conn)
own_events rs r conn =
    let p : ℕ = suc (length rs) in
    let before : List Record = records_before (rs ++ r ∷ []) p in
    ap (λ (o : Option Record). flat_map verdict_in (events_by p before conn o)) (get_last rs r)
    ∙ flat_map-append verdict_in (answer p r conn) (option_to_list (news p before r conn r.group))
    ∙ ap (λ (l : List Verdict). flat_map verdict_in (answer p r conn) ++ l) (no_news p before r conn r.group)
    ∙ append-nil (flat_map verdict_in (answer p r conn)) ∙ own_answer p r conn

abbrev Own : List Record → ConnId → Type 0
Own rs conn = flat_map verdict_in (inbox rs conn) ≡ map (λ (q : Record). q.verdict) (own_records rs conn)

own_push : (rs : List Record) (r : Record) (conn : ConnId) → Own rs conn → Own (rs ++ r ∷ []) conn
own_push rs r conn h =
    ap (flat_map verdict_in) (inbox_push rs r conn)
    ∙ flat_map-append verdict_in (inbox rs conn) (events (rs ++ r ∷ []) (suc (length rs)) conn)
    ∙ ap (λ (l : List Verdict). l ++ flat_map verdict_in (events (rs ++ r ∷ []) (suc (length rs)) conn)) h
    ∙ ap (λ (l : List Verdict). map (λ (q : Record). q.verdict) (own_records rs conn) ++ l) (own_events rs r conn)
    ∙ sym (ap (map (λ (q : Record). q.verdict)) (filter-append (λ (q : Record). is_conn conn (conn_of q.entry)) rs (r ∷ []))
    ∙ map-append (λ (q : Record). q.verdict) (own_records rs conn) (own_records (r ∷ []) conn))

-- the records from the front on, one more after another
own_from : (rs more : List Record) (conn : ConnId) → Own rs conn → Own (rs ++ more) conn
own_from rs [] conn h = subst (λ (l : List Record). Own l conn) (sym (append-nil rs)) h
own_from rs (r ∷ more) conn h = subst (λ (l : List Record). Own l conn) (append_assoc rs (r ∷ []) more) (own_from (rs ++ r ∷ []) more conn (own_push rs r conn h))

pub verdicts_are_its_own : VerdictsAreItsOwn
verdicts_are_its_own records conn = own_from [] records conn refl

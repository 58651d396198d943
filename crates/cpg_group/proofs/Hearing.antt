-- whether a place tells a connection anything
use Rattle.std.proofs.Common.{◌≡◌, ◌≢◌, ◌+◌, ◌<◌, ◌&&◌, ℕ, zero, suc, Bool, true, false, List, [], ◌∷◌, ◌++◌, length, Option, Some, None, refl, ap, ◌∙◌, sym, arith}
use Rattle.std.specs.Prelude.{if◌then◌else◌, is_some, option_to_list}
use Rattle.std.specs.Int.{from_bool}
use Rattle.std.specs.List.{slice_get}
use Rattle.cpg_entry.specs.declared.calls.Call.TheVariants.{Join, Leave, Send, Insert, Remove}
use Rattle.cpg_entry.specs.declared.calls.Op.{Op}
use Rattle.cpg_entry.specs.declared.calls.Op.TheVariants.{Act, Gone}
use Rattle.cpg_record.specs.declared.connections.ConnId.{ConnId}
use Rattle.cpg_record.specs.declared.events.Event.{Event}
use Rattle.cpg_record.specs.declared.events.Event.TheVariants.{Verdict}
use Rattle.cpg_record.specs.declared.records.Record.{Record}
use Rattle.cpg_record.specs.Connections.{conn_of, is_conn}
use Rattle.cpg_record.specs.Membership.{is_allowed}
use Rattle.cpg_record.specs.Events.{answer, events, events_by, news, news_by}
use Rattle.cpg_record.specs.Places.{record_at, records_before}
use Rattle.cpg_group.specs.Telling.{hears, told_by}

-- who is told an allowed op is told what its group is
news_as : (place : ℕ) (before : List Record) (r : Record) (conn : ConnId) (g : List ℕ) (op : Op)
    → news_by place before r conn g op ≡ (if hears before r conn g op then Some (told_by place before r g op) else None)
news_as place before r conn g (Act (Send message)) = refl
news_as place before r conn g (Act (Join name)) = refl
news_as place before r conn g (Act Leave) = refl
news_as place before r conn g Gone = refl
news_as place before r conn g (Act (Insert name index rule)) = refl
news_as place before r conn g (Act (Remove name id)) = refl

-- what is something is not nothing
pub is_news : (said : Option Event) (event : Event) → said ≡ Some event → said ≢ None
is_news said event e none = cc

-- the maker of an entry is told its verdict
pub tells_answer : (records : List Record) (place : ℕ) (conn : ConnId) (r : Record)
    → record_at records place ≡ Some r → is_conn conn (conn_of r.entry) ≡ true → events records place conn ≢ []
tells_answer records place conn r there own none =
    let rest = option_to_list (news place (records_before records place) r conn r.group) in
    let some : events records place conn ≡ Verdict place r.verdict ∷ rest =
    ap (events_by place (records_before records place) conn) there ∙ ap (λ (test : Bool). (if test then Verdict place r.verdict ∷ [] else []) ++ rest) own in
    let both : Verdict place r.verdict ∷ rest ≡ [] = sym some ∙ none in
    cc

after_answer : (first : List Event) (said : Option Event) → said ≢ None → first ++ option_to_list said ≢ []
after_answer [] None some e = some refl
after_answer [] (Some event) some e = cc
after_answer (event ∷ first) said some e = cc

-- what is told beside it is told
pub tells_news : (records : List Record) (place : ℕ) (conn : ConnId) (r : Record)
    → record_at records place ≡ Some r → news place (records_before records place) r conn r.group ≢ None → events records place conn ≢ []
tells_news records place conn r there some none =
    after_answer (answer place r conn) (news place (records_before records place) r conn r.group) some
    (sym (ap (events_by place (records_before records place) conn) there) ∙ none)

-- ---- how many events there are

is_test : {X : Type 0} (x : X) (b : Bool) → is_some (if b then Some x else None) ≡ b
is_test x true = refl
is_test x false = refl

-- whether a record of a group tells anything beside the verdict
pub has_news : (place : ℕ) (before : List Record) (r : Record) (conn : ConnId) (g : List ℕ)
    → (is_allowed r.verdict && hears before r conn g r.entry.op) ≡ is_some (news place before r conn (Some g))
has_news place before r conn g = by_case (is_allowed r.verdict)
  where
    by_case : (b : Bool) → (b && hears before r conn g r.entry.op) ≡ is_some (if b then news_by place before r conn g r.entry.op else None)
    by_case true = sym (ap is_some (news_as place before r conn g r.entry.op) ∙ is_test (told_by place before r g r.entry.op) (hears before r conn g r.entry.op))
    by_case false = refl

-- what is not there is nothing
pub is_told_nothing : (said : Option Event) → is_some said ≡ false → said ≡ None
is_told_nothing None e = refl
is_told_nothing (Some event) e = cc

-- who is told a record of a group is told what its group is
pub is_told_group : (place : ℕ) (before : List Record) (r : Record) (conn : ConnId) (g : List ℕ)
    → is_some (news place before r conn (Some g)) ≡ true → news place before r conn (Some g) ≡ Some (told_by place before r g r.entry.op)
is_told_group place before r conn g = by_case (is_allowed r.verdict)
  where
    by_test : (test : Bool) (event : Event) → is_some (if test then Some event else None) ≡ true → (if test then Some event else None) ≡ Some event
    by_test true event e = refl
    by_test false event e = cc

    by_case : (b : Bool) → is_some (if b then news_by place before r conn g r.entry.op else None) ≡ true
        → (if b then news_by place before r conn g r.entry.op else None) ≡ Some (told_by place before r g r.entry.op)
    by_case true e =
        news_as place before r conn g r.entry.op
        ∙ by_test (hears before r conn g r.entry.op) (told_by place before r g r.entry.op) (sym (ap is_some (news_as place before r conn g r.entry.op)) ∙ e)
    by_case false e = cc

-- one for each of the two that is there
both_counted : (first : Bool) (verdict : Event) (said : Option Event) → length ((if first then verdict ∷ [] else []) ++ option_to_list said) ≡ from_bool first + from_bool (is_some said)
both_counted true verdict (Some event) = refl
both_counted true verdict None = refl
both_counted false verdict (Some event) = refl
both_counted false verdict None = refl

pub events_counted : (records : List Record) (place : ℕ) (conn : ConnId) (r : Record) → record_at records place ≡ Some r
    → length (events records place conn) ≡ from_bool (is_conn conn (conn_of r.entry)) + from_bool (is_some (news place (records_before records place) r conn r.group))
events_counted records place conn r there =
    ap length (ap (events_by place (records_before records place) conn) there)
    ∙ both_counted (is_conn conn (conn_of r.entry)) (Verdict place r.verdict) (news place (records_before records place) r conn r.group)

-- ---- each of them

-- the verdict, if the connection made the entry, and the news, if there is any
verdict_and_news : (records : List Record) (place : ℕ) (conn : ConnId) (r : Record) → record_at records place ≡ Some r
    → events records place conn ≡ (if is_conn conn (conn_of r.entry) then Verdict place r.verdict ∷ [] else []) ++ option_to_list (news place (records_before records place) r conn r.group)
verdict_and_news records place conn r there = ap (events_by place (records_before records place) conn) there

front_of : (own : Bool) (verdict : Event) (said : Option Event) (i : ℕ) → i < from_bool own → slice_get ((if own then verdict ∷ [] else []) ++ option_to_list said) i ≡ Some verdict
front_of true verdict said zero h = refl
front_of true verdict said (suc i) h = absurd (omega arith)
front_of false verdict said i h = absurd (omega arith)

behind : (own : Bool) (verdict : Event) (said : Option Event) → slice_get ((if own then verdict ∷ [] else []) ++ option_to_list said) (from_bool own) ≡ said
behind true verdict None = refl
behind true verdict (Some event) = refl
behind false verdict None = refl
behind false verdict (Some event) = refl

past_all : (own : Bool) (verdict : Event) (said : Option Event) (i : ℕ) → from_bool own < i → slice_get ((if own then verdict ∷ [] else []) ++ option_to_list said) i ≡ None
past_all true verdict None zero h = absurd (omega arith)
past_all true verdict None (suc i) h = refl
past_all true verdict (Some event) zero h = absurd (omega arith)
past_all true verdict (Some event) (suc zero) h = absurd (omega arith)
past_all true verdict (Some event) (suc (suc i)) h = refl
past_all false verdict None i h = refl
past_all false verdict (Some event) zero h = absurd (omega arith)
past_all false verdict (Some event) (suc i) h = refl

pub verdict_first : (records : List Record) (place : ℕ) (conn : ConnId) (r : Record) (index : ℕ) → record_at records place ≡ Some r
    → index < from_bool (is_conn conn (conn_of r.entry)) → slice_get (events records place conn) index ≡ Some (Verdict place r.verdict)
verdict_first records place conn r index there h =
    ap (λ list. slice_get list index) (verdict_and_news records place conn r there)
    ∙ front_of (is_conn conn (conn_of r.entry)) (Verdict place r.verdict) (news place (records_before records place) r conn r.group) index h

pub news_behind : (records : List Record) (place : ℕ) (conn : ConnId) (r : Record) (index : ℕ) → record_at records place ≡ Some r
    → index ≡ from_bool (is_conn conn (conn_of r.entry)) → slice_get (events records place conn) index ≡ news place (records_before records place) r conn r.group
news_behind records place conn r index there h =
    ap (λ list. slice_get list index) (verdict_and_news records place conn r there)
    ∙ ap (slice_get ((if is_conn conn (conn_of r.entry) then Verdict place r.verdict ∷ [] else []) ++ option_to_list (news place (records_before records place) r conn r.group))) h
    ∙ behind (is_conn conn (conn_of r.entry)) (Verdict place r.verdict) (news place (records_before records place) r conn r.group)

pub none_behind : (records : List Record) (place : ℕ) (conn : ConnId) (r : Record) (index : ℕ) → record_at records place ≡ Some r
    → from_bool (is_conn conn (conn_of r.entry)) < index → slice_get (events records place conn) index ≡ None
none_behind records place conn r index there h =
    ap (λ list. slice_get list index) (verdict_and_news records place conn r there)
    ∙ past_all (is_conn conn (conn_of r.entry)) (Verdict place r.verdict) (news place (records_before records place) r conn r.group) index h

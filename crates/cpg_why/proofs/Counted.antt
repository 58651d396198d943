-- at which place a connection was told its event of a number
use Rattle.std.proofs.Common.{◌≡◌, ℕ, zero, suc, ◌+◌, ◌-◌, ◌<◌, ◌≤◌, inl, inr, Bool, true, false, cond, List, [], ◌∷◌, ◌++◌, length, Option, Some, None, option_map, All, refl, sym, ap, subst, ◌∙◌, append_assoc, length-append, arith}
use Rattle.std.specs.Prelude.{option_to_list, IfSome}
use Rattle.std.specs.List.{flat_map, range_with_len, slice_get}
use Rattle.std.proofs.lemmas.List.Elements.{All-append, All-cons, All-nil}
use Rattle.std.proofs.lemmas.Bool.{cases_lt}
use Rattle.std.proofs.lemmas.Option.{none-some}
use Rattle.cpg_entry.specs.declared.entries.Entry.{Entry}
use Rattle.cpg_record.specs.declared.connections.ConnId.{ConnId}
use Rattle.cpg_record.specs.declared.events.Event.{Event}
use Rattle.cpg_record.specs.declared.events.Event.TheVariants as event
use Rattle.cpg_record.specs.declared.records.Record.{Record}
use Rattle.cpg_record.specs.Connections.{conn_of, is_conn}
use Rattle.cpg_record.specs.Events.{answer, events, events_by, inbox, news, news_by}
use Rattle.cpg_record.specs.Judging.{judged}
use Rattle.cpg_record.specs.Membership.{is_allowed}
use Rattle.cpg_record.specs.Places.{record_at, records_before}
use Rattle.cpg_record.specs.Receiving.{place_of}
use Rattle.cpg_record.proofs.Denials.{each_entry_is_judged}
use Rattle.cpg_record.proofs.Inboxes.{places_tell_at_most_two}
use Rattle.cpg_record.proofs.Told.{news_place}
use Rattle.cpg_why.specs.Findings.{event_place}
use Rattle.cpg_why.specs.declared.asking.Asked.{Asked}
use Rattle.cpg_why.specs.declared.asking.Missing.{Missing}
use Rattle.cpg_why.specs.declared.asking.Missing.TheVariants as missing
use Rattle.cpg_why.specs.Scripts.{events_told, place_asked, IsAskedOf, IsMissing, Stands, StandsIfAsked}
use Rattle.cpg_why.proofs.Pieces.{pieces_more}

-- the place tells of itself alone
abbrev AreOf : ℕ → List Event → Type 0
AreOf place list = All (λ told. place_of told ≡ place) list

single : (place : ℕ) (told : Event) → place_of told ≡ place → AreOf place (told ∷ [])
single place told is = All-cons (λ (x : Event). place_of x ≡ place) told [] is (All-nil (λ (x : Event). place_of x ≡ place))

answer_there : (place : ℕ) (r : Record) (b : Bool) → AreOf place (cond b (event.Verdict place r.verdict ∷ []) [])
answer_there place r true = single place (event.Verdict place r.verdict) refl
answer_there place r false = All-nil (λ (x : Event). place_of x ≡ place)

news_there : (place : ℕ) (before : List Record) (r : Record) (conn : ConnId) (g : Option (List ℕ)) (n : Option Event) → news place before r conn g ≡ n → AreOf place (option_to_list n)
news_there place before r conn g None is = All-nil (λ (x : Event). place_of x ≡ place)
news_there place before r conn None (Some told) is = absurd (none-some told is)
news_there place before r conn (Some g) (Some told) is = by_verdict (is_allowed r.verdict) is
  where
    by_verdict : (b : Bool) → cond b (news_by place before r conn g r.entry.op) None ≡ Some told → AreOf place (told ∷ [])
    by_verdict true h = single place told (sym (news_place place before r conn g r.entry.op told h).0)
    by_verdict false h = absurd (none-some told h)

told_there : (place : ℕ) (before : List Record) (conn : ConnId) (o : Option Record) → AreOf place (events_by place before conn o)
told_there place before conn None = All-nil (λ (x : Event). place_of x ≡ place)
told_there place before conn (Some r) =
    All-append (λ (x : Event). place_of x ≡ place) (answer place r conn) (option_to_list (news place before r conn r.group))
    (answer_there place r (is_conn conn (conn_of r.entry)))
    (news_there place before r conn r.group (news place before r conn r.group) refl)

-- what the first so many places tell
abbrev pub told_upto : List Record → ConnId → ℕ → List Event
told_upto records conn count = flat_map (λ place. events records place conn) (range_with_len 1 count)

-- so many events are told by the first so many places, and the one of that number is none of them
pub record Before (records : List Record) (conn : ConnId) (event count told : ℕ) : Type 0 where
  pub counted : told ≡ length (told_upto records conn count)
  pub few : told ≤ count + count
  pub later : ¬ Stands event told

pub before_first : (records : List Record) (conn : ConnId) (event : ℕ) → Before records conn event 0 0
before_first records conn event = record {
  counted = refl;
  few = omega arith;
  later = λ stands. absurd (omega (arith, stands.0, stands.1));
}

more_told : (records : List Record) (conn : ConnId) (count : ℕ) → told_upto records conn (count + 1) ≡ told_upto records conn count ++ events records (count + 1) conn
more_told records conn count =
    let next : 1 + count ≡ count + 1 = omega arith in
    pieces_more (λ place. events records place conn) 1 count ∙ ap (λ n. told_upto records conn count ++ events records n conn) next

pub before_next : (records : List Record) (conn : ConnId) (event count told here : ℕ) → Before records conn event count told → here ≡ length (events records (count + 1) conn)
    → ¬ Stands event (told + here) → Before records conn event (count + 1) (told + here)
before_next records conn event count told here before counts later =
    let few : length (events records (count + 1) conn) ≤ 2 = (places_tell_at_most_two records conn).0 (count + 1) in
    record {
      counted = omega (arith, before.counted, counts, ap length (more_told records conn count), length-append (told_upto records conn count) (events records (count + 1) conn));
      few = omega (arith, before.few, counts, few);
      later = later;
    }

get_behind : {X : Type 0} (xs ys : List X) (i : ℕ) → slice_get (xs ++ ys) (length xs + i) ≡ slice_get ys i
get_behind [] ys i =
    let here : 0 + i ≡ i = omega arith in
    ap (slice_get ys) here
get_behind (x ∷ xs) ys i =
    let next : length (x ∷ xs) + i ≡ suc (length xs + i) = omega arith in
    ap (slice_get (x ∷ (xs ++ ys))) next ∙ get_behind xs ys i

get_front : {X : Type 0} (xs ys : List X) (i : ℕ) → i < length xs → slice_get (xs ++ ys) i ≡ slice_get xs i
get_front [] ys i h = absurd (omega (arith, h))
get_front (x ∷ xs) ys zero h = refl
get_front (x ∷ xs) ys (suc i) h = get_front xs ys i (omega (arith, h))

-- an event that a place tells is of that place
get_there : (place : ℕ) (list : List Event) (i : ℕ) → AreOf place list → i < length list → option_map place_of (slice_get list i) ≡ Some place
get_there place [] i are h = absurd (omega (arith, h))
get_there place (told ∷ later) zero are h = ap Some (are 0 told (omega arith))
get_there place (told ∷ later) (suc i) are h = get_there place later i (λ k d within. are (suc k) d (omega (arith, within))) (omega (arith, h))

-- the places behind the first so many tell the rest
rest_told : (f : ℕ → List Event) (a m k : ℕ) → (rest : List Event) × (flat_map f (range_with_len a (m + k)) ≡ flat_map f (range_with_len a m) ++ rest)
rest_told f a zero k =
    let none : 0 + k ≡ k = omega arith in
    (flat_map f (range_with_len a k), ap (λ n. flat_map f (range_with_len a n)) none)
rest_told f a (suc m) k =
    let one : suc m + k ≡ suc (m + k) = omega arith in
    let later = rest_told f (a + 1) m k in
    (later.0, ap (λ n. flat_map f (range_with_len a n)) one ∙ ap (λ l. f a ++ l) later.1 ∙ sym (append_assoc (f a) (flat_map f (range_with_len (a + 1) m)) later.0))

-- the event of that number is told by the next place
pub told_by_next : (records : List Record) (conn : ConnId) (event count told here : ℕ) → count < length records → Before records conn event count told
    → here ≡ length (events records (count + 1) conn) → 1 ≤ event → event ≤ told + here
    → event_place records conn event ≡ Some (count + 1)
told_by_next records conn event count told here within before counts low high =
    let past : told < event = outside before.later low in
    let list = events records (count + 1) conn in
    let i = event - 1 - told in
    let at : event - 1 ≡ length (told_upto records conn count) + i = omega (arith, past, before.counted) in
    let inside : i < length list = omega (arith, past, high, counts) in
    let more : length records ≡ count + 1 + (length records - (count + 1)) = omega (arith, within) in
    let rest = rest_told (λ place. events records place conn) 1 (count + 1) (length records - (count + 1)) in
    let all : inbox records conn ≡ told_upto records conn count ++ (list ++ rest.0) =
    ap (λ n. told_upto records conn n) more ∙ rest.1 ∙ ap (λ (l : List Event). l ++ rest.0) (more_told records conn count)
    ∙ append_assoc (told_upto records conn count) list rest.0 in
    ap (λ (l : List Event). option_map place_of (slice_get l (event - 1))) all
    ∙ ap (λ k. option_map place_of (slice_get (told_upto records conn count ++ (list ++ rest.0)) k)) at
    ∙ ap (option_map place_of) (get_behind (told_upto records conn count) (list ++ rest.0) i ∙ get_front list rest.0 i inside)
    ∙ get_there (count + 1) list i (told_there (count + 1) (records_before records (count + 1)) conn (record_at records (count + 1))) inside
  where
    outside : ¬ Stands event told → 1 ≤ event → told < event
    outside later low = elim (cases_lt told event) [ inl past ↦ past | inr stands ↦ absurd (later (low, stands)) ]

-- where all places are past, no event has that number
pub none_told : (entries : List Entry) (conn : ConnId) (event count told : ℕ) → count ≡ length entries → Before (judged entries) conn event count told
    → (told ≡ events_told entries conn) × (¬ Stands event told)
none_told entries conn event count told all before =
    let each : count ≡ length (judged entries) = omega (arith, all, (each_entry_is_judged entries).0) in
    (before.counted ∙ ap (λ n. length (told_upto (judged entries) conn n)) each, before.later)

-- where the next place tells it, it is one of those that are told
pub stands_told : (records : List Record) (conn : ConnId) (event count told here : ℕ) → count < length records → Before records conn event count told
    → here ≡ length (events records (count + 1) conn) → Stands event (told + here) → Stands event (length (inbox records conn))
stands_told records conn event count told here within before counts stands =
    let more : length records ≡ count + 1 + (length records - (count + 1)) = omega (arith, within) in
    let rest = rest_told (λ place. events records place conn) 1 (count + 1) (length records - (count + 1)) in
    let first : length (told_upto records conn (count + 1)) ≡ told + here =
    omega (arith, before.counted, counts, ap length (more_told records conn count), length-append (told_upto records conn count) (events records (count + 1) conn)) in
    let all : length (inbox records conn) ≡ length (told_upto records conn (count + 1)) + length rest.0 =
    ap length (ap (λ n. told_upto records conn n) more ∙ rest.1) ∙ length-append (told_upto records conn (count + 1)) rest.0 in
    (stands.0, omega (arith, stands.1, first, all))

-- what is missing was asked of
pub asked_of : (entries : List Entry) (asked : Asked) (what : Missing) → IsMissing entries asked what → IsAskedOf asked what
asked_of entries asked (missing.Entry place count) is = is.0
asked_of entries asked (missing.Event conn event count) is = is.0
asked_of entries asked (missing.Connection conn count) is = is.0
asked_of entries asked (missing.Process pid count) is = is.0

-- no place is asked of
pub nowhere_asked : (asked : Asked) (count : ℕ) → place_asked asked ≡ None → StandsIfAsked asked count
nowhere_asked asked count is = subst (λ (o : Option ℕ). IfSome o (λ place. Stands place count)) (sym is) tt

-- an entry stands at the place that is asked of
pub there_asked : (asked : Asked) (place count : ℕ) → place_asked asked ≡ Some place → Stands place count → StandsIfAsked asked count
there_asked asked place count is stands = subst (λ (o : Option ℕ). IfSome o (λ place. Stands place count)) (sym is) stands

-- An inbox, place by place: it only grows, and it holds what its places tell.
use Rattle.std.proofs.Common.{◌≡◌, ℕ, zero, suc, ◌+◌, ◌-◌, ◌<◌, ◌≤◌, ◌⊎◌, inl, inr, true, false, cond, List, [], ◌∷◌, ◌++◌, length, take, drop, Option, Some, None, refl, sym, ap, ◌∙◌, subst, arith, length-append}
use Rattle.std.specs.Prelude.{Contains, option_to_list}
use Rattle.std.specs.List.{flat_map, range_with_len, slice_get}
use Rattle.std.proofs.lemmas.Bool.{cases_lt}
use Rattle.std.proofs.lemmas.List.{take-append-le, take-append-drop, take_at}
use Rattle.std.proofs.lemmas.List.Elements.{Contains-append_left, Contains-append_right, Contains-append_cases}
use Rattle.std.proofs.lemmas.Grind.{flat_map-append}
use Rattle.std.proofs.lemmas.Option.{slice_get_within, none-some}
use Rattle.cpg_record.specs.declared.connections.ConnId.{ConnId}
use Rattle.cpg_record.specs.declared.events.Event.{Event}
use Rattle.cpg_record.specs.declared.events.Event.TheVariants as event
use Rattle.cpg_record.specs.declared.records.Record.{Record}
use Rattle.cpg_record.specs.Connections.{conn_of, is_conn}
use Rattle.cpg_record.specs.Events.{answer, events, events_by, inbox, news}
use Rattle.cpg_record.specs.Places.{record_at, records_before}
use Rattle.cpg_record.specs.Receiving.{BeginsAs, InboxesOnlyGrow, PlacesTellAtMostTwo}

-- ---- numbers from a on

pub range_split : (a m k : ℕ) → range_with_len a (m + k) ≡ range_with_len a m ++ range_with_len (a + m) k
range_split a zero k =
    let none : 0 + k ≡ k = omega arith in
    let here : a + 0 ≡ a = omega arith in
    rw (none, here) refl
range_split a (suc m) k =
    let one : suc m + k ≡ suc (m + k) = omega arith in
    let next : a + 1 + m ≡ a + suc m = omega arith in
    rw one (ap (λ l. a ∷ l) (range_split (a + 1) m k ∙ ap (λ b. range_with_len (a + 1) m ++ range_with_len b k) next))

-- what holds of two functions at each number holds of what they give together
pub flat_same : (f g : ℕ → List Event) (a n : ℕ) → ((p : ℕ) → a ≤ p → p < a + n → f p ≡ g p) → flat_map f (range_with_len a n) ≡ flat_map g (range_with_len a n)
flat_same f g a zero h = refl
flat_same f g a (suc n) h =
    ap (λ l. l ++ flat_map f (range_with_len (a + 1) n)) (h a (omega arith) (omega arith))
    ∙ ap (λ l. g a ++ l) (flat_same f g (a + 1) n (λ p low high. h p (omega arith) (omega arith)))

-- ---- growing

pub slice_get_front : {X : Type 0} (xs ys : List X) (i : ℕ) → i < length xs → slice_get (xs ++ ys) i ≡ slice_get xs i
slice_get_front [] ys i h = absurd (omega arith)
slice_get_front (x ∷ xs) ys zero h = refl
slice_get_front (x ∷ xs) ys (suc i) h = slice_get_front xs ys i (omega arith)

pub record_at_front : (rs more : List Record) (p : ℕ) → p < 1 + length rs → record_at (rs ++ more) p ≡ record_at rs p
record_at_front rs more zero h = refl
record_at_front rs more (suc i) h = slice_get_front rs more i (omega arith)

pub events_front : (rs more : List Record) (conn : ConnId) (p : ℕ) → 1 ≤ p → p < 1 + length rs → events (rs ++ more) p conn ≡ events rs p conn
events_front rs more conn p low high =
    ap (λ o. events_by p (take (p - 1) (rs ++ more)) conn o) (record_at_front rs more p high)
    ∙ ap (λ before. events_by p before conn (record_at rs p)) (take-append-le (p - 1) rs more (omega arith))

-- where more records come, the rest of an inbox is what their places tell
pub inbox_grows : (rs more : List Record) (conn : ConnId) → (rest : List Event) × (inbox (rs ++ more) conn ≡ inbox rs conn ++ rest)
inbox_grows rs more conn =
    let told : ℕ → List Event = λ p. events (rs ++ more) p conn in (
      flat_map told (range_with_len (1 + length rs) (length more)),
      ap (λ n. flat_map told (range_with_len 1 n)) (length-append rs more)
          ∙ ap (flat_map told) (range_split 1 (length rs) (length more))
          ∙ flat_map-append told (range_with_len 1 (length rs)) (range_with_len (1 + length rs) (length more))
          ∙ ap (λ l. l ++ flat_map told (range_with_len (1 + length rs) (length more))) (flat_same told (λ p. events rs p conn) 1 (length rs) (events_front rs more conn)),
    )

begins_as : (first rest all : List Event) → all ≡ first ++ rest → BeginsAs first all
begins_as first rest all is = record {
  front = ap (take (length first)) is ∙ take_at first rest (length first) refl;
  items = λ k told at. ap (λ events. slice_get events k) is ∙ slice_get_front first rest k (slice_get_within first k told at) ∙ at;
}

pub inboxes_only_grow : InboxesOnlyGrow
inboxes_only_grow rs n conn =
    let grown = inbox_grows (take n rs) (drop n rs) conn in
    begins_as (inbox (take n rs) conn) grown.0 (inbox rs conn) (ap (λ all. inbox all conn) (sym (take-append-drop n rs)) ∙ grown.1)

-- ---- what a place tells

few_answers : (place : ℕ) (r : Record) (conn : ConnId) → length (answer place r conn) ≤ 1
few_answers place r conn = elim (is_conn conn (conn_of r.entry)) as (λ b. length (cond b (event.Verdict place r.verdict ∷ []) []) ≤ 1) [ true ↦ omega arith | false ↦ omega arith ]

few_news : (o : Option Event) → length (option_to_list o) ≤ 1
few_news None = omega arith
few_news (Some told) = omega arith

few_events : (place : ℕ) (before : List Record) (conn : ConnId) (o : Option Record) → length (events_by place before conn o) ≤ 2
few_events place before conn None = omega arith
few_events place before conn (Some r) =
    omega (arith, length-append (answer place r conn) (option_to_list (news place before r conn r.group)), few_answers place r conn, few_news (news place before r conn r.group))

pub places_tell_at_most_two : PlacesTellAtMostTwo
places_tell_at_most_two rs conn = ((λ place. few_events place (records_before rs place) conn (record_at rs place)), refl)

-- ---- what an inbox holds

pub nothing : {X : Type 0} (x : X) → Contains [] x → ⊥
nothing x (k, below, is) = absurd (omega arith)

pub in_single : {X : Type 0} (y x : X) → Contains (y ∷ []) x → y ≡ x
in_single y x (zero, below, is) = is
in_single y x (suc k, below, is) = absurd (omega arith)

pub single_in : {X : Type 0} (y x : X) → y ≡ x → Contains (y ∷ []) x
single_in y x is = (0, omega arith, is)

in_range : (f : ℕ → List Event) (a n : ℕ) (told : Event) → Contains (flat_map f (range_with_len a n)) told → (p : ℕ) × (a ≤ p) × (p < a + n) × Contains (f p) told
in_range f a zero told has = absurd (nothing told has)
in_range f a (suc n) told has = by_case (Contains-append_cases (f a) (flat_map f (range_with_len (a + 1) n)) told has) (in_range f (a + 1) n told)
  where
    by_case : Contains (f a) told ⊎ Contains (flat_map f (range_with_len (a + 1) n)) told →
        (Contains (flat_map f (range_with_len (a + 1) n)) told → (p : ℕ) × (a + 1 ≤ p) × (p < a + 1 + n) × Contains (f p) told) →
        (p : ℕ) × (a ≤ p) × (p < a + suc n) × Contains (f p) told
    by_case (inl here) later = (a, omega arith, omega arith, here)
    by_case (inr there) later = let l = later there in (l.0, omega arith, omega arith, l.3)

range_in : (f : ℕ → List Event) (a n : ℕ) (told : Event) (p : ℕ) → a ≤ p → p < a + n → Contains (f p) told → Contains (flat_map f (range_with_len a n)) told
range_in f a zero told p low high has = absurd (omega arith)
range_in f a (suc n) told p low high has = by_case (cases_lt a p) (range_in f (a + 1) n told p)
  where
    by_case : (a < p) ⊎ (p ≤ a) → (a + 1 ≤ p → p < a + 1 + n → Contains (f p) told → Contains (flat_map f (range_with_len (a + 1) n)) told) →
        Contains (f a ++ flat_map f (range_with_len (a + 1) n)) told
    by_case (inl above) later = Contains-append_right (f a) (flat_map f (range_with_len (a + 1) n)) told (later (omega arith) (omega arith) has)
    by_case (inr below) later =
        let same : p ≡ a = omega arith in
        Contains-append_left (f a) (flat_map f (range_with_len (a + 1) n)) told (subst (λ (q : ℕ). Contains (f q) told) same has)

-- a record that tells the event at its place
pub record ToldAt (rs : List Record) (conn : ConnId) (told : Event) : Type 0 where
  pub place : ℕ
  pub r : Record
  pub stands : record_at rs place ≡ Some r
  pub tells : Contains (answer place r conn ++ option_to_list (news place (records_before rs place) r conn r.group)) told

pub told_from_inbox : (rs : List Record) (conn : ConnId) (told : Event) → Contains (inbox rs conn) told → ToldAt rs conn told
told_from_inbox rs conn told has =
    let at = in_range (λ p. events rs p conn) 1 (length rs) told has in
    by_record at.0 (record_at rs at.0) refl at.3
  where
    by_record : (p : ℕ) (o : Option Record) → record_at rs p ≡ o → Contains (events_by p (records_before rs p) conn o) told → ToldAt rs conn told
    by_record p None is tells = absurd (nothing told tells)
    by_record p (Some r) is tells = record { place = p; r = r; stands = is; tells = tells }

-- a place with a record is one of theirs
pub place_within : (rs : List Record) (p : ℕ) (r : Record) → record_at rs p ≡ Some r → (1 ≤ p) × (p ≤ length rs)
place_within rs zero r is = absurd (none-some r is)
place_within rs (suc i) r is =
    let below = slice_get_within rs i r is in
    (omega arith, omega arith)

pub inbox_from_told : (rs : List Record) (conn : ConnId) (place : ℕ) (r : Record) (told : Event) → record_at rs place ≡ Some r →
    Contains (answer place r conn ++ option_to_list (news place (records_before rs place) r conn r.group)) told → Contains (inbox rs conn) told
inbox_from_told rs conn place r told stands tells =
    let within = place_within rs place r stands in
    range_in (λ p. events rs p conn) 1 (length rs) told place within.0 (omega arith)
    (subst (λ (o : Option Record). Contains (events_by place (records_before rs place) conn o) told) (sym stands) tells)

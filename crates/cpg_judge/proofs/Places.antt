-- the lines of places, one stretch after the other
use Rattle.std.proofs.Common.{◌≡◌, ℕ, ◌-◌, ◌<◌, ◌≤◌, suc, List, [], ◌∷◌, ◌++◌, length, map, Option, Some, None, sym, ap, ◌∙◌, zero, Bool, true, false, cond, take, arith}
use Rattle.std.specs.List.{range_with_len, slice_get}
use Rattle.std.proofs.lemmas.List.{length-take}
use Rattle.std.proofs.lemmas.Option.{slice_get_within}
use Rattle.cpg_record.specs.declared.connections.ConnId.{ConnId}
use Rattle.cpg_record.specs.declared.records.Record.{Record}
use Rattle.cpg_record.specs.Events.{events, inbox}
use Rattle.cpg_record.specs.Nexts.{is_made_by}
use Rattle.cpg_record.specs.Places.{places_from, places_of, record_at, IsNextOf}
use Rattle.cpg_group.proofs.Counted.{next_by_count, one_more_by_count}
use Rattle.cpg_text.proofs.Lined.{map-flat_map}
use Rattle.cpg_print.specs.Events.{event_line}
use Rattle.cpg_judge.specs.Texts.{lines_at, lines_between, MakesNone}
use Rattle.cpg_judge.proofs.Ranges.{made_by_last, made_from_first, made_parted}

-- the lines between two places, parted at one amid
pub between_parted : (rs : List Record) (conn : ConnId) (after amid last : ℕ) → after ≤ amid → amid ≤ last
    → lines_between rs conn after last ≡ lines_between rs conn after amid ++ lines_between rs conn amid last
between_parted rs conn = made_parted (lines_at rs conn)

-- the lines up to a place, and those of the place
pub one_place_more : (rs : List Record) (conn : ConnId) (after place : ℕ) → after < place
    → lines_between rs conn after place ≡ lines_between rs conn after (place - 1) ++ lines_at rs conn place
one_place_more rs conn = made_by_last (lines_at rs conn)

-- the lines of all places are those of the inbox
pub inbox_by_place : (rs : List Record) (conn : ConnId) → map event_line (inbox rs conn) ≡ lines_between rs conn 0 (length rs)
inbox_by_place rs conn =
    map-flat_map event_line (λ place. events rs place conn) (range_with_len 1 (length rs)) ∙ made_from_first (lines_at rs conn) (length rs)

-- the next own place is one of the places, and between there is none
pub record OwnNext (rs : List Record) (conn : ConnId) (after place : ℕ) : Type 0 where
  pub above : after < place
  pub within : place ≤ length rs
  pub none_between : MakesNone rs conn after (place - 1)

at_most : (rs : List Record) (place : ℕ) (r : Record) → record_at rs place ≡ Some r → place ≤ length rs
at_most rs zero r is = omega arith
at_most rs (suc n) r is = omega (arith, slice_get_within rs n r is)

pub own_next : (rs : List Record) (conn : ConnId) (after place : ℕ) → IsNextOf (is_made_by conn) rs after (Some place) → OwnNext rs conn after place
own_next rs conn after place next = record {
  above = next.0;
  within = at_most rs place next.1.0 next.1.1;
  none_between = λ earlier r above below is. next.2 earlier r above (omega (arith, below, next.0, above)) is;
}

-- up to a place there are at most as many places
places_within : (q : Record → Bool) (m : ℕ) (rs : List Record) → length (places_from q m rs) ≤ length rs
places_within q m [] = omega arith
places_within q m (r ∷ rs) = by_case (q r) (places_within q (suc m) rs)
  where
    by_case : (b : Bool) → length (places_from q (suc m) rs) ≤ length rs → length (cond b (m ∷ places_from q (suc m) rs) (places_from q (suc m) rs)) ≤ suc (length rs)
    by_case true few = omega (arith, few)
    by_case false few = omega (arith, few)

places_few : (q : Record → Bool) (rs : List Record) (last : ℕ) → length (places_of q (take last rs)) ≤ last
places_few q rs last = omega (arith, places_within q 1 (take last rs), length-take last rs)

-- where so many own places come up to one, what stands after as many is the next
next_is : (rs : List Record) (conn : ConnId) (after : ℕ) {count : ℕ} {own : Option ℕ} → count ≡ length (places_of (is_made_by conn) (take after rs))
    → own ≡ slice_get (places_of (is_made_by conn) rs) count → slice_get (places_of (is_made_by conn) rs) (length (places_of (is_made_by conn) (take after rs))) ≡ own
next_is rs conn after {count} {own} counted is = ap (slice_get (places_of (is_made_by conn) rs)) (sym counted) ∙ sym is

-- that next own place, and how many come up to it
pub record NextCounted (rs : List Record) (conn : ConnId) (after count place : ℕ) : Type 0 where
  pub is_next : IsNextOf (is_made_by conn) rs after (Some place)
  pub own : OwnNext rs conn after place
  pub one_more : length (places_of (is_made_by conn) (take place rs)) ≡ suc count
  pub few : suc count ≤ place

pub next_counted : (rs : List Record) (conn : ConnId) (after : ℕ) {count place : ℕ} → count ≡ length (places_of (is_made_by conn) (take after rs))
    → Some place ≡ slice_get (places_of (is_made_by conn) rs) count → NextCounted rs conn after count place
next_counted rs conn after {count} {place} counted is =
    let there = next_is rs conn after counted is in
    let next : IsNextOf (is_made_by conn) rs after (Some place) = next_by_count (is_made_by conn) rs after (Some place) there in
    let more : length (places_of (is_made_by conn) (take place rs)) ≡ suc count = omega (arith, counted, one_more_by_count (is_made_by conn) rs after place there) in
    record {
      is_next = next;
      own = own_next rs conn after place next;
      one_more = more;
      few = omega (arith, more, places_few (is_made_by conn) rs place);
    }

-- where none stands there, the connection makes no entry any more
pub none_counted : (rs : List Record) (conn : ConnId) (after : ℕ) {count : ℕ} → count ≡ length (places_of (is_made_by conn) (take after rs))
    → None ≡ slice_get (places_of (is_made_by conn) rs) count → MakesNone rs conn after (length rs)
none_counted rs conn after counted is =
    let none : IsNextOf (is_made_by conn) rs after None = next_by_count (is_made_by conn) rs after None (next_is rs conn after counted is) in
    λ place r above within at. none place r above at

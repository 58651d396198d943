-- What the delivered entries and the slots keep, read as a map of places.
use Rattle.std.proofs.Common.{◌≡◌, ◌≢◌, ℕ, zero, suc, ◌+◌, ◌%◌, ◌<◌, ◌≤◌, if◌then◌else◌, nat_lt, List, [], ◌∷◌, ◌++◌, length, length-append, length-set, get_or, set, take, drop, slice_get, Option, Some, None, refl, sym, ap, ◌∙◌, subst, ⊎_elim, arith}
use Rattle.std.proofs.lemmas.Bool.{cases_eq, cases_lt, lt-ltb, le-ltb}
use Rattle.std.proofs.lemmas.List.{get_or-set_same, get_or-set_other}
use Rattle.std.proofs.lemmas.Option.{none-some}
use Rattle.std.proofs.Math.Seq.{take-append_seam}
use Rattle.std.specs.Cmp.{nat_cmp_total}
use Rattle.std.specs.Ordering.{nat_cmp}
use Rattle.std.specs.FinMap.{get, insert, empty, get-empty, same_map, nat_cmp-IsAntisymmetric}
use Rattle.cpg_entry.specs.declared.ranges.TheConstants.{MOST_PLACES}
use Rattle.cpg_ring.specs.States.{Entry, HeldPlaces}
use Rattle.cpg_ring.specs.Worlds.{item}
use Rattle.cpg_ring.specs.Laws.{AllHeld, NoneAbove}
use Rattle.cpg_ring.specs.Kept.{in_slot, kept_at, hold_some, held_by, held_map, IsKept}
use Rattle.cpg_ring.proofs.Lists.{item_there, item_front, get_end}
use Rattle.cpg_ring.proofs.Holding.{put_same, put_other}

-- a delivered place stands at its number
kept_done : (done : List Entry) (slots : List (Option Entry)) (q : ℕ) → 1 ≤ q → q ≤ length done → kept_at done slots q ≡ item done q
kept_done done slots zero low high = absurd (omega arith)
kept_done done slots (suc i) low high = ap (λ b. if b then slice_get done i else if nat_lt i (length done + 64) then in_slot slots (suc i) else None) (lt-ltb i (length done) (omega arith))

-- a place of the window is in its slot
kept_slot : (done : List Entry) (slots : List (Option Entry)) (q : ℕ) → length done < q → q ≤ length done + 64 → kept_at done slots q ≡ in_slot slots q
kept_slot done slots zero low high = absurd (omega arith)
kept_slot done slots (suc i) low high =
    ap (λ b. if b then slice_get done i else if nat_lt i (length done + 64) then in_slot slots (suc i) else None) (le-ltb i (length done) (omega arith))
    ∙ ap (λ b. if b then in_slot slots (suc i) else None) (lt-ltb i (length done + 64) (omega arith))

-- nothing is kept above the window
kept_past : (done : List Entry) (slots : List (Option Entry)) (q : ℕ) → length done + 64 < q → kept_at done slots q ≡ None
kept_past done slots zero low = refl
kept_past done slots (suc i) low =
    ap (λ b. if b then slice_get done i else if nat_lt i (length done + 64) then in_slot slots (suc i) else None) (le-ltb i (length done) (omega arith))
    ∙ ap (λ b. if b then in_slot slots (suc i) else None) (le-ltb i (length done + 64) (omega arith))

some_other : (m : HeldPlaces) (k : ℕ) (o : Option Entry) (q : ℕ) → q ≢ k → get (hold_some m k o) q ≡ get m q
some_other m k None q h = refl
some_other m k (Some e) q h = put_other m k e q h

some_same : (m : HeldPlaces) (k : ℕ) (o : Option Entry) → get m k ≡ None → get (hold_some m k o) k ≡ o
some_same m k None none = none
some_same m k (Some e) none = put_same m k e

held_zero : (f : ℕ → Option Entry) (n : ℕ) → get (held_by f n) 0 ≡ None
unfolding held_by
held_zero f zero = get-empty nat_cmp 0
held_zero f (suc n) = some_other (held_by f n) (suc n) (f (suc n)) 0 (λ same. omega arith) ∙ held_zero f n

held_above : (f : ℕ → Option Entry) (n q : ℕ) → n < q → get (held_by f n) q ≡ None
unfolding held_by
held_above f zero q h = get-empty nat_cmp q
held_above f (suc n) q h = some_other (held_by f n) (suc n) (f (suc n)) q (λ same. omega arith) ∙ held_above f n q (omega arith)

held_below : (f : ℕ → Option Entry) (n q : ℕ) → 1 ≤ q → q ≤ n → get (held_by f n) q ≡ f q
unfolding held_by
held_below f zero q low high = absurd (omega arith)
held_below f (suc n) q low high = ⊎_elim
    (λ (same : q ≡ suc n). subst (λ k. get (hold_some (held_by f n) (suc n) (f (suc n))) k ≡ f k) (sym same) (some_same (held_by f n) (suc n) (f (suc n)) (held_above f n (suc n) (omega arith))))
    (λ (apart : q ≢ suc n). some_other (held_by f n) (suc n) (f (suc n)) q apart ∙ held_below f n q low (omega arith))
    (cases_eq q (suc n))

-- the map has at each place what is kept for it
pub held_at : (done : List Entry) (slots : List (Option Entry)) (q : ℕ) → get (held_map done slots) q ≡ kept_at done slots q
unfolding held_map
held_at done slots zero = held_zero (kept_at done slots) (length done + 64)
held_at done slots (suc i) = ⊎_elim
    (λ (past : length done + 64 < suc i). held_above (kept_at done slots) (length done + 64) (suc i) past ∙ sym (kept_past done slots (suc i) past))
    (λ (within : suc i ≤ length done + 64). held_below (kept_at done slots) (length done + 64) (suc i) (omega arith) within)
    (cases_lt (length done + 64) (suc i))

-- all delivered places are held
pub all_done : (done : List Entry) (slots : List (Option Entry)) → AllHeld (held_map done slots) (length done)
all_done done slots place low high =
    let there = item_there done place low high in
    (there.0, held_at done slots place ∙ (kept_done done slots place low high ∙ there.1))

-- and none above the window
pub none_past : (done : List Entry) (slots : List (Option Entry)) → NoneAbove (held_map done slots) (length done + 64)
none_past done slots place d = ⊎_elim
    (λ (past : length done + 64 < place). absurd (none-some d.0 (sym (kept_past done slots place past) ∙ (sym (held_at done slots place) ∙ d.1))))
    (λ (within : place ≤ length done + 64). within)
    (cases_lt (length done + 64) place)

-- maps of what is kept alike are the same
same_kept : (done new : List Entry) (slots slots' : List (Option Entry)) → ((q : ℕ) → kept_at new slots' q ≡ kept_at done slots q) → held_map new slots' ≡ held_map done slots
same_kept done new slots slots' h = same_map nat_cmp_total nat_cmp-IsAntisymmetric (held_map new slots') (held_map done slots) (λ q. held_at new slots' q ∙ (h q ∙ sym (held_at done slots q)))

-- slots of other places of the window are others
other_slot : (d place q : ℕ) → d < place → place ≤ d + 64 → d < q → q ≤ d + 64 → q ≢ place → q % 64 ≢ place % 64
other_slot d place q a b c e apart = λ same. apart (omega arith)

-- where a slot of the window is set, the other places are kept as before
kept_other : (done : List Entry) (slots : List (Option Entry)) (place q : ℕ) (o : Option Entry) → length done < place → place ≤ length done + 64 → q ≢ place → kept_at done (set slots (place % 64) o) q ≡ kept_at done slots q
kept_other done slots place zero o low high apart = refl
kept_other done slots place (suc i) o low high apart = ⊎_elim
    (λ (past : length done + 64 < suc i). kept_past done (set slots (place % 64) o) (suc i) past ∙ sym (kept_past done slots (suc i) past))
    (λ (within : suc i ≤ length done + 64). ⊎_elim
    (λ (above : length done < suc i). kept_slot done (set slots (place % 64) o) (suc i) above within
    ∙ (get_or-set_other slots (place % 64) (suc i % 64) o None (other_slot (length done) place (suc i) low high above within apart)
    ∙ sym (kept_slot done slots (suc i) above within)))
    (λ (under : suc i ≤ length done). kept_done done (set slots (place % 64) o) (suc i) (omega arith) under ∙ sym (kept_done done slots (suc i) (omega arith) under))
    (cases_lt (length done) (suc i)))
    (cases_lt (length done + 64) (suc i))

kept_set : (done : List Entry) (slots : List (Option Entry)) (place : ℕ) (o : Option Entry) → length slots ≡ 64 → length done < place → place ≤ length done + 64 → kept_at done (set slots (place % 64) o) place ≡ o
kept_set done slots place o count low high = kept_slot done (set slots (place % 64) o) place low high ∙ get_or-set_same slots (place % 64) o None (omega arith)

-- a filled slot is one place more that is held
pub filled_is : (done : List Entry) (slots : List (Option Entry)) (place : ℕ) (e : Entry) → length slots ≡ 64 → length done < place → place ≤ length done + 64 → held_map done (set slots (place % 64) (Some e)) ≡ insert (held_map done slots) place e
filled_is done slots place e count low high = same_map nat_cmp_total nat_cmp-IsAntisymmetric (held_map done new) (insert (held_map done slots) place e) (λ q. ⊎_elim
    (λ (same : q ≡ place). subst (λ k. get (held_map done new) k ≡ get (insert (held_map done slots) place e) k) (sym same) (held_at done new place ∙ (kept_set done slots place (Some e) count low high ∙ sym (put_same (held_map done slots) place e))))
    (λ (apart : q ≢ place). held_at done new q ∙ (kept_other done slots place q (Some e) low high apart ∙ (sym (held_at done slots q) ∙ sym (put_other (held_map done slots) place e q apart))))
    (cases_eq q place))
  where
    new : List (Option Entry)
    new = set slots (place % 64) (Some e)

-- and what is true of what is kept stays so
pub filled_kept : (done : List Entry) (most : ℕ) (slots : List (Option Entry)) (place : ℕ) (e : Entry) → IsKept done most slots → length done < place → place ≤ length done + 64 → place ≤ 1048576 → place ≤ most → IsKept done most (set slots (place % 64) (Some e))
filled_kept done most slots place e h low high limit room = record {
  count = length-set slots (place % 64) (Some e) ∙ h.count;
  counted = h.counted;
  within = λ q x is. ⊎_elim
      (λ (same : q ≡ place). (omega arith, omega arith))
      (λ (apart : q ≢ place). h.within q x (sym (kept_other done slots place q (Some e) low high apart) ∙ is))
      (cases_eq q place);
}

-- the next place goes over from its slot to the delivered ones
module _ (done : List Entry) (slots : List (Option Entry)) (e : Entry) (count : length slots ≡ 64) (is : in_slot slots (suc (length done)) ≡ Some e) where
  abbrev more : List Entry
  more = done ++ e ∷ []

  abbrev left : List (Option Entry)
  left = set slots (suc (length done) % 64) None

  longer : length more ≡ suc (length done)
  longer = let l = length-append done (e ∷ []) in omega arith

  kept_on : (q : ℕ) → kept_at more left q ≡ kept_at done slots q
  kept_on zero = refl
  kept_on (suc i) = ⊎_elim
      (λ (above : length done < suc i). ⊎_elim
      (λ (same : i ≡ length done). here same)
      (λ (apart : i ≢ length done). beyond (omega arith))
      (cases_eq i (length done)))
      (λ (under : suc i ≤ length done). kept_done more left (suc i) (omega arith) (let l = longer in omega arith) ∙ (front under ∙ sym (kept_done done slots (suc i) (omega arith) under)))
      (cases_lt (length done) (suc i))
    where
      front : suc i ≤ length done → item more (suc i) ≡ item done (suc i)
      front under = let there = item_there done (suc i) (omega arith) under in item_front done (e ∷ []) (suc i) there.0 there.1 ∙ sym there.1

      here : i ≡ length done → kept_at more left (suc i) ≡ kept_at done slots (suc i)
      here same =
          kept_done more left (suc i) (omega arith) (let l = longer in omega arith)
          ∙ (ap (slice_get more) same ∙ (get_end done e []
          ∙ (sym is ∙ (ap (λ k. in_slot slots (suc k)) (sym same) ∙ sym (kept_slot done slots (suc i) (omega arith) (omega arith))))))

      beyond : suc (length done) < suc i → kept_at more left (suc i) ≡ kept_at done slots (suc i)
      beyond above = ⊎_elim
          (λ (past : length done + 64 < suc i). gone past)
          (λ (within : suc i ≤ length done + 64). kept_slot more left (suc i) (let l = longer in omega arith) (let l = longer in omega arith)
          ∙ (get_or-set_other slots (suc (length done) % 64) (suc i % 64) None None (other_slot (length done) (suc (length done)) (suc i) (omega arith) (omega arith) (omega arith) within (λ same. omega arith))
          ∙ sym (kept_slot done slots (suc i) (omega arith) within)))
          (cases_lt (length done + 64) (suc i))
        where
          gone : length done + 64 < suc i → kept_at more left (suc i) ≡ kept_at done slots (suc i)
          gone past = ⊎_elim
              (λ (same : i ≡ length done + 64). kept_slot more left (suc i) (let l = longer in omega arith) (let l = longer in omega arith)
              ∙ (ap (λ k. get_or left k None) (mod_same same)
              ∙ (get_or-set_same slots (suc (length done) % 64) None None (omega arith) ∙ sym (kept_past done slots (suc i) past))))
              (λ (apart : i ≢ length done + 64). kept_past more left (suc i) (let l = longer in omega arith) ∙ sym (kept_past done slots (suc i) past))
              (cases_eq i (length done + 64))
            where
              mod_same : i ≡ length done + 64 → suc i % 64 ≡ suc (length done) % 64
              mod_same same = omega arith

  pub moved_is : held_map more left ≡ held_map done slots
  moved_is = same_kept done more slots left kept_on

  pub moved_kept : (most : ℕ) → IsKept done most slots → IsKept more most left
  moved_kept most h = record {
    count = length-set slots (suc (length done) % 64) None ∙ h.count;
    counted = let w = (h.within (suc (length done)) e (kept_slot done slots (suc (length done)) (omega arith) (omega arith) ∙ is)).0 in let l = longer in omega arith;
    within = λ q x there. h.within q x (sym (kept_on q) ∙ there);
  }

-- there is room for the next place
pub next_room : (done : List Entry) (most : ℕ) (slots : List (Option Entry)) → IsKept done most slots → (e : Entry) → in_slot slots (suc (length done)) ≡ Some e → (length done < MOST_PLACES) × (length done < most)
next_room done most slots h e is =
    let within = h.within (suc (length done)) e (kept_slot done slots (suc (length done)) (omega arith) (omega arith) ∙ is) in
    let place = within.0 in
    let room = within.1 in
    (omega arith, omega arith)

-- there is room for each place yet where there is no less
pub roomier_kept : (done : List Entry) (most more : ℕ) (slots : List (Option Entry)) → most ≤ more → IsKept done most slots → IsKept done more slots
roomier_kept done most more slots no_less h = record {
  count = h.count;
  counted = h.counted;
  within = λ place e is. let within = h.within place e is in let room = within.1 in (within.0, omega arith);
}

-- the next place is in its slot
pub next_slot : (done : List Entry) (slots : List (Option Entry)) → get (held_map done slots) (suc (length done)) ≡ in_slot slots (suc (length done))
next_slot done slots = held_at done slots (suc (length done)) ∙ kept_slot done slots (suc (length done)) (omega arith) (omega arith)

-- empty slots hold nothing
pub none_kept : (slots : List (Option Entry)) → ((i : ℕ) → get_or slots i None ≡ None) → (q : ℕ) → kept_at [] slots q ≡ None
none_kept slots h zero = refl
none_kept slots h (suc i) = ⊎_elim
    (λ (past : 64 < suc i). kept_past [] slots (suc i) past)
    (λ (within : suc i ≤ 64). kept_slot [] slots (suc i) (omega arith) within ∙ h (suc i % 64))
    (cases_lt 64 (suc i))

pub new_is : (slots : List (Option Entry)) → ((i : ℕ) → get_or slots i None ≡ None) → held_map [] slots ≡ empty
new_is slots h = same_map nat_cmp_total nat_cmp-IsAntisymmetric (held_map [] slots) empty (λ q. held_at [] slots q ∙ (none_kept slots h q ∙ sym (get-empty nat_cmp q)))

pub new_kept : (slots : List (Option Entry)) (most : ℕ) → length slots ≡ 64 → ((i : ℕ) → get_or slots i None ≡ None) → IsKept [] most slots
new_kept slots most count h = record {
  count = count;
  counted = omega arith;
  within = λ q x is. absurd (none-some x (sym (none_kept slots h q) ∙ is));
}

-- one empty slot more
pub empty_push : (slots : List (Option Entry)) → ((i : ℕ) → get_or slots i None ≡ None) → (i : ℕ) → get_or (slots ++ None ∷ []) i None ≡ None
empty_push [] h zero = refl
empty_push [] h (suc i) = refl
empty_push (x ∷ slots) h zero = h 0
empty_push (x ∷ slots) h (suc i) = empty_push slots (λ k. h (suc k)) i

-- what is written over a whole list
pub written : (old new : List (Option Entry)) (n : ℕ) → n ≡ length new → take n (new ++ drop (length new) old) ≡ new
written old new n is = ap (λ k. take k (new ++ drop (length new) old)) is ∙ take-append_seam new (drop (length new) old)

-- Seeking from a cursor on, and that cursors stay right while more is judged.
use Rattle.std.proofs.Common.{get_or, ◌≡◌, ℕ, Bool, true, false, zero, suc, ◌+◌, ◌-◌, ◌<◌, ◌≤◌, List, [], ◌∷◌, ◌++◌, length, None, Result, Ok, Err, OnErr, refl, sym, ap, ◌∙◌, subst, arith, All, length-append}
use Rattle.std.specs.Prelude.{OnOk, IsSome, if◌then◌else◌}
use Rattle.std.specs.List.{slice_get}
use Rattle.std.proofs.lemmas.List.Sums.{fold-append}
use Rattle.std.proofs.lemmas.Option.{slice_get_past}
use Rattle.cpg_entry.specs.declared.entries.Entry.{Entry}
use Rattle.cpg_record.specs.declared.connections.ConnId.{ConnId}
use Rattle.cpg_record.specs.declared.events.Event.{Event}
use Rattle.cpg_record.specs.declared.records.Record.{Record}
use Rattle.cpg_record.specs.Events.{events}
use Rattle.cpg_record.specs.Judging.{judged, most_places, record_of, with_judgement}
use Rattle.cpg_record.proofs.Denials.{each_entry_is_judged}
use Rattle.cpg_record.specs.Events.{inbox}
use Rattle.cpg_record.specs.Nexts.{IsNextTold, TellsNoMore}
use Rattle.cpg_record.proofs.Inboxes.{events_front, flat_same, places_tell_at_most_two}
use Rattle.cpg_node.specs.Cursors.{IsCursor, told_up_to}
use Rattle.cpg_group.specs.declared.nexts.Hint.{Hint}
use Rattle.cpg_node.specs.declared.cursors.Cursor.{Cursor}
use Rattle.cpg_node.proofs.Telling.{counted_before, quiet_to, told_at, told_count}

-- what places tell stays told while more is judged
told_on : (rs more : List Record) (conn : ConnId) (n : ℕ) → n ≤ length rs → told_up_to (rs ++ more) conn n ≡ told_up_to rs conn n
told_on rs more conn n within =
    flat_same (λ p. events (rs ++ more) p conn) (λ p. events rs p conn) 1 n (λ p low high. events_front rs more conn p low (omega arith))

cursor_on : (rs more : List Record) (cursor : Cursor) → IsCursor rs cursor → IsCursor (rs ++ more) cursor
cursor_on rs more cursor right = record {
  within = let l = length-append rs more in let w = right.within in omega (arith, l, w);
  counted = right.counted ∙ ap length (sym (told_on rs more cursor.conn cursor.place right.within));
  few = right.few;
}

-- so do all cursors, where one entry more is judged
pub cursors_on : (entries more : List Entry) (e : Entry) (cursors : List Cursor) → more ≡ entries ++ e ∷ [] → All (IsCursor (judged entries)) cursors → All (IsCursor (judged more)) cursors
cursors_on entries more e cursors is right = λ k d within.
    subst (λ (rs : List Record). IsCursor rs (get_or cursors k d)) (sym (ap judged is ∙ fold-append with_judgement [] entries (e ∷ [])))
    (cursor_on (judged entries) (record_of (judged entries) e ∷ []) (get_or cursors k d) (right k d within))

-- what an entry that is taken in, or refused, leaves of the cursors, and of how many entries there are
pub taken_in : {E : Type 0} (old new : List Entry) (e : Entry) (cursors : List Cursor) (result : Result Unit E) → length old < most_places
    → (length old ≤ most_places) × All (IsCursor (judged old)) cursors → OnOk result (new ≡ old ++ e ∷ []) → OnErr result (new ≡ old)
    → (length new ≤ most_places) × All (IsCursor (judged new)) cursors
taken_in old new e cursors (Ok u) room kept ok err =
    let sum = ap length ok ∙ length-append old (e ∷ []) in
    (omega (arith, sum, room), cursors_on old new e cursors ok kept.1)
taken_in old new e cursors (Err why) room kept ok err = subst (λ (es : List Entry). (length es ≤ most_places) × All (IsCursor (judged es)) cursors) (sym err) kept

-- a cursor before all places is right
pub cursor_starts : (rs : List Record) (cursor : Cursor) → cursor.place ≡ 0 → cursor.told ≡ 0 → IsCursor rs cursor
cursor_starts rs cursor start none =
    record {
      within = omega (arith, start);
      counted = none ∙ sym (ap (λ (place : ℕ). length (told_up_to rs cursor.conn place)) start);
      few = omega (arith, start, none);
    }

-- ---- seeking

-- the next place that tells anything was judged
pub next_within : (entries : List Entry) (after : ℕ) (conn : ConnId) (place : ℕ) → IsNextTold (judged entries) after conn place → (1 ≤ place) × (place ≤ length entries)
next_within entries after conn place next =
    let above = next.above in
    let within = next.within in
    (omega (arith, above), omega (arith, within, (each_entry_is_judged entries).0))

-- so many events are told before it
counted_to : (rs : List Record) (cursor : Cursor) (place : ℕ) → IsCursor rs cursor → IsNextTold rs cursor.place cursor.conn place → cursor.told ≡ length (told_up_to rs cursor.conn (place - 1))
counted_to rs cursor place right next = counted_before (λ p. events rs p cursor.conn) cursor.place place cursor.told next.above next.none_between right.counted

-- its events, by the place before it
events_after : (rs : List Record) (conn : ConnId) (place : ℕ) (list : List Event) → 1 ≤ place → list ≡ events rs place conn → list ≡ events rs (place - 1 + 1) conn
events_after rs conn place list low is =
    let back : place ≡ place - 1 + 1 = omega (arith, low) in
    is ∙ ap (λ p. events rs p conn) back

-- the item of that index is one of its events
pub item_at : (entries : List Entry) (cursor : Cursor) (place index : ℕ) → IsCursor (judged entries) cursor → IsNextTold (judged entries) cursor.place cursor.conn place
    → cursor.told ≤ index → index - cursor.told < length (events (judged entries) place cursor.conn)
    → slice_get (events (judged entries) place cursor.conn) (index - cursor.told) ≡ slice_get (inbox (judged entries) cursor.conn) index
item_at entries cursor place index right next before within =
    let low = (next_within entries cursor.place cursor.conn place next).0 in
    let below = next.within in
    let list = events (judged entries) place cursor.conn in
    told_at (judged entries) cursor.conn (length (judged entries)) (place - 1) cursor.told index list (omega (arith, low, below)) refl
    (counted_to (judged entries) cursor place right next) before (events_after (judged entries) cursor.conn place list low refl) within

-- what holds whatever is answered
pub whatever : {X E P : Type 0} (answer : Result X E) → P → OnErr answer P
whatever (Ok x) p = tt
whatever (Err e) p = p

-- an item within the list is there
pub item_there : {X : Type 0} (xs : List X) (i : ℕ) → i < length xs → IsSome (slice_get xs i)
item_there [] i within = absurd (omega (arith, within))
item_there (x ∷ xs) zero within = refl
item_there (x ∷ xs) (suc i) within = item_there xs i (omega (arith, within))

-- a place tells at most two events
pub few_at : (rs : List Record) (conn : ConnId) (place : ℕ) (list : List Event) → list ≡ events rs place conn → length list ≤ 2
few_at rs conn place list is = subst (λ (l : List Event). length l ≤ 2) (sym is) ((places_tell_at_most_two rs conn).0 place)

-- the cursor past it
pub cursor_past : (entries : List Entry) (cursor : Cursor) (place : ℕ) (hint : Hint) (list : List Event) → IsCursor (judged entries) cursor → IsNextTold (judged entries) cursor.place cursor.conn place
    → list ≡ events (judged entries) place cursor.conn → IsCursor (judged entries) (record { conn = cursor.conn; place = place; told = cursor.told + length list; hint = hint })
cursor_past entries cursor place hint list right next is =
    let low = (next_within entries cursor.place cursor.conn place next).0 in
    let back : place - 1 + 1 ≡ place = omega (arith, low) in
    let few = few_at (judged entries) cursor.conn place list is in
    let before = right.few in
    let above = next.above in
    record {
      within = next.within;
      counted = told_count (judged entries) cursor.conn (place - 1) cursor.told list (counted_to (judged entries) cursor place right next) (events_after (judged entries) cursor.conn place list low is)
          ∙ ap (λ p. length (told_up_to (judged entries) cursor.conn p)) back;
      few = omega (arith, few, before, above);
    }

-- where no place tells more, there is no item past those that were told
pub none_left : (rs : List Record) (cursor : Cursor) (index : ℕ) → IsCursor rs cursor → TellsNoMore rs cursor.place cursor.conn → cursor.told ≤ index → None ≡ slice_get (inbox rs cursor.conn) index
none_left rs cursor index right no_more before =
    let same : told_up_to rs cursor.conn (length rs) ≡ told_up_to rs cursor.conn cursor.place =
    quiet_to (λ p. events rs p cursor.conn) cursor.place (length rs) right.within (λ p above within. no_more p above) in
    let all : length (inbox rs cursor.conn) ≡ cursor.told = ap length same ∙ sym right.counted in
    sym (slice_get_past (inbox rs cursor.conn) index (omega (arith, all, before)))

-- a cursor that goes past a place once its last event was told, else stays, is right
pub cursor_behind : (rs : List Record) (last : Bool) (cursor past : Cursor) → IsCursor rs cursor → IsCursor rs past → IsCursor rs (if last then past else cursor)
cursor_behind rs true cursor past right further = further
cursor_behind rs false cursor past right further = right

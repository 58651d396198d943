-- What was recorded, is so of the history for good.
use Rattle.std.proofs.Common.{◌≡◌, ⊎_elim, ℕ, suc, ◌+◌, Bool, true, false, true≢false, List, [], ◌∷◌, ◌++◌, ◌%◌, ◌^◌, length, Option, Some, None, IfSome, refl, sym, ap, ◌∙◌, subst, length-append, arith}
use Rattle.std.proofs.lemmas.List.{append-nil, map-append}
use Rattle.std.proofs.lemmas.Option.{none-some}
use mathlib.Core.List.{IsPrefix}
use Rattle.cpg_cred.specs.declared.refusals.Refusal.{Refusal}
use Rattle.cpg_ring.specs.States.{Frame}
use Rattle.cpg_node.specs.Nodes.{NodeValue}
use Rattle.cpg_world_laws.specs.declared.events.WorldEvent.{WorldEvent}
use Rattle.cpg_world_laws.specs.Worlds.{WorldValue, unless, moves, node_in, runs}
use Rattle.cpg_board.specs.declared.words.View.{View}
use Rattle.cpg_history.specs.declared.traces.Recorded.{Recorded}
use Rattle.cpg_board.specs.Words.{Rests}
use Rattle.cpg_history.specs.Histories.{Came}
use Rattle.cpg_history.specs.Members.{HasTrace, IsAt, IsPenOf, before_last}
use Rattle.cpg_history.specs.Traces.{TraceValue, WasAdded, HasNumber, IsWritten, WasRecorded, AreRecorded, IsTraceOf, NotesOf, NotesAfter, Notes, new_trace, recorded_of, recorded_stamps, stamps_of}
use Rattle.cpg_history.proofs.Runs.{prefix_self}
use Rattle.cpg_history.proofs.Coming.{world_after}
use Rattle.cpg_history.proofs.Sending.{last_off}
use Rattle.cpg_history.proofs.Resting.{prefix_then, stamps_next, stamps_rest}

-- what came is seen from then on
came_on : {k : Bool} (v : View) (e : WorldEvent) (stamp : ℕ) (seen : List WorldEvent) → Came k v e stamp seen → IsPrefix v.seen seen
came_on v e stamp seen c = prefix_then v.seen c.log seen c.before (e ∷ [], sym c.after)

module _ (start : WorldValue) (xs ys : List WorldEvent) (on : IsPrefix xs ys) where
  pub number_on : (stamp index number : ℕ) → HasNumber start xs stamp index number → HasNumber start ys stamp index number
  number_on stamp index number n = record { log = n.log; stamped = n.stamped; before = prefix_then n.log xs ys n.before on; count = n.count }

  recorded_on : (r : Recorded) → WasRecorded start xs r → WasRecorded start ys r
  recorded_on r w = record {
    event = w.event;
    added = record { log = w.added.log; stamped = w.added.stamped; here = prefix_then (w.added.log ++ w.event ∷ []) xs ys w.added.here on; count = w.added.count };
    written = w.written;
  }

  pub all_on : (rs : List Recorded) → AreRecorded start xs rs → AreRecorded start ys rs
  all_on [] all = tt
  all_on (r ∷ rs) all = (recorded_on r all.0, all_on rs all.1)

one_more : (start : WorldValue) (seen : List WorldEvent) (rs : List Recorded) (r : Recorded) → AreRecorded start seen rs → WasRecorded start seen r → AreRecorded start seen (rs ++ r ∷ [])
one_more start seen [] r all one = (one, tt)
one_more start seen (x ∷ rs) r all one = (all.0, one_more start seen rs r all.1 one)

-- a node's trace after a note of an event that came to it
module _ {k : Bool} (start : WorldValue) (v : View) (e : WorldEvent) (stamp n : ℕ) (seen : List WorldEvent) (own : node_in e ≡ n) (c : Came k v e stamp seen) (old : TraceValue) (counts : old.lost ≡ None → k ≡ true) (was : IsTraceOf start n v.seen old) where
  on : IsPrefix v.seen seen
  on = came_on v e stamp seen c

  stamps : stamps_of n 0 seen ≡ stamps_of n 0 v.seen ++ length c.log % 2 ^ 64 ∷ []
  stamps = ap (stamps_of n 0) c.after ∙ stamps_next n v.seen c.log e (subst (λ m. Rests m v.seen c.log) own c.rests) own

  longer : IsPrefix (recorded_stamps old) (stamps_of n 0 seen)
  longer = prefix_then (recorded_stamps old) (stamps_of n 0 v.seen) (stamps_of n 0 seen) was.first (length c.log % 2 ^ 64 ∷ [], sym stamps)

  -- where the event is not recorded
  lost : (at : ℕ) → IsTraceOf start n seen (record { entries = old.entries; lost = Some at })
  lost at = record { recorded = all_on start v.seen seen on old.entries was.recorded; first = longer; whole = λ none. absurd (none-some at (sym none)) }

  stays : (at : ℕ) → old.lost ≡ Some at → IsTraceOf start n seen old
  stays at is = record { recorded = all_on start v.seen seen on old.entries was.recorded; first = longer; whole = λ none. absurd (none-some at (sym none ∙ is)) }

  -- where it is
  behind : (r : Recorded) → r.stamp ≡ stamp → WasRecorded start seen r → old.lost ≡ None → IsTraceOf start n seen (record { entries = old.entries ++ r ∷ []; lost = None })
  behind r at one none =
      let same : recorded_stamps (record { entries = old.entries ++ r ∷ []; lost = None }) ≡ stamps_of n 0 seen =
      map-append (λ (x : Recorded). x.stamp) old.entries (r ∷ []) ∙ (ap (λ l. l ++ r.stamp ∷ []) (was.whole none) ∙ (ap (λ m. stamps_of n 0 v.seen ++ m ∷ []) (at ∙ c.stamped (counts none)) ∙ sym stamps)) in
      record {
        recorded = one_more start seen old.entries r (all_on start v.seen seen on old.entries was.recorded) one;
        first = ([], append-nil (recorded_stamps (record { entries = old.entries ++ r ∷ []; lost = None })) ∙ same);
        whole = λ _. same;
      }

  pub noted : (sent source : ℕ) (event : Option WorldEvent) (new : TraceValue) → (k ≡ true → IfSome event (λ written. WasRecorded start seen (recorded_of stamp sent source written))) → Notes old stamp sent source event new → IsTraceOf start n seen new
  noted sent source event new one notes = by_lost old.lost refl notes
    where
      by_event : (o : Option WorldEvent) → IfSome o (λ written. WasRecorded start seen (recorded_of stamp sent source written)) → old.lost ≡ None → NotesOf old stamp sent source o new → IsTraceOf start n seen new
      by_event None one none is = subst (IsTraceOf start n seen) (sym is) (lost stamp)
      by_event (Some written) one none is =
          ⊎_elim
          (λ here. subst (IsTraceOf start n seen) (sym here) (behind (recorded_of stamp sent source written) refl one none))
          (λ gone. subst (IsTraceOf start n seen) (sym gone) (lost stamp)) is

      by_lost : (o : Option ℕ) → old.lost ≡ o → NotesAfter o old stamp sent source event new → IsTraceOf start n seen new
      by_lost None none is = by_event event (one (counts none)) none is
      by_lost (Some at) gone is = subst (IsTraceOf start n seen) (sym is) (stays at gone)

-- what still records has recorded before
records_before : (old : TraceValue) (stamp sent source : ℕ) (event : Option WorldEvent) (new : TraceValue) → Notes old stamp sent source event new → new.lost ≡ None → old.lost ≡ None
records_before old stamp sent source event new notes records = by_lost old.lost refl notes
  where
    by_lost : (o : Option ℕ) → old.lost ≡ o → NotesAfter o old stamp sent source event new → old.lost ≡ None
    by_lost None none is = none
    by_lost (Some at) gone is = ap (λ (t : TraceValue). t.lost) (sym is) ∙ records

-- the same of a member that is no spare
pub has_noted : {k : Bool} (start : WorldValue) (v : View) (e event : WorldEvent) (stamp id : ℕ) (spare : Bool) (seen : List WorldEvent) (old new : TraceValue) (sent source : ℕ) (o : Option WorldEvent) → HasTrace k start id spare v.seen old → spare ≡ false → e ≡ event → node_in event ≡ id → Came k v e stamp seen → (k ≡ true → IfSome o (λ written. WasRecorded start seen (recorded_of stamp sent source written))) → Notes old stamp sent source o new → HasTrace k start id spare seen new
has_noted start v e event stamp id spare seen old new sent source o has not is own c one notes = record {
  spared = λ yes. absurd (true≢false (sym yes ∙ not));
  counts = λ none. has.counts (records_before old stamp sent source o new notes none);
  follows = noted start v e stamp id seen (ap node_in is ∙ own) c old has.counts has.follows sent source o new one notes;
}

-- what was recorded of a node at which nothing happened since
pub trace_rests : (start : WorldValue) (n : ℕ) (xs ys : List WorldEvent) (t : TraceValue) → Rests n xs ys → IsTraceOf start n xs t → IsTraceOf start n ys t
trace_rests start n xs ys t r was =
    let same = stamps_rest n xs ys r in
    record {
      recorded = all_on start xs ys (r.0, r.1) t.entries was.recorded;
      first = subst (IsPrefix (recorded_stamps t)) (sym same) was.first;
      whole = λ none. was.whole none ∙ sym same;
    }

-- nothing was recorded yet
pub trace_begins : (start : WorldValue) (n : ℕ) (traced : Bool) → IsTraceOf start n [] (new_trace traced)
trace_begins start n true = record { recorded = tt; first = ([], refl); whole = λ _. refl }
trace_begins start n false = record { recorded = tt; first = ([], refl); whole = λ _. refl }

-- what records nothing
pub trace_nothing : (start : WorldValue) (n : ℕ) (seen : List WorldEvent) → IsTraceOf start n seen (new_trace false)
trace_nothing start n seen = record { recorded = tt; first = (stamps_of n 0 seen, refl); whole = λ none. absurd (none-some 0 (sym none)) }

-- an event that came, and was counted, has been added
module _ {k : Bool} (counted : k ≡ true) (start : WorldValue) (v : View) (e : WorldEvent) (stamp : ℕ) (x : NodeValue) (seen : List WorldEvent) (c : Came k v e stamp seen) (at : IsAt start v.seen (node_in e) x) where
  abbrev added : (sent : ℕ) → length (moves (runs start c.log).sent e x).1 ≡ sent → WasAdded start seen stamp sent e
  added sent is = record {
    log = c.log;
    stamped = c.stamped counted;
    here = subst (IsPrefix (c.log ++ e ∷ [])) (sym c.after) (prefix_self (c.log ++ e ∷ []));
    count = ap (λ l. length (runs start l).sent) (sym c.after) ∙ (ap (λ (w : WorldValue). length w.sent) (world_after start v e stamp x seen c at) ∙ (length-append (runs start c.log).sent (moves (runs start c.log).sent e x).1 ∙ ap (λ n. length (runs start c.log).sent + n) is));
  }

  pub recorded : (sent source : ℕ) (written : WorldEvent) → length (moves (runs start c.log).sent e x).1 ≡ sent → IsWritten start c.log source written e → WasRecorded start seen (recorded_of stamp sent source written)
  recorded sent source written is same = record { event = e; added = added sent is; written = same }

  -- the first of the frames that it sent
  pub first_number : HasNumber start seen stamp 0 (suc (length (runs start (before_last seen)).sent))
  first_number =
      let before : before_last seen ≡ c.log = ap (λ l. before_last l) c.after ∙ last_off c.log e in
      record { log = c.log; stamped = c.stamped counted; before = (e ∷ [], sym c.after); count = ap (λ l. suc (length (runs start l).sent)) before ∙ on_right (suc (length (runs start c.log).sent)) }
    where
      on_right : (k : ℕ) → k ≡ k + 0
      on_right k = omega arith

-- what is refused or not, and sends nothing
pub unless_quiet : (why : Option Refusal) (x y : NodeValue) → length (unless why x (y, [])).1 ≡ 0
unless_quiet None x y = refl
unless_quiet (Some why) x y = refl

-- an event at a pen's own node that sends nothing
module _ {k : Bool} (counted : k ≡ true) (start : WorldValue) (v : View) (e event : WorldEvent) (stamp id : ℕ) (x : NodeValue) (seen : List WorldEvent) (is : e ≡ event) (for_node : node_in event ≡ id) (p : IsPenOf start v id x) (came : Came k v e stamp seen) where
  pub recorded_quiet : ((frames : List Frame) → length (moves frames event x).1 ≡ 0) → ((log : List WorldEvent) → IsWritten start log stamp event event) → WasRecorded start seen (recorded_of stamp 0 stamp event)
  recorded_quiet quiet same =
      let c : Came k v event stamp seen = subst (λ (e : WorldEvent). Came k v e stamp seen) is came in
      let at : IsAt start v.seen (node_in event) x = subst (λ n. IsAt start v.seen n x) (sym for_node) p.2 in
      recorded counted start v event stamp x seen c at 0 stamp event (quiet (runs start c.log).sent) (same c.log)

-- the event, if it is there, is that one
pub if_recorded : (start : WorldValue) (seen : List WorldEvent) (stamp sent source : ℕ) (o : Option WorldEvent) (e : WorldEvent) → IfSome o (λ event. event ≡ e) → WasRecorded start seen (recorded_of stamp sent source e) → IfSome o (λ event. WasRecorded start seen (recorded_of stamp sent source event))
if_recorded start seen stamp sent source None e is one = tt
if_recorded start seen stamp sent source (Some event) e is one = subst (λ (w : WorldEvent). WasRecorded start seen (recorded_of stamp sent source w)) (sym is) one

-- the frame of that index, of those of which the first has the number
pub number_of_index : (start : WorldValue) (seen : List WorldEvent) (stamp index number : ℕ) → HasNumber start seen stamp 0 number → HasNumber start seen stamp index (number + index)
number_of_index start seen stamp index number n = record { log = n.log; stamped = n.stamped; before = n.before; count = let is = n.count in omega (arith, is) }

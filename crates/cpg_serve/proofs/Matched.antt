-- Each verdict answers the call that it is on.
use Rattle.std.proofs.Common.{◌≡◌, ◌+◌, ℕ, suc, List, [], ◌++◌, map, length, take, sym, ap, subst, ◌∙◌, length-append, arith}
use Rattle.std.specs.List.{flat_map}
use Rattle.std.proofs.lemmas.Grind.{flat_map-append}
use Rattle.std.proofs.lemmas.List.{map-append}
use Rattle.std.proofs.lemmas.List.Elements.{filter-append}
use Rattle.cpg_entry.specs.declared.entries.Entry.{Entry}
use Rattle.cpg_record.specs.declared.events.Event.{Event}
use Rattle.cpg_record.specs.Events.{inbox}
use Rattle.cpg_record.specs.declared.records.Record.{Record}
use Rattle.cpg_record.specs.declared.verdicts.Verdict.{Verdict}
use Rattle.std.proofs.lemmas.Option.{same_Some}
use Rattle.cpg_node.specs.Nodes.{conn_id, inbox_of, records_of}
use Rattle.cpg_node.specs.Calls.{connected}
use Rattle.cpg_ask.specs.Asks.{Ask}
use Rattle.cpg_ask.proofs.Mapped.{length_mapped}
use Rattle.cpg_serve.specs.declared.desks.Owed.{Owed}
use Rattle.cpg_serve.specs.Telling.{DeskValue, new_desk}
use Rattle.cpg_serve.specs.Answering.{asker_of}
use Rattle.cpg_serve.specs.Asking.{at_of, call_of, owed_to}
use Rattle.cpg_serve.specs.Coming.{left_of, rest_of}
use Rattle.cpg_serve.specs.Serving.{ServedValue}
use Rattle.cpg_serve.specs.Stories.{Note, ask_in, event_in, owed_in, Before, StoryAt}
use Rattle.cpg_serve.specs.Verdicts.{own_records}
use Rattle.cpg_serve.proofs.Running.{get_last, has_come}
use Rattle.cpg_serve.specs.Orders.{conn_at, admitted_of, AreInOrder, VerdictsInOrder}
use Rattle.cpg_serve.specs.Meeting.{verdicts, is_taken, calls_among, made_in, Counts, AreCounts, IsEven, AnswersInOrder, EvenBegins, HonestInAWorld}
use Rattle.cpg_serve.proofs.Counting.{mades, told, verdicts_append, made_asks, answered_first}

told_append : (one more : List Note) → told (one ++ more) ≡ told one + told more
told_append one more = ap verdicts (flat_map-append event_in one more) ∙ verdicts_append (flat_map event_in one) (flat_map event_in more)

calls_both : (one more : List Ask) → calls_among (one ++ more) ≡ calls_among one ++ calls_among more
calls_both one more = filter-append (λ (ask : Ask). is_taken (call_of ask.want)) one more

-- the calls that notes made, in earlier rings and in this one, are those among their asks
pub all_made : (before : Before) (b : Counts) (conn : ℕ) (asks : List Ask) (written : List ℕ) (x : ServedValue) (k : StoryAt before conn asks written x) → AreCounts b before conn x.node
    → mades (before.notes ++ k.story.notes) ≡ map owed_to (calls_among (flat_map ask_in (before.notes ++ k.story.notes)))
all_made before b conn asks written x k counts =
    let notes : List Note = k.story.notes in
    let now : mades notes ≡ map owed_to (calls_among (flat_map ask_in notes)) = made_asks k.desk.greeting (asker_of x.node conn) (records_of x.node) notes k.story.now.each in
    flat_map-append made_in before.notes notes ∙ ap (λ (l : List Owed). l ++ mades notes) counts.calls ∙ ap (λ (l : List Owed). map owed_to (calls_among (flat_map ask_in before.notes)) ++ l) now
    ∙ sym (map-append owed_to (calls_among (flat_map ask_in before.notes)) (calls_among (flat_map ask_in notes)))
    ∙ ap (map owed_to) (sym (calls_both (flat_map ask_in before.notes) (flat_map ask_in notes)))
    ∙ ap (λ (l : List Ask). map owed_to (calls_among l)) (sym (flat_map-append ask_in before.notes notes))

-- so many calls are owed a verdict as have none, by notes
pub even_notes : (before : Before) (b : Counts) (conn : ℕ) (asks : List Ask) (written : List ℕ) (x : ServedValue) (k : StoryAt before conn asks written x) → AreCounts b before conn x.node → IsEven b conn asks x
    → length k.desk.owed + told (before.notes ++ k.story.notes) ≡ length (calls_among asks)
even_notes before b conn asks written x k counts h =
    let notes : List Note = k.story.notes in
    let front : List Event = inbox (take before.places (records_of x.node)) (conn_id x.node conn) in
    let left : List Event = left_of conn (at_of x.node k.desk) in
    let same : h.0 ≡ k.desk = same_Some h.0 k.desk (sym h.1 ∙ k.there) in
    let even : length k.desk.owed + verdicts (inbox_of x.node conn) + b.answered ≡ length (calls_among asks) + b.begun + verdicts left =
    subst (λ (d : DeskValue). length d.owed + verdicts (inbox_of x.node conn) + b.answered ≡ length (calls_among asks) + b.begun + verdicts (left_of conn (at_of x.node d))) same h.2 in
    let events : verdicts (inbox_of x.node conn) ≡ verdicts front + (told notes + verdicts left) =
    sym (ap verdicts k.story.now.events) ∙ verdicts_append front (flat_map event_in notes ++ left) ∙ ap (λ n. verdicts front + n) (verdicts_append (flat_map event_in notes) left) in
    omega (arith, even, events, counts.answered, counts.begun, told_append before.notes notes)

pub answers_in_order : AnswersInOrder
answers_in_order before b conn asks written x k counts h =
    let all : List Note = before.notes ++ k.story.notes in
    let owed : length (owed_in [] all) ≡ length k.desk.owed = ap (λ (l : List Owed). length l) k.story.owed in
    let made : mades all ≡ map owed_to (calls_among asks) = all_made before b conn asks written x k counts ∙ ap (λ (l : List Ask). map owed_to (calls_among l)) k.story.asked in
    let count : length (mades all) ≡ length (calls_among asks) = ap (λ (l : List Owed). length l) made ∙ length_mapped owed_to (calls_among asks) in
    answered_first [] all (omega (arith, even_notes before b conn asks written x k counts h, owed, count)) ∙ ap (take (told all)) made

pub even_begins : EvenBegins
even_begins pid cred x as_many =
    let conn : ℕ = suc (length x.desks) in
    let left : left_of conn (at_of (connected x.node pid cred) (new_desk x.greeting)) ≡ inbox_of (connected x.node pid cred) conn = ap (rest_of (connected x.node pid cred) conn) (has_come pid cred x as_many) in
    (new_desk x.greeting, get_last x.desks (new_desk x.greeting), omega (arith, ap verdicts left))

module _ (in_order : VerdictsInOrder) where
  pub honest_in_a_world : HonestInAWorld
  honest_in_a_world w events answers settings reached replies conn asks x at few =
      let n : ℕ = x.node.ring.node in
      let order : AreInOrder (admitted_of w events n conn) (records_of x.node) (conn_at n conn) = in_order w events answers settings reached replies n conn x.node at in
      let own : List Record = own_records (records_of x.node) (conn_at n conn) in
      let judged : verdicts (inbox_of x.node conn) ≡ length own = ap (λ (l : List Verdict). length l) order.verdicts ∙ length_mapped (λ (r : Record). r.verdict) own in
      let placed : length (admitted_of w events n conn) ≡ length own + length order.waiting =
      ap (λ (l : List Entry). length l) order.entries ∙ length-append (map (λ (r : Record). r.entry) own) order.waiting ∙ ap (λ (k : ℕ). k + length order.waiting) (length_mapped (λ (r : Record). r.entry) own) in
      omega (arith, judged, placed, few)

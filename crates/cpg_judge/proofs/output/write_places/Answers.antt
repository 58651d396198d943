use Rattle.std.proofs.Common.{◌≡◌, ◌≤◌, ◌++◌, ℕ, List, Some, length, map, take, ap, refl, sym, subst, ◌∙◌, arith}
use Rattle.std.specs.List.{slice_get}
use Rattle.cpg_record.specs.Events as events
use Rattle.cpg_record.specs.Judging.{judged}
use Rattle.cpg_record.specs.Nexts.{is_made_by}
use Rattle.cpg_record.specs.Places.{places_of}
use Rattle.cpg_print.specs.Events.{event_line}
use Rattle.cpg_judge.specs.Inboxes.{InboxValue}
use Rattle.cpg_judge.specs.Texts.{lines_between, MakesNone}
use Rattle.cpg_judge.proofs.Behind.{gathers_none, gathers_stop, gathers_then}
use Rattle.cpg_judge.proofs.Heard.{past_is}
use Rattle.cpg_judge.proofs.Places.{between_parted, inbox_by_place, next_counted, none_counted, NextCounted}
use Rattle.cpg_judge.proofs.output.write_places.Goals as goal

-- the inbox, parted at a place
parted_at : (inbox : InboxValue) (after last : ℕ) → after ≤ length (judged inbox.entries) → last ≡ length (judged inbox.entries) →
    map event_line (events.inbox (judged inbox.entries) inbox.conn) ≡ lines_between (judged inbox.entries) inbox.conn 0 after ++ lines_between (judged inbox.entries) inbox.conn after last
parted_at inbox after last within is =
    inbox_by_place (judged inbox.entries) inbox.conn ∙ between_parted (judged inbox.entries) inbox.conn 0 after (length (judged inbox.entries)) (omega arith) within
    ∙ ap (λ n. lines_between (judged inbox.entries) inbox.conn 0 after ++ lines_between (judged inbox.entries) inbox.conn after n) (sym is)

-- the own place that stands after so many
next_own : (inbox : InboxValue) (after : ℕ) {count place : ℕ} → count ≡ length (places_of (is_made_by inbox.conn) (take after (judged inbox.entries)))
    → Some place ≡ slice_get (places_of (is_made_by inbox.conn) (judged inbox.entries)) count → NextCounted (judged inbox.entries) inbox.conn after count place
next_own inbox = next_counted (judged inbox.entries) inbox.conn

pub returns-in-Err : goal.returns-in-Err
returns-in-Err g c =
    let rs = judged c.args.inbox.now.entries in
    let conn = c.args.inbox.now.conn in
    let next = next_own c.args.inbox.now c.loop-place.after c.loop-place.invariant.counted c.in-Some.ensures in
    let front = lines_between rs conn 0 c.loop-place.after in
    let some = lines_between rs conn c.loop-place.after c.in-Some.place in
    let rest = lines_between rs conn c.in-Some.place (length rs) in
    rw (inbox_by_place rs conn
    ∙ between_parted rs conn 0 c.in-Some.place (length rs) (omega arith) next.own.within
    ∙ ap (λ (l : List (List ℕ)). l ++ rest) (between_parted rs conn 0 c.loop-place.after c.in-Some.place (omega arith) (omega (arith, next.own.above))))
    (gathers_stop _ _ _ _ _ (front ++ some) rest (gathers_then _ _ _ _ _ _ _ front some c.loop-place.invariant.gathered c.in-Err.ensures))

pub loop-place-preserved : goal.loop-place-preserved
loop-place-preserved g c =
    let rs = judged c.args.inbox.now.entries in
    let conn = c.args.inbox.now.conn in
    let next = next_own c.args.inbox.now c.loop-place.after c.loop-place.invariant.counted c.in-Some.ensures in
    let more = between_parted rs conn 0 c.loop-place.after c.in-Some.place (omega arith) (omega (arith, next.own.above)) in
    record {
      counted = omega (arith, next.one_more);
      within = next.own.within;
      told = c.told_after-told.ensures;
      gathered = rw more (gathers_then _ _ _ _ _ _ _ (lines_between rs conn 0 c.loop-place.after) (lines_between rs conn c.loop-place.after c.in-Some.place) c.loop-place.invariant.gathered c.in-Ok.ensures);
    }

pub write_upto-requires-clause-text : goal.write_upto-requires-clause-text
write_upto-requires-clause-text g c =
    let next = next_own c.args.inbox.now c.loop-place.after c.loop-place.invariant.counted c.in-Some.ensures in
    c.pass-before.ensures.text (judged c.args.inbox.now.entries) c.args.inbox.now.conn c.loop-place.after c.loop-place.invariant.told (omega (arith, next.own.above)) (omega (arith, next.own.within)) next.own.none_between

pub told_after-told-requires-clause-before : goal.told_after-told-requires-clause-before
told_after-told-requires-clause-before g c =
    let own = (next_own c.args.inbox.now c.loop-place.after c.loop-place.invariant.counted c.in-Some.ensures).own in
    c.pass-before.ensures.told (judged c.args.inbox.now.entries) c.loop-place.after (past_is (judged c.args.inbox.now.entries) c.args.inbox.now.conn c.loop-place.after c.loop-place.told c.loop-place.invariant.told) (omega (arith, own.above)) (omega (arith, own.within))

pub told_after-told-requires-clause-count : goal.told_after-told-requires-clause-count
told_after-told-requires-clause-count g c = omega (arith, (next_own c.args.inbox.now c.loop-place.after c.loop-place.invariant.counted c.in-Some.ensures).one_more)

pub told_after-told-requires-clause-place : goal.told_after-told-requires-clause-place
told_after-told-requires-clause-place g c = (next_own c.args.inbox.now c.loop-place.after c.loop-place.invariant.counted c.in-Some.ensures).own.within

pub own_line-line-requires-clause-before : goal.own_line-line-requires-clause-before
own_line-line-requires-clause-before g c =
    let own = (next_own c.args.inbox.now c.loop-place.after c.loop-place.invariant.counted c.in-Some.ensures).own in
    c.pass-before.ensures.told (judged c.args.inbox.now.entries) c.loop-place.after (past_is (judged c.args.inbox.now.entries) c.args.inbox.now.conn c.loop-place.after c.loop-place.told c.loop-place.invariant.told) (omega (arith, own.above)) (omega (arith, own.within))

pub own_line-line-requires-clause-after : goal.own_line-line-requires-clause-after
own_line-line-requires-clause-after g c = past_is (judged c.args.inbox.now.entries) c.args.inbox.now.conn c.in-Some.place c.told_after-told.result c.told_after-told.ensures

pub own_line-line-requires-clause-own : goal.own_line-line-requires-clause-own
own_line-line-requires-clause-own g c = (next_own c.args.inbox.now c.loop-place.after c.loop-place.invariant.counted c.in-Some.ensures).is_next.1

pub own_line-line-requires-clause-place : goal.own_line-line-requires-clause-place
own_line-line-requires-clause-place g c =
    let own = (next_own c.args.inbox.now c.loop-place.after c.loop-place.invariant.counted c.in-Some.ensures).own in
    (omega (arith, own.above), own.within)

pub loop-place-init : goal.loop-place-init
loop-place-init g c = record { counted = refl; within = omega arith; told = refl; gathered = gathers_none _ _ }

pub returns : goal.returns
returns g c =
    let rs = judged c.args.inbox.now.entries in
    let conn = c.args.inbox.now.conn in
    let quiet : MakesNone rs conn c.loop-place.after c.last.result = subst (MakesNone rs conn c.loop-place.after) (sym c.last.ensures) (none_counted rs conn c.loop-place.after c.loop-place.invariant.counted c.in_default.ensures) in
    let text = c.pass.ensures.text rs conn c.loop-place.after c.loop-place.invariant.told (omega (arith, c.loop-place.invariant.within, c.last.ensures)) (omega (arith, c.last.ensures)) quiet in
    let front = lines_between rs conn 0 c.loop-place.after in
    let rest = lines_between rs conn c.loop-place.after c.last.result in
    rw (parted_at c.args.inbox.now c.loop-place.after c.last.result c.loop-place.invariant.within c.last.ensures)
    (gathers_then c.gather.result _ _ _ _ _ _ front rest c.loop-place.invariant.gathered (c.gather.ensures rest text))

pub overflow_sub-place : goal.overflow_sub-place
overflow_sub-place g c = omega (arith, (next_own c.args.inbox.now c.loop-place.after c.loop-place.invariant.counted c.in-Some.ensures).own.above)

pub write_upto-requires-clause-next : goal.write_upto-requires-clause-next
write_upto-requires-clause-next g c = (next_own c.args.inbox.now c.loop-place.after c.loop-place.invariant.counted c.in-Some.ensures).is_next

pub overflow_add-count : goal.overflow_add-count
overflow_add-count g c = omega (arith, (next_own c.args.inbox.now c.loop-place.after c.loop-place.invariant.counted c.in-Some.ensures).few)

pub loop-place-smaller : goal.loop-place-smaller
loop-place-smaller g c =
    let own = (next_own c.args.inbox.now c.loop-place.after c.loop-place.invariant.counted c.in-Some.ensures).own in
    omega (arith, own.above, own.within)

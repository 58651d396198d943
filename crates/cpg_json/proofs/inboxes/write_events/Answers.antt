use Rattle.std.proofs.Common.{◌≡◌, ◌++◌, ℕ, List, Option, Some, length, take, ap, refl, sym, subst, ◌∙◌, arith}
use Rattle.std.specs.List.{slice_get}
use Rattle.cpg_entry.specs.declared.entries.Entry.{Entry}
use Rattle.cpg_record.specs.declared.connections.ConnId.{ConnId}
use Rattle.cpg_record.specs.Judging.{judged}
use Rattle.cpg_record.specs.Nexts.{is_made_by}
use Rattle.cpg_record.specs.Places.{places_of}
use Rattle.cpg_record.proofs.Denials.{each_entry_is_judged}
use Rattle.cpg_group.specs.ConnectionLogs.{ConnectionLogValue}
use Rattle.cpg_judge.specs.Texts.{MakesNone}
use Rattle.cpg_judge.proofs.Behind.{gathers_none, gathers_stop, gathers_then}
use Rattle.cpg_judge.proofs.Places.{next_counted, none_counted, NextCounted}
use Rattle.cpg_json.specs.Steps.{lines_between}
use Rattle.cpg_json.proofs.Between.{between_parted, inbox_parted}
use Rattle.cpg_json.proofs.inboxes.write_events.Goals as goal

-- what the log gives for an index is the own place that stands there
own_is : (policy : List Entry) (conn : ConnId) (count : ℕ) {log : ConnectionLogValue} {own : Option ℕ} → log ≡ record { records = judged policy; conn = conn } →
    own ≡ slice_get (places_of (is_made_by log.conn) log.records) count → own ≡ slice_get (places_of (is_made_by conn) (judged policy)) count
own_is policy conn count are is = is ∙ ap (λ (one : ConnectionLogValue). slice_get (places_of (is_made_by one.conn) one.records) count) are

-- the own place that the log gives after so many
next_own : (policy : List Entry) (conn : ConnId) (after : ℕ) {log : ConnectionLogValue} {count place : ℕ} → log ≡ record { records = judged policy; conn = conn } →
    count ≡ length (places_of (is_made_by conn) (take after (judged policy))) → Some place ≡ slice_get (places_of (is_made_by log.conn) log.records) count →
    NextCounted (judged policy) conn after count place
next_own policy conn after {log} {count} are counted is = next_counted (judged policy) conn after counted (own_is policy conn count are is)

pub loop-place-init : goal.loop-place-init
loop-place-init g c = record { counted = refl; within = omega arith; gathered = gathers_none _ _ }

pub write_upto-requires-clause-next : goal.write_upto-requires-clause-next
write_upto-requires-clause-next g c =
    (next_own c.args.inbox.now.policy.now c.args.inbox.now.conn.now c.loop-place.after c.log-log.ensures c.loop-place.invariant.counted c.in-Some.ensures).is_next

pub returns-in-Err : goal.returns-in-Err
returns-in-Err g c =
    let rs = judged c.args.inbox.now.policy.now in
    let conn = c.args.inbox.now.conn.now in
    let own = (next_own c.args.inbox.now.policy.now c.args.inbox.now.conn.now c.loop-place.after c.log-log.ensures c.loop-place.invariant.counted c.in-Some.ensures).own in
    let front = lines_between rs conn 0 c.loop-place.after in
    let some = lines_between rs conn c.loop-place.after c.in-Some.place in
    let rest = lines_between rs conn c.in-Some.place (length rs) in
    rw (inbox_parted rs conn c.in-Some.place own.within
    ∙ ap (λ (l : List (List ℕ)). l ++ rest) (between_parted rs conn 0 c.loop-place.after c.in-Some.place (omega arith) (omega (arith, own.above))))
    (gathers_stop _ _ _ _ _ (front ++ some) rest (gathers_then _ _ _ _ _ _ _ front some c.loop-place.invariant.gathered c.in-Err.ensures))

pub overflow_add-count : goal.overflow_add-count
overflow_add-count g c =
    omega (arith, (next_own c.args.inbox.now.policy.now c.args.inbox.now.conn.now c.loop-place.after c.log-log.ensures c.loop-place.invariant.counted c.in-Some.ensures).few)

pub loop-place-preserved : goal.loop-place-preserved
loop-place-preserved g c =
    let rs = judged c.args.inbox.now.policy.now in
    let conn = c.args.inbox.now.conn.now in
    let next = next_own c.args.inbox.now.policy.now c.args.inbox.now.conn.now c.loop-place.after c.log-log.ensures c.loop-place.invariant.counted c.in-Some.ensures in
    let more = between_parted rs conn 0 c.loop-place.after c.in-Some.place (omega arith) (omega (arith, next.own.above)) in
    record {
      counted = omega (arith, next.one_more);
      within = next.own.within;
      gathered = rw more (gathers_then _ _ _ _ _ _ _ (lines_between rs conn 0 c.loop-place.after) (lines_between rs conn c.loop-place.after c.in-Some.place) c.loop-place.invariant.gathered c.in-Ok.ensures);
    }

pub loop-place-smaller : goal.loop-place-smaller
loop-place-smaller g c =
    let own = (next_own c.args.inbox.now.policy.now c.args.inbox.now.conn.now c.loop-place.after c.log-log.ensures c.loop-place.invariant.counted c.in-Some.ensures).own in
    omega (arith, own.above, own.within)

pub write_between-requires-clause-places : goal.write_between-requires-clause-places
write_between-requires-clause-places g c =
    let all : c.len.result ≡ length (judged c.args.inbox.now.policy.now) = omega (arith, c.len.ensures.value, (each_entry_is_judged c.args.inbox.now.policy.now).0) in
    (omega (arith, all, c.loop-place.invariant.within), omega (arith, all))

pub write_between-requires-clause-none : goal.write_between-requires-clause-none
write_between-requires-clause-none g c =
    let rs = judged c.args.inbox.now.policy.now in
    let conn = c.args.inbox.now.conn.now in
    let all : c.len.result ≡ length rs = omega (arith, c.len.ensures.value, (each_entry_is_judged c.args.inbox.now.policy.now).0) in
    subst (MakesNone rs conn c.loop-place.after) (sym all)
    (none_counted rs conn c.loop-place.after c.loop-place.invariant.counted (own_is c.args.inbox.now.policy.now conn c.loop-place.count c.log-log.ensures c.in_default.ensures))

pub returns : goal.returns
returns g c =
    let rs = judged c.args.inbox.now.policy.now in
    let conn = c.args.inbox.now.conn.now in
    let all : c.len.result ≡ length rs = omega (arith, c.len.ensures.value, (each_entry_is_judged c.args.inbox.now.policy.now).0) in
    let front = lines_between rs conn 0 c.loop-place.after in
    rw (inbox_parted rs conn c.loop-place.after c.loop-place.invariant.within ∙ ap (λ n. front ++ lines_between rs conn c.loop-place.after n) (sym all))
    (gathers_then c.write_between.result _ _ _ _ _ _ front (lines_between rs conn c.loop-place.after c.len.result) c.loop-place.invariant.gathered c.write_between.ensures)

use Rattle.std.proofs.Common.{◌-◌, arith}
use Rattle.std.proofs.lemmas.Result.{err_from_is_err_and}
use Rattle.cpg_record.specs.Judging.{judged}
use Rattle.cpg_judge.proofs.Behind.{gathers_stop, gathers_then}
use Rattle.cpg_judge.proofs.Places.{own_next}
use Rattle.cpg_json.specs.Steps.{lines_at, lines_between}
use Rattle.cpg_json.proofs.Between.{one_place_more}
use Rattle.cpg_json.proofs.inboxes.write_upto.Goals as goal

pub write_place-requires-clause-place : goal.write_place-requires-clause-place
write_place-requires-clause-place g c =
    let next = own_next (judged c.args.inbox.now.policy.now) c.args.inbox.now.conn.now c.args.after c.args.place c.requires.next in
    (omega (arith, next.above), next.within)

pub returns-in_err-write_between : goal.returns-in_err-write_between
returns-in_err-write_between g c =
    let rs = judged c.args.inbox.now.policy.now in
    let conn = c.args.inbox.now.conn.now in
    let failed = err_from_is_err_and c.from_residual.result c.from_residual.ensures.1 in
    let next = own_next rs conn c.args.after c.args.place c.requires.next in
    rw (failed.1, failed.2, one_place_more rs conn c.args.after c.args.place next.above)
    (gathers_stop _ _ _ _ _ (lines_between rs conn c.args.after (c.args.place - 1)) (lines_at rs conn c.args.place) c.in_err-write_between.ensures)

pub returns : goal.returns
returns g c =
    let rs = judged c.args.inbox.now.policy.now in
    let conn = c.args.inbox.now.conn.now in
    let next = own_next rs conn c.args.after c.args.place c.requires.next in
    rw (one_place_more rs conn c.args.after c.args.place next.above)
    (gathers_then c.write_place.result _ _ _ _ _ _ (lines_between rs conn c.args.after (c.args.place - 1)) (lines_at rs conn c.args.place) c.in_ok-write_between.ensures c.write_place.ensures)

use Rattle.std.proofs.Common.{◌-◌, arith}
use Rattle.std.proofs.lemmas.Result.{err_from_is_err_and}
use Rattle.cpg_record.specs.Judging.{judged}
use Rattle.cpg_judge.specs.Texts.{lines_at, lines_between}
use Rattle.cpg_judge.proofs.Behind.{gathers_stop, gathers_then}
use Rattle.cpg_judge.proofs.Places.{own_next, one_place_more}
use Rattle.cpg_judge.proofs.output.write_upto.Goals as goal

pub write_own-requires-clause-own : goal.write_own-requires-clause-own
write_own-requires-clause-own g c = c.requires.next.1

pub write_own-requires-clause-place : goal.write_own-requires-clause-place
write_own-requires-clause-place g c =
    let next = own_next (judged c.args.inbox.now.entries) c.args.inbox.now.conn c.args.after c.args.place c.requires.next in
    (omega (arith, next.above), next.within)

pub returns-in_err-gather : goal.returns-in_err-gather
returns-in_err-gather g c =
    let failed = err_from_is_err_and c.from_residual.result c.from_residual.ensures.1 in
    let next = own_next (judged c.args.inbox.now.entries) c.args.inbox.now.conn c.args.after c.args.place c.requires.next in
    let whole = one_place_more (judged c.args.inbox.now.entries) c.args.inbox.now.conn c.args.after c.args.place next.above in
    rw (failed.1, failed.2, whole) (gathers_stop _ _ _ _ _ (lines_between (judged c.args.inbox.now.entries) c.args.inbox.now.conn c.args.after (c.args.place - 1)) (lines_at (judged c.args.inbox.now.entries) c.args.inbox.now.conn c.args.place)
    (c.in_err-gather.ensures (lines_between (judged c.args.inbox.now.entries) c.args.inbox.now.conn c.args.after (c.args.place - 1)) c.requires.text))

pub returns : goal.returns
returns g c =
    let next = own_next (judged c.args.inbox.now.entries) c.args.inbox.now.conn c.args.after c.args.place c.requires.next in
    let whole = one_place_more (judged c.args.inbox.now.entries) c.args.inbox.now.conn c.args.after c.args.place next.above in
    rw whole (gathers_then c.write_own.result _ _ _ _ _ _ (lines_between (judged c.args.inbox.now.entries) c.args.inbox.now.conn c.args.after (c.args.place - 1)) (lines_at (judged c.args.inbox.now.entries) c.args.inbox.now.conn c.args.place)
    (c.in_ok-gather.ensures (lines_between (judged c.args.inbox.now.entries) c.args.inbox.now.conn c.args.after (c.args.place - 1)) c.requires.text) c.write_own.ensures)

use Rattle.std.proofs.Common.{refl}
use Rattle.std.proofs.lemmas.Result.{err_from_is_err_and}
use Rattle.cpg_record.specs.Judging.{judged}
use Rattle.cpg_judge.proofs.Behind.{gathers_and, gathers_memory, gathers_put}
use Rattle.cpg_json.specs.Steps.{lines_at}
use Rattle.cpg_json.proofs.inboxes.write_place.Goals as goal

pub returns-in_err-put_place : goal.returns-in_err-put_place
returns-in_err-put_place g c =
    let failed = err_from_is_err_and c.from_residual.result c.from_residual.ensures.1 in
    rw (failed.1, failed.2) (gathers_memory _ _ _ _ (lines_at (judged c.args.inbox.now.policy.now) c.args.inbox.now.conn.now c.args.place) c.in_err-put_place.ensures.memory)

pub returns : goal.returns
returns g c =
    gathers_and c.write_much.result _ _ _ _ _ _ (lines_at (judged c.args.inbox.now.policy.now) c.args.inbox.now.conn.now c.args.place)
    (gathers_put _ _ _ _ (lines_at (judged c.args.inbox.now.policy.now) c.args.inbox.now.conn.now c.args.place) refl c.in_ok-put_place.ensures.ok) c.write_much.ensures

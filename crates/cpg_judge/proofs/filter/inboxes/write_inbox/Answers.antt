use Rattle.std.proofs.Common.{refl}
use Rattle.std.proofs.lemmas.Result.{err_from_is_err_and}
use Rattle.cpg_record.specs.Judging.{judged}
use Rattle.cpg_judge.proofs.Behind.{gathers_and, gathers_memory, gathers_put}
use Rattle.cpg_judge.specs.Filtering.{inbox_kept}
use Rattle.cpg_judge.proofs.filter.inboxes.write_inbox.Goals as goal

pub returns-in_err-put_inbox_kept : goal.returns-in_err-put_inbox_kept
returns-in_err-put_inbox_kept g c =
    let failed = err_from_is_err_and c.from_residual.result c.from_residual.ensures.1 in
    rw (failed.1, failed.2) (gathers_memory _ _ _ _ (inbox_kept c.args.filter.now (judged c.args.policy.now) c.args.conn.now) c.in_err-put_inbox_kept.ensures.memory)

pub returns : goal.returns
returns g c =
    gathers_and c.write_much.result _ _ _ _ _ _ (inbox_kept c.args.filter.now (judged c.args.policy.now) c.args.conn.now)
    (gathers_put _ _ _ _ (inbox_kept c.args.filter.now (judged c.args.policy.now) c.args.conn.now) refl c.in_ok-put_inbox_kept.ensures.ok) c.write_much.ensures

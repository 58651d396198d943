use Rattle.std.proofs.Common.{◌∷◌, [], map, sym, append-nil}
use Rattle.std.proofs.lemmas.Result.{err_from_is_err_and}
use Rattle.cpg_record.specs.Events.{inbox}
use Rattle.cpg_record.specs.Judging.{judged}
use Rattle.cpg_judge.proofs.Behind.{gathers_memory, gathers_put, gathers_stop, gathers_then}
use Rattle.cpg_json.specs.Events.{event_json, inbox_json}
use Rattle.cpg_json.proofs.inboxes.write_inbox.Goals as goal

pub returns-in_err-put_inbox : goal.returns-in_err-put_inbox
returns-in_err-put_inbox g c =
    let failed = err_from_is_err_and c.from_residual.result c.from_residual.ensures.1 in
    rw (failed.1, failed.2) (gathers_stop _ _ _ _ _ (inbox_json c.args.conn.now ∷ []) (map (event_json c.args.conn.now) (inbox (judged c.args.policy.now) c.args.conn.now))
    (gathers_memory _ _ _ _ (inbox_json c.args.conn.now ∷ []) c.in_err-put_inbox.ensures.memory))

pub returns : goal.returns
returns g c =
    gathers_then c.write_events.result _ _ _ _ _ _ (inbox_json c.args.conn.now ∷ []) (map (event_json c.args.conn.now) (inbox (judged c.args.policy.now) c.args.conn.now))
    (gathers_put _ _ _ _ (inbox_json c.args.conn.now ∷ []) (sym (append-nil (inbox_json c.args.conn.now))) c.in_ok-put_inbox.ensures.ok) c.write_events.ensures

use Rattle.std.proofs.Common.{◌++◌, ◌∷◌, [], ap, sym, ◌∙◌, append-nil}
use Rattle.std.proofs.lemmas.Result.{err_from_is_err_and}
use Rattle.cpg_record.specs.Judging.{judged}
use Rattle.cpg_judge.proofs.Behind.{gathers_and, gathers_memory, gathers_put}
use Rattle.cpg_json.specs.Tails.{front_of, heard_line}
use Rattle.cpg_json.proofs.stretches.write_told.Goals as goal

pub returns-in_err-put_told : goal.returns-in_err-put_told
returns-in_err-put_told g c =
    let failed = err_from_is_err_and c.from_residual.result c.from_residual.ensures.1 in
    rw (failed.1, failed.2) (gathers_memory _ _ _ _ (heard_line (judged c.args.inbox.now.policy.now) c.args.inbox.now.conn.now c.args.place ∷ []) c.in_err-put_told.ensures.memory)

pub returns : goal.returns
returns g c =
    let rs = judged c.args.inbox.now.policy.now in
    let one = heard_line rs c.args.inbox.now.conn.now c.args.place in
    let tail = c.at.ensures rs c.requires.inbox.0 c.requires.place.1 in
    let text = ap (λ front. front ++ c.at.result.now) c.requires.inbox.1 ∙ ap (λ l. front_of c.args.inbox.now.conn.now ++ l) tail ∙ sym (append-nil one) in
    gathers_and c.write_much.result _ _ _ _ _ _ (one ∷ [])
    (gathers_put _ _ _ _ (one ∷ []) text c.in_ok-put_told.ensures.ok) c.write_much.ensures

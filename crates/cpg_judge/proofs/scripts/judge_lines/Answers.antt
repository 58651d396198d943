use Rattle.std.proofs.Common.{◌+◌, ◌∷◌, ap, ◌∙◌, option_map}
use Rattle.std.proofs.lemmas.Result.{err_from_is_err_and}
use Rattle.cpg_text.specs.Lines.{lines_left}
use Rattle.cpg_text.specs.Items.{items_with}
use Rattle.cpg_text.proofs.Reading.{fails_along}
use Rattle.cpg_judge.specs.Scripts.{entry_in, entries_of_script}
use Rattle.cpg_judge.proofs.scripts.judge_lines.Goals as goal

pub returns-in_err-judge_line-clause-err : goal.returns-in_err-judge_line-clause-err
returns-in_err-judge_line-clause-err c =
    let failed = err_from_is_err_and c.from_residual.result c.from_residual.ensures.1 in
    let rest = lines_left (option_map (λ r. r.now) c.next.new.self.rest) in
    let lines = items_with entry_in c.loop-line.policy (c.loop-line.number + 1) in
    let whole = c.loop-line.invariant.read ∙ ap lines c.in-Some.ensures.steps in
    rw (failed.1, failed.2) (fails_along (entries_of_script c.args.script.now) (lines (c.in-Some.line.now ∷ rest)) c.in_err-judge_line.field-0.0 whole (c.in_err-judge_line.ensures.err rest))

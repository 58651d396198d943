use Rattle.std.proofs.Common.{length, sym, ap, ◌∙◌, arith}
use Rattle.cpg_text.specs.declared.streams.TheConstants.{MOST_BYTES}
use Rattle.cpg_judge.specs.Scripts.{entries_of_script}
use Rattle.cpg_judge.proofs.Whole.{judged_left, judged_whole}
use Rattle.cpg_judge.proofs.judging.judge_whole.Goals as goal

pub returns-clause-ok : goal.returns-clause-ok
returns-clause-ok g c =
    judged_whole (g.F.TellsJudged.form c.args.form.now) c.write_judgement.result (g.R.Read.remaining c.args.reader.now) c.in_ok-script.script.items c.in_ok-policy.policy MOST_BYTES
    (g.W.Write.contents c.args.writer.now) (g.W.Write.contents c.write_judgement.new.writer) c.in_ok-script.ensures.whole
    (omega (arith, c.in_ok-script.ensures.short, c.as_slice.ensures.len, ap length c.as_slice.ensures.value))
    (ap entries_of_script (sym c.as_slice.ensures.value) ∙ c.in_ok-policy.ensures.ok) c.write_judgement.ensures.ok

pub returns-clause-err : goal.returns-clause-err
returns-clause-err g c =
    judged_left (g.F.TellsJudged.form c.args.form.now) c.write_judgement.result (g.R.Read.remaining c.args.reader.now) c.in_ok-script.script.items c.in_ok-policy.policy
    (g.W.Write.contents c.args.writer.now) (g.W.Write.contents c.write_judgement.new.writer) c.in_ok-script.ensures.whole
    (ap entries_of_script (sym c.as_slice.ensures.value) ∙ c.in_ok-policy.ensures.ok) c.write_judgement.ensures.err

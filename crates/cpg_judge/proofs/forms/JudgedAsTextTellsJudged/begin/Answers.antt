use Rattle.cpg_record.specs.Judging.{judged}
use Rattle.cpg_judge.proofs.forms.JudgedAsTextTellsJudged.begin.Goals as goal

pub returns-clause-none : goal.returns-clause-none
returns-clause-none c = (c.in_ok-texts.ensures.texts (judged c.args._policy.now), c.in_ok-texts.ensures.shown (judged c.args._policy.now))

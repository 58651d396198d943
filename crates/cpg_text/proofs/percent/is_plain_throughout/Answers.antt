use Rattle.std.proofs.Common.{sym, ◌∙◌}
use Rattle.std.proofs.lemmas.Bool.{eqb-true}
use Rattle.cpg_text.proofs.Plain.{plain_alone, plain_whole}
use Rattle.cpg_text.proofs.percent.is_plain_throughout.Goals as goal

pub returns-clause-word : goal.returns-clause-word
returns-clause-word c = λ same some. plain_alone c.args.text.now some (sym c.plain_run.ensures.value ∙ eqb-true _ _ same)

pub returns-clause-itself : goal.returns-clause-itself
returns-clause-itself c = λ same. plain_whole c.args.text.now (sym c.plain_run.ensures.value ∙ eqb-true _ _ same)

use Rattle.cpg_text.specs.Percent.{is_plain}
use Rattle.cpg_text.specs.Steps.{is_odd}
use Rattle.cpg_text.proofs.Fronts.{not-not, run_through}
use Rattle.cpg_text.proofs.runs.past_percent_at.Goals as goal

pub returns : goal.returns
returns c = λ low. run_through is_odd is_plain (λ x. not-not (is_plain x)) c.args.text.now c.args.from 16 c.requires (c.past_percent.ensures low)

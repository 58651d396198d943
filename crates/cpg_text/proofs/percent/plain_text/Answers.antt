use Rattle.std.proofs.Common.{sym, ◌∙◌}
use Rattle.cpg_text.proofs.Plain.{percent_found}
use Rattle.cpg_text.proofs.percent.plain_text.Goals as goal

pub returns-in-Some : goal.returns-in-Some
returns-in-Some c = percent_found c.args.text.now c.in-Some.field-0 (sym c.place_of.ensures ∙ c.in-Some.is)

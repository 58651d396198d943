use Rattle.std.proofs.Common.{sym, ◌∙◌}
use Rattle.cpg_text.proofs.Highest.{both_low}
use Rattle.cpg_text.proofs.runs.higher_of.Goals as goal

pub returns : goal.returns
returns c = both_low c.args.one c.args.two (c.fits-one.0 ∙ sym c.fits-two.0)

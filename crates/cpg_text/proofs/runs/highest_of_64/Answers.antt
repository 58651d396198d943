use Rattle.std.proofs.Common.{arith}
use Rattle.cpg_text.proofs.runs.highest_of_64.Goals as goal

pub returns : goal.returns
returns c = grind (arith, c.higher_of.ensures, c.higher_of-first.ensures, c.higher_of-last.ensures, c.past_percent_at.ensures, c.past_percent_at-2.ensures, c.past_percent_at-3.ensures, c.past_percent_at-4.ensures)

use Rattle.std.proofs.Common.{arith}
use Rattle.cpg_text.proofs.runs.highest_of_256.Goals as goal

pub returns : goal.returns
returns c = grind (arith, c.higher_of.ensures, c.higher_of-first.ensures, c.higher_of-last.ensures, c.highest_of_64.ensures, c.highest_of_64-2.ensures, c.highest_of_64-3.ensures, c.highest_of_64-4.ensures)

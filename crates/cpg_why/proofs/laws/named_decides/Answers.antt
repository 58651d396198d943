use Rattle.cpg_why.proofs.Naming.{named_is_the_verdicts, tells_defaults, tells_rules}
use Rattle.cpg_why.proofs.laws.named_decides.Goals as goal

pub returns : goal.returns
returns c = record { rules = tells_rules; defaults = tells_defaults; verdicts = named_is_the_verdicts }

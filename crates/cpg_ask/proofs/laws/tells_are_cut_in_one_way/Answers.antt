use Rattle.cpg_ask.proofs.Cutting.{tells_same}
use Rattle.cpg_ask.proofs.laws.tells_are_cut_in_one_way.Goals as goal

pub returns : goal.returns
returns c = tells_same

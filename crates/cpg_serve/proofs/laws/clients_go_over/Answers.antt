use Rattle.cpg_serve.proofs.Over.{each_goes_over}
use Rattle.cpg_serve.proofs.laws.clients_go_over.Goals as goal

pub returns : goal.returns
returns c = each_goes_over

use Rattle.cpg_ask.proofs.Retold.{read_again, front_is}
use Rattle.cpg_ask.proofs.laws.reads_what_is_told.Goals as goal

pub returns-clause-again : goal.returns-clause-again
returns-clause-again c = read_again

pub returns-clause-front : goal.returns-clause-front
returns-clause-front c = front_is

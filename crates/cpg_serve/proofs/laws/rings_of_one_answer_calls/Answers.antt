use Rattle.cpg_serve.proofs.Answered.{lone_rings_answer}
use Rattle.cpg_serve.proofs.laws.rings_of_one_answer_calls.Goals as goal

pub returns : goal.returns
returns c = lone_rings_answer c.each_entry_is_judged.ensures

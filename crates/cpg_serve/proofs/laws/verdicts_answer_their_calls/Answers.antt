use Rattle.cpg_serve.proofs.Evening.{stays_even}
use Rattle.cpg_serve.proofs.Matched.{answers_in_order, honest_in_a_world}
use Rattle.cpg_serve.proofs.laws.verdicts_answer_their_calls.Goals as goal

pub returns-clause-stays : goal.returns-clause-stays
returns-clause-stays c = stays_even

pub returns-clause-answers : goal.returns-clause-answers
returns-clause-answers c = answers_in_order

pub returns-clause-honest : goal.returns-clause-honest
returns-clause-honest c = honest_in_a_world c.verdicts_in_order.ensures

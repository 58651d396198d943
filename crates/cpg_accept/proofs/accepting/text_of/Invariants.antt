use Rattle.std.proofs.Common.{◌≡◌, take}
use Rattle.cpg_accept.specs.Accepting.{answers_told}
use Rattle.cpg_accept.proofs.accepting.text_of.Given as goal

abbrev pub invariant-loop-answer : goal.invariant-loop-answer
invariant-loop-answer g l = l.text.items ≡ answers_told g.F.TellsAnswer.told (take l.answer-index l.answers)

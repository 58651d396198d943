use Rattle.cpg_record.specs.Judging.{judged}
use Rattle.cpg_json.specs.Tails.{AreTails}
use Rattle.cpg_json.proofs.tails.Tails.of.Given as goal

abbrev pub invariant-loop-index : goal.invariant-loop-index
invariant-loop-index l = AreTails l.tails (judged l.policy) l.index

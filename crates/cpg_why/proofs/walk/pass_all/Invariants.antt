use Rattle.std.proofs.Common.{◌≡◌, take}
use Rattle.cpg_record.specs.Judging.{judged}
use Rattle.cpg_why.specs.Moves.{AreLastMoves}
use Rattle.cpg_why.proofs.walk.pass_all.Given as goal

abbrev pub invariant-loop-entry : goal.invariant-loop-entry
invariant-loop-entry l = record {
  passed : l.walk.policy ≡ take l.entry-index l.entries;
  moves : AreLastMoves l.walk.moves.kept.entries (judged l.walk.policy);
}

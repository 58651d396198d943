use Rattle.std.proofs.Common.{◌≡◌, take}
use Rattle.cpg_record.specs.Judging.{judged}
use Rattle.cpg_why.specs.Moves.{AreLastMoves}
use Rattle.cpg_why.proofs.Denied.{denied_upto}
use Rattle.cpg_why.proofs.walk.find_denials.Given as goal

abbrev pub invariant-loop-entry : goal.invariant-loop-entry
invariant-loop-entry l = record {
  passed : l.walk.policy ≡ take l.entry-index l.entries;
  moves : AreLastMoves l.walk.moves.kept.entries (judged l.walk.policy);
  list : l.list.items ≡ denied_upto l.entries l.entry-index;
}

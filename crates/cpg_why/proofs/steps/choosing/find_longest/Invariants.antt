use Rattle.std.proofs.Common.{◌≡◌, ◌≤◌, take, length}
use Rattle.cpg_record.specs.Judging.{most_places}
use Rattle.cpg_why.specs.Explaining.{longest}
use Rattle.cpg_why.proofs.steps.choosing.find_longest.Given as goal

abbrev pub invariant-loop-before : goal.invariant-loop-before
invariant-loop-before l = record {
  chosen : l.most ≡ longest (take l.before l.world.nodes);
  few : length l.most ≤ most_places;
}

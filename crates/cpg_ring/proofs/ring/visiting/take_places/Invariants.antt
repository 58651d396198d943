use Rattle.std.proofs.Common.{◌≡◌, take, drop}
use Rattle.cpg_ring.specs.Steps.{hold_from}
use Rattle.cpg_ring.proofs.ring.visiting.take_places.Given as goal

abbrev pub invariant-loop-i : goal.invariant-loop-i
invariant-loop-i l = record {
  held : l.held ≡ record l.initial.held { places = hold_from l.initial.held.places l.seq (take l.i l.initial.waiting) };
  waiting : l.waiting ≡ drop l.i l.initial.waiting;
}

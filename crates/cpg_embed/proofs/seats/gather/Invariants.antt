use Rattle.std.proofs.Common.{◌≡◌, suc, drop, reverse}
use Rattle.cpg_embed.specs.Seats.{seats_from, AreEnded}
use Rattle.cpg_embed.proofs.seats.gather.Given as goal

abbrev pub invariant-loop-index : goal.invariant-loop-index
invariant-loop-index l = record {
  put : l.places.items ≡ reverse (seats_from (suc l.index) (drop l.index l.records));
  known : AreEnded l.ended.keys (drop l.index l.records);
}

use Rattle.std.proofs.Common.{◌≡◌, ℕ, ◌<◌, get_or, drop, length, reverse}
use Rattle.cpg_draw.specs.Passed.{reached, passed_in}
use Rattle.cpg_draw.proofs.misses.gather.Given as goal

abbrev pub invariant-loop-index : goal.invariant-loop-index
invariant-loop-index l = record {
  put : l.misses.items ≡ reverse (passed_in l.nodes (drop l.index l.arrows));
  sized : length l.table.items ≡ 256;
  known : (sender : ℕ) → sender < 256 → get_or l.table.items sender 0 ≡ reached (drop l.index l.arrows) sender;
}

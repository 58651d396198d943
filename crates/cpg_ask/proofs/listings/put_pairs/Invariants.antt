use Rattle.std.proofs.Common.{◌≡◌, ◌++◌, take}
use Rattle.cpg_ask.specs.Tells.{pairs_bytes}
use Rattle.cpg_ask.proofs.listings.put_pairs.Given as goal

abbrev pub invariant-loop-pair : goal.invariant-loop-pair
invariant-loop-pair l = l.out.items ≡ l.fn.out.items ++ pairs_bytes (take l.pair-index l.pairs)

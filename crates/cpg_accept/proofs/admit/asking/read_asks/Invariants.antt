use Rattle.std.proofs.Common.{◌≡◌, take}
use Rattle.cpg_accept.specs.Admitting.{asks_in}
use Rattle.cpg_accept.proofs.admit.asking.read_asks.Given as goal

abbrev pub invariant-loop-word : goal.invariant-loop-word
invariant-loop-word l = l.asks.items ≡ asks_in l.names (take l.word-index l.words)

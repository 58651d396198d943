use Rattle.std.proofs.Common.{◌≡◌, ◌++◌, take, map}
use Rattle.cpg_accept.specs.Telling.{printable}
use Rattle.cpg_accept.proofs.admit.telling.put_printable.Given as goal

abbrev pub invariant-loop-byte : goal.invariant-loop-byte
invariant-loop-byte l = l.line.items ≡ l.initial.line.items ++ map printable (take l.byte-index l.text)

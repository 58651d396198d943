use Rattle.std.proofs.Common.{◌≡◌, ◌++◌, take}
use Rattle.cpg_hint.specs.Marks.{escaped}
use Rattle.cpg_hint.proofs.marks.put_escaped.Given as goal

abbrev pub invariant-loop-byte : goal.invariant-loop-byte
invariant-loop-byte l = l.text.items ≡ l.initial.text.items ++ escaped (take l.byte-index l.bytes)

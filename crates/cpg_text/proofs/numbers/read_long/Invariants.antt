use Rattle.std.proofs.Common.{◌≡◌, drop, Some}
use Rattle.cpg_text.specs.Steps.{read_on}
use Rattle.cpg_text.proofs.numbers.read_long.Given as goal

abbrev pub invariant-loop-byte : goal.invariant-loop-byte
invariant-loop-byte l = read_on l.most (Some l.number) (drop l.byte-index l.word) ≡ read_on l.most (Some 0) l.word

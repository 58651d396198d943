use Rattle.std.proofs.Common.{◌≡◌, ◌<◌, ◌^◌, drop, Some}
use Rattle.cpg_text.specs.Steps.{read_digits}
use Rattle.cpg_text.proofs.numbers.short_value.Given as goal

abbrev pub invariant-loop-byte : goal.invariant-loop-byte
invariant-loop-byte l = record {
  value : read_digits (Some l.number) (drop l.byte-index l.word) ≡ read_digits (Some 0) l.word;
  small : l.number < 10 ^ l.byte-index;
}

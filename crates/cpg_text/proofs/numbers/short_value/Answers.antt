use Rattle.std.proofs.Common.{arith}
use Rattle.cpg_text.proofs.Digits.{power_within}
use Rattle.cpg_text.proofs.numbers.short_value.Goals as goal

pub one_digit-requires : goal.one_digit-requires
one_digit-requires c =
    power_within c.loop-byte.number c.loop-byte.byte-index (omega (arith, c.requires, c.loop-byte-test.true)) c.loop-byte.invariant.small

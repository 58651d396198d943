use Rattle.std.proofs.Common.{◌+◌, ◌*◌, ◌-◌, ◌<◌, length, get_or, refl, ap, sym, ◌∙◌, arith}
use Rattle.cpg_text.proofs.Digits.{power_within}
use Rattle.cpg_text.proofs.FirstNumbers.{digits_up_to, value_up_to, small_more, below_nine}
use Rattle.cpg_text.proofs.first_numbers.first_digits.Goals as goal

pub loop-end-init : goal.loop-end-init
loop-end-init c = record { digits = refl; value = refl; small = omega arith; within = omega arith }

pub overflow_mul-number : goal.overflow_mul-number
overflow_mul-number c =
    let short = power_within c.loop-end.number c.loop-end.end (omega (arith, c.loop-end-test.true, c.min-most.ensures)) c.loop-end.invariant.small in
    omega (arith, short)

pub overflow_add-number : goal.overflow_add-number
overflow_add-number c =
    let short = power_within c.loop-end.number c.loop-end.end (omega (arith, c.loop-end-test.true, c.min-most.ensures)) c.loop-end.invariant.small in
    let most = c.type_inv.line c.loop-end.end in
    omega (arith, short, most, c.from.ensures)

pub loop-end-preserved : goal.loop-end-preserved
loop-end-preserved c =
    let within : c.loop-end.end < length c.args.line.now = omega (arith, c.loop-end-test.true, c.min-most.ensures) in
    let digit = sym c.is_ascii_digit.ensures.value ∙ c.if-is_ascii_digit.true in
    record {
      digits = digits_up_to c.args.line.now c.loop-end.end within c.loop-end.invariant.digits digit;
      value = rw c.from.ensures
          (ap (λ number. number * 10 + (get_or c.args.line.now c.loop-end.end 0 - 48)) c.loop-end.invariant.value
          ∙ sym (value_up_to c.args.line.now c.loop-end.end 0 within));
      small = rw c.from.ensures (small_more c.loop-end.number c.loop-end.end _ c.loop-end.invariant.small digit);
      within = omega (arith, c.loop-end-test.true);
    }

pub returns-else-is_ascii_digit-clause-small : goal.returns-else-is_ascii_digit-clause-small
returns-else-is_ascii_digit-clause-small c =
    below_nine c.loop-end.number c.loop-end.end (omega (arith, c.loop-end.invariant.within, c.min-most.ensures)) c.loop-end.invariant.small

pub returns-after-loop-end-clause-small : goal.returns-after-loop-end-clause-small
returns-after-loop-end-clause-small c =
    below_nine c.loop-end.number c.loop-end.end (omega (arith, c.loop-end.invariant.within, c.min-most.ensures)) c.loop-end.invariant.small

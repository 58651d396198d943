use Rattle.std.proofs.Common.{ap, sym, ◌∙◌}
use Rattle.cpg_text.specs.Numbers.{first_number}
use Rattle.cpg_text.proofs.FirstNumbers.{number_before_blank, number_at_end}
use Rattle.cpg_text.proofs.first_numbers.take_number.Goals as goal

pub returns-then-is_blank : goal.returns-then-is_blank
returns-then-is_blank c =
    number_before_blank c.skip_blanks-line.result.now c.first_digits-number.result.0 c.first_digits-number.result.1 c.skip_blanks-line.ensures.start
    c.if-end-line.true c.first_digits-number.ensures.digits c.first_digits-number.ensures.value c.first_digits-number.ensures.small
    (sym c.is_blank.ensures ∙ c.if-is_blank.true)
    ∙ ap first_number c.skip_blanks-line.ensures.same

pub returns-then-end-line-2 : goal.returns-then-end-line-2
returns-then-end-line-2 c =
    number_at_end c.skip_blanks-line.result.now c.first_digits-number.result.0 c.first_digits-number.result.1 c.if-end-gt0.true c.if-end-line-2.true
    c.first_digits-number.ensures.digits c.first_digits-number.ensures.value c.first_digits-number.ensures.small
    ∙ ap first_number c.skip_blanks-line.ensures.same

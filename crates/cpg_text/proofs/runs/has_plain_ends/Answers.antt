use Rattle.std.proofs.Common.{arith, sym, ap, ◌∙◌, map}
use Rattle.std.proofs.lemmas.Bool.{eqb-true}
use Rattle.std.specs.Simd.Lanes.{mask_l}
use Rattle.cpg_text.specs.Steps.{is_odd}
use Rattle.cpg_text.proofs.Fronts.{ends_meet}
use Rattle.cpg_text.proofs.runs.has_plain_ends.Goals as goal

pub returns-in-4-to-7 : goal.returns-in-4-to-7
returns-in-4-to-7 c = λ none.
    ends_meet c.args.text.now 4 (omega (arith, c.in-4-to-7)) (omega (arith, c.in-4-to-7)) (ap (λ ends. mask_l (map is_odd ends)) (sym c.ends_of_4.ensures) ∙ sym c.odd_of.ensures ∙ eqb-true _ 0 none)

pub returns-in_default : goal.returns-in_default
returns-in_default c = λ none.
    ends_meet c.args.text.now 8 (omega (arith, c.in_default)) (omega (arith, c.requires)) (ap (λ ends. mask_l (map is_odd ends)) (sym c.ends_of_8.ensures) ∙ sym c.odd_of-in_default.ensures ∙ eqb-true _ 0 none)

use Rattle.std.proofs.Common.{sym, ap, ◌∙◌, arith}
use lib.Count.{count_trailing_zeros}
use Rattle.cpg_text.specs.Percent.{is_plain}
use Rattle.cpg_text.specs.Steps.{is_odd}
use Rattle.cpg_text.proofs.Fronts.{not-not, run_bound, run_stops, run_through}
use Rattle.cpg_text.proofs.runs.run_of_long.Goals as goal

pub returns-then-odd-ne0-clause-value : goal.returns-then-odd-ne0-clause-value
returns-then-odd-ne0-clause-value c =
    let odd = c.odd_of-odd in
    let run = run_stops is_odd is_plain (λ x. not-not (is_plain x)) c.args.text.now c.loop-run.run 16 (omega arith) (omega arith) (omega (arith, odd.ensures)) ∙ ap (count_trailing_zeros 64) (sym odd.ensures) in
    omega (arith, run, c.loop-run.invariant.so_far)

pub returns-then-odd-ne0-clause-within : goal.returns-then-odd-ne0-clause-within
returns-then-odd-ne0-clause-within c =
    let odd = c.odd_of-odd in
    let run = run_stops is_odd is_plain (λ x. not-not (is_plain x)) c.args.text.now c.loop-run.run 16 (omega arith) (omega arith) (omega (arith, odd.ensures)) ∙ ap (count_trailing_zeros 64) (sym odd.ensures) in
    omega (arith, run, run_bound is_plain c.args.text.now c.loop-run.run c.loop-run.invariant.within)

pub loop-run-preserved : goal.loop-run-preserved
loop-run-preserved c =
    let run = run_through is_odd is_plain (λ x. not-not (is_plain x)) c.args.text.now c.loop-run.run 16 (omega arith) (omega (arith, c.odd_of-odd.ensures)) in
    record { so_far = omega (arith, run, c.skip_plain-run.ensures.value, c.loop-run.invariant.so_far); within = c.skip_plain-run.ensures.within }

use Rattle.std.proofs.Common.{◌-◌, arith, ap, sym, ◌∙◌, length}
use Rattle.std.proofs.lemmas.List.Sums.{prefix_len-le-length}
use lib.Count.{count_trailing_zeros}
use Rattle.cpg_text.specs.Percent.{is_plain}
use Rattle.cpg_text.specs.Steps.{is_odd}
use Rattle.cpg_text.proofs.Fronts.{not-not, run_further, run_stops, run_through}
use Rattle.cpg_text.proofs.runs.end_of_run.Goals as goal

pub returns-then-odd-eq0-clause-value : goal.returns-then-odd-eq0-clause-value
returns-then-odd-eq0-clause-value c =
    let text = c.args.text.now in
    let last = length text - 16 in
    let room = c.requires.room in
    let further = run_further is_plain text last (omega (arith, c.requires.plain, room)) in
    let run = run_through is_odd is_plain (λ x. not-not (is_plain x)) text last 16 (omega (arith, room)) (omega (arith, c.odd_of-odd.ensures)) in
    omega (arith, further, run, room, prefix_len-le-length is_plain text)

pub returns-else-odd-eq0-clause-value : goal.returns-else-odd-eq0-clause-value
returns-else-odd-eq0-clause-value c =
    let text = c.args.text.now in
    let last = length text - 16 in
    let room = c.requires.room in
    let odd = c.odd_of-odd in
    let further = run_further is_plain text last (omega (arith, c.requires.plain, room)) in
    let run = run_stops is_odd is_plain (λ x. not-not (is_plain x)) text last 16 (omega (arith, room)) (omega arith) (omega (arith, odd.ensures)) ∙ ap (count_trailing_zeros 64) (sym odd.ensures) in
    omega (arith, further, run)

pub returns-else-odd-eq0-clause-within : goal.returns-else-odd-eq0-clause-within
returns-else-odd-eq0-clause-within c =
    let value = returns-else-odd-eq0-clause-value c in
    omega (arith, value, prefix_len-le-length is_plain c.args.text.now)

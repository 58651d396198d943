use Rattle.std.proofs.Common.{ap, sym, ◌∙◌, ◌∷◌, ◌+◌, ◌≤◌, length, option_map, subst}
use Rattle.std.specs.List.{concat}
use Rattle.std.specs.Result.{result_err}
use Rattle.cpg_text.specs.Lines.{lines_left}
use Rattle.cpg_conf.specs.Names.{next_number}
use Rattle.cpg_conf.specs.Steps.{item_seen, said_from, shapes}
use Rattle.cpg_conf.proofs.Passing.{begins}
use Rattle.cpg_conf.proofs.Rising.{fault_past, shallow_first, shallow_past}
use Rattle.cpg_conf.proofs.conf.check.Goals as goal

pub loop-line-init : goal.loop-line-init
loop-line-init c =
    let lines = lines_left (option_map (λ rest. rest.now) c.into_iter-line-iterator.result.rest) in
    let whole = ap (λ all. lines_left (option_map (λ rest. rest.now) all.rest)) c.into_iter-line-iterator.ensures.into_iter_gives ∙ c.of-line-items.ensures in
    record {
      said = ap result_err (begins c.args.names.now c.args.text.now c.outside-place.result lines c.outside-place.ensures whole);
      shallow = shallow_first c.args.text.now c.outside-place.result lines (ap (λ nesting. nesting.depth) c.outside-place.ensures) whole;
    }

pub loop-line-preserved : goal.loop-line-preserved
loop-line-preserved c =
    let rest = lines_left (option_map (λ r. r.now) c.next.new.self.rest) in
    let line = c.in-Some.line.now in
    let number = c.saturating_add-number.result in
    record {
      said =
          c.loop-line.invariant.said
          ∙ ap (λ lines. result_err (said_from c.args.names.now c.loop-line.place (next_number c.loop-line.number) (shapes lines))) c.in-Some.ensures.steps
          ∙ ap (λ n. result_err (said_from c.args.names.now c.loop-line.place n (shapes (line ∷ rest)))) (sym c.saturating_add-number.ensures)
          ∙ fault_past c.args.names.now c.loop-line.place number line rest (item_seen c.in_ok-take_line.field-0) c.in_ok-take_line.ensures.ok
          ∙ ap (λ nesting. result_err (said_from c.args.names.now nesting (next_number number) (shapes rest))) (sym c.in_ok-take_line.ensures.past);
      shallow =
          subst (λ nesting. nesting.depth + length (concat rest) ≤ length c.args.text.now) (sym c.in_ok-take_line.ensures.past)
          (shallow_past c.loop-line.place line rest (length c.args.text.now)
          (subst (λ lines. c.loop-line.place.depth + length (concat lines) ≤ length c.args.text.now) c.in-Some.ensures.steps c.loop-line.invariant.shallow));
    }

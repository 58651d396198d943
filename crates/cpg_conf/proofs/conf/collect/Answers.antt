use Rattle.std.proofs.Common.{ap, sym, ◌∙◌, ◌∷◌, ◌+◌, ◌≤◌, length, option_map, subst, Ok, []}
use Rattle.std.specs.List.{concat}
use Rattle.cpg_text.specs.Lines.{lines_left}
use Rattle.cpg_conf.specs.Listed.{and_then, joined, numbers_listed}
use Rattle.cpg_conf.specs.Names.{next_number}
use Rattle.cpg_conf.specs.Steps.{item_seen, said_from, shapes}
use Rattle.cpg_conf.proofs.Passing.{begins}
use Rattle.cpg_conf.proofs.Rising.{listed_past, nothing_first, shallow_first, shallow_past}
use Rattle.cpg_conf.proofs.conf.collect.Goals as goal

pub loop-line-init : goal.loop-line-init
loop-line-init c =
    let lines = lines_left (option_map (λ rest. rest.now) c.into_iter-line-iterator.result.rest) in
    let whole = ap (λ all. lines_left (option_map (λ rest. rest.now) all.rest)) c.into_iter-line-iterator.ensures.into_iter_gives ∙ c.of-line-items.ensures in
    let later = said_from c.args.names.now c.outside-nesting.result 1 (shapes lines) in
    record {
      said =
          begins c.args.names.now c.args.text.now c.outside-nesting.result lines c.outside-nesting.ensures whole
          ∙ nothing_first later
          ∙ ap (λ users. and_then (Ok (record { users = users; groups = [] })) later) (sym c.new.ensures.items)
          ∙ ap (λ groups. and_then (Ok (record { users = c.new.result.items; groups = groups })) later) (sym c.new-2.ensures.items);
      shallow = shallow_first c.args.text.now c.outside-nesting.result lines (ap (λ nesting. nesting.depth) c.outside-nesting.ensures) whole;
    }

pub loop-line-preserved : goal.loop-line-preserved
loop-line-preserved c =
    let rest = lines_left (option_map (λ r. r.now) c.next.new.self.rest) in
    let line = c.in-Some.line.now in
    let number = c.saturating_add-number.result in
    let list = numbers_listed c.loop-line.numbers in
    record {
      said =
          c.loop-line.invariant.said
          ∙ ap (λ lines. and_then (Ok list) (said_from c.args.names.now c.loop-line.nesting (next_number c.loop-line.number) (shapes lines))) c.in-Some.ensures.steps
          ∙ ap (λ n. and_then (Ok list) (said_from c.args.names.now c.loop-line.nesting n (shapes (line ∷ rest)))) (sym c.saturating_add-number.ensures)
          ∙ listed_past c.args.names.now c.loop-line.nesting number line rest list (item_seen c.in_ok-item.item) c.in_ok-item.ensures.ok
          ∙ ap (λ nesting. and_then (Ok (joined list (item_seen c.in_ok-item.item))) (said_from c.args.names.now nesting (next_number number) (shapes rest))) (sym c.in_ok-item.ensures.past)
          ∙ ap (λ more. and_then (Ok more) (said_from c.args.names.now c.take_line.new.nesting (next_number number) (shapes rest))) (sym c.in_ok-add_item.ensures.ok);
      shallow =
          subst (λ nesting. nesting.depth + length (concat rest) ≤ length c.args.text.now) (sym c.in_ok-item.ensures.past)
          (shallow_past c.loop-line.nesting line rest (length c.args.text.now)
          (subst (λ lines. c.loop-line.nesting.depth + length (concat lines) ≤ length c.args.text.now) c.in-Some.ensures.steps c.loop-line.invariant.shallow));
    }

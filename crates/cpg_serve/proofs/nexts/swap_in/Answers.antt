use Rattle.std.proofs.Common.{◌≡◌, ◌∙◌, length, ap, rules, sym, subst, List, ℕ}
use Rattle.cpg_node.specs.Nodes.{NodeValue}
use Rattle.cpg_serve.specs.Carrying.{HaveMoved, IsFilled}
use Rattle.cpg_serve.proofs.Unbegun.{memory_why}
use Rattle.cpg_serve.proofs.nexts.swap_in.Goals as goal

pub take_over-requires-clause-numbers : goal.take_over-requires-clause-numbers
take_over-requires-clause-numbers c = ap (λ (l : List ℕ). length l) c.as_slice.ensures.value ∙ c.in_ok-numbers.ensures.count ∙ sym c.requires

pub returns-clause-ok : goal.returns-clause-ok
returns-clause-ok c = (
  subst (λ (y : NodeValue). IsFilled c.in_ok-numbers.numbers.items c.args.node.now c.args.next.now y) (sym c.swap.ensures.x_after) c.in_ok-numbers.ensures.ok,
  subst (λ (l : List ℕ). HaveMoved c.args.greeting.now l c.args.desks.now.items c.take_over.new.desks.items) c.as_slice.ensures.value c.in_ok-take_over.ensures.ok,
)

pub returns-in_err-numbers-clause-why : goal.returns-in_err-numbers-clause-why
returns-in_err-numbers-clause-why c = λ s list first.
    let why = c.in_err-numbers.ensures.why s list first in
    search rules

pub returns-in_err-take_over-clause-why : goal.returns-in_err-take_over-clause-why
returns-in_err-take_over-clause-why c = λ s list first.
    let why = memory_why s list c.args.node.now _ c.in_err-take_over.ensures.memory in
    search rules

use Rattle.std.proofs.Common.{◌≡◌, ◌∙◌, refl, ap, rules, sym, length, List}
use Rattle.std.proofs.lemmas.Result.{IfOk-weaker, on_err_weaker}
use Rattle.cpg_node.specs.Nodes.{NodeValue}
use Rattle.cpg_serve.specs.Telling.{DeskValue}
use Rattle.cpg_serve.specs.Serving.{greeting_of}
use Rattle.cpg_serve.specs.Carrying.{HaveMoved, IsFilled, IsNext}
use Rattle.cpg_serve.proofs.Moved.{as_many, either_way, moved_by}
use Rattle.cpg_serve.proofs.Unbegun.{range_why}
use Rattle.cpg_serve.proofs.served.renew_at.Goals as goal

pub returns-clause-ok : goal.returns-clause-ok
returns-clause-ok c =
    IfOk-weaker c.swap_in-numbers.result (λ numbers. IsFilled numbers.items c.args.node.now c.in_ok-next.next c.swap_in-numbers.new.node × HaveMoved c.greeting_in.result numbers.items c.args.desks.now.items c.swap_in-numbers.new.desks.items)
    (λ numbers. IsNext c.args.settings c.args.list.now numbers.items c.args.node.now c.swap_in-numbers.new.node × HaveMoved (greeting_of c.swap_in-numbers.new.node) numbers.items c.args.desks.now.items c.swap_in-numbers.new.desks.items)
    (λ numbers h. (
      h.0 c.args.settings c.args.list.now c.in_ok-next.ensures.ok,
      moved_by c.args.settings c.args.list.now numbers.items numbers.items c.greeting_in.result c.args.node.now c.swap_in-numbers.new.node c.args.desks.now.items c.swap_in-numbers.new.desks.items c.greeting_in.ensures refl
          (h.0 c.args.settings c.args.list.now c.in_ok-next.ensures.ok) h.1,
    )) c.swap_in-numbers.ensures.ok

pub returns-clause-count : goal.returns-clause-count
returns-clause-count c =
    either_way c.swap_in-numbers.result
    (IfOk-weaker c.swap_in-numbers.result (λ numbers. IsFilled numbers.items c.args.node.now c.in_ok-next.next c.swap_in-numbers.new.node × HaveMoved c.greeting_in.result numbers.items c.args.desks.now.items c.swap_in-numbers.new.desks.items)
    (λ numbers. length c.swap_in-numbers.new.desks.items ≡ length c.swap_in-numbers.new.node.clients)
    (λ numbers h. as_many c.args.settings c.args.list.now numbers.items c.args.node.now c.swap_in-numbers.new.node c.args.desks.now.items c.swap_in-numbers.new.desks.items c.greeting_in.result c.requires
    (h.0 c.args.settings c.args.list.now c.in_ok-next.ensures.ok) h.1) c.swap_in-numbers.ensures.ok)
    (on_err_weaker c.swap_in-numbers.result (λ same. ap (λ (l : List DeskValue). length l) same.1 ∙ c.requires ∙ sym (ap (λ (x : NodeValue). length x.clients) same.0)) c.swap_in-numbers.ensures.err)

pub returns-in_err-next-clause-why : goal.returns-in_err-next-clause-why
returns-in_err-next-clause-why c =
    let why = range_why c.args.settings c.args.list.now c.args.node.now _ c.in_err-next.ensures.why in
    search rules

pub returns-clause-why : goal.returns-clause-why
returns-clause-why c = c.swap_in-numbers.ensures.why c.args.settings c.args.list.now c.in_ok-next.ensures.ok

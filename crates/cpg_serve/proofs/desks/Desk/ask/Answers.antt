use Rattle.std.proofs.Common.{◌≡◌, sym, subst, ◌∙◌}
use Rattle.std.specs.Prelude.{IfOk}
use Rattle.cpg_ask.specs.Asks.{ask_seen}
use Rattle.cpg_node.specs.Calls.{submit_refusal}
use Rattle.cpg_serve.specs.Asking.{at_of, IsAt, goes_on, called}
use Rattle.cpg_serve.proofs.AtOnce.{if_ok, call_asked_is}
use Rattle.cpg_serve.proofs.desks.Desk.ask.Goals as goal

pub returns-in-Some-clause-ok : goal.returns-in-Some-clause-ok
returns-in-Some-clause-ok c =
    let s = at_of c.args.node.now c.args.self.now in
    let ask = ask_seen c.args.ask.now in
    if_ok c.call.result (call_asked_is c.args.conn s ask c.in-Some.call c.call.new.node c.call.new.self (sym c.in_ok-call_asked.ensures.ok ∙ c.in-Some.is))
    (subst (λ owed. IfOk c.call.result (λ done. (done ≡ goes_on (submit_refusal c.args.node.now c.args.conn c.in-Some.call)) × IsAt c.call.new.node c.call.new.self (called c.args.conn s owed c.in-Some.call))) c.to.ensures c.call.ensures.ok)

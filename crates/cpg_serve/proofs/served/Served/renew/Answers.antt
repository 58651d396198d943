use Rattle.std.proofs.Common.{◌≡◌, ℕ, Vec, inr, rules, subst, sym}
use Rattle.std.proofs.lemmas.Result.{IfErr-weaker, IfOk-weaker, on_err_weaker}
use Rattle.cpg_serve.specs.Alone.{LacksNone}
use Rattle.cpg_serve.specs.Carrying.{ComesToNext, IsRenewed}
use Rattle.cpg_serve.specs.Serving.{ServedValue}
use Rattle.cpg_serve.specs.Settling.{MovesTo, StaysLone}
use Rattle.cpg_serve.specs.Refusals.{WhyNotBegun, WhyNotRenewed}
use Rattle.cpg_serve.proofs.Refused.{err_both}
use Rattle.cpg_serve.proofs.There.{begun_lacks_none, moving_lacks_none}
use Rattle.cpg_serve.proofs.Unbegun.{not_at_rest}
use Rattle.cpg_serve.proofs.served.Served.renew.Goals as goal

pub returns-clause-ok : goal.returns-clause-ok
returns-clause-ok c =
    IfOk-weaker c.begin_next.result (λ numbers. IsRenewed c.args.settings c.args.list.now numbers.items c.settle.new.self c.begin_next.new.self)
    (λ numbers. ComesToNext c.args.settings c.args.list.now numbers.items c.args.self.now c.begin_next.new.self)
    (λ numbers renewed. (c.settle.new.self, (c.settle.ensures.moves, c.settle.ensures.lone), (c.in_ok-settle.ensures.still, c.in_ok-settle.ensures.told), renewed)) c.begin_next.ensures.ok

pub returns-clause-err : goal.returns-clause-err
returns-clause-err c = on_err_weaker c.begin_next.result (λ same. subst (MovesTo c.args.self.now) (sym same) c.settle.ensures.moves) c.begin_next.ensures.err

pub returns-clause-lone : goal.returns-clause-lone
returns-clause-lone c = on_err_weaker c.begin_next.result (λ same. subst (λ (y : ServedValue). StaysLone c.args.self.now.node.ring y.node.ring) (sym same) c.settle.ensures.lone) c.begin_next.ensures.err

pub returns-in_err-settle-clause-why : goal.returns-in_err-settle-clause-why
returns-in_err-settle-clause-why c = λ t placed is.
    let why = not_at_rest c.args.settings c.args.list.now c.args.self.now c.settle.new.self _ (c.in_err-settle.ensures.why t placed is) in
    search rules

pub returns-in_err-settle-clause-alone : goal.returns-in_err-settle-clause-alone
returns-in_err-settle-clause-alone c = λ a.
    let why = moving_lacks_none c.args.self.now.node.ring c.settle.new.self.node.ring _ (c.in_err-settle.ensures.why a.token a.placed a.lone) in
    search rules

pub returns-clause-alone : goal.returns-clause-alone
returns-clause-alone c = λ a.
    IfErr-weaker c.begin_next.result (λ why. WhyNotBegun c.args.settings c.args.list.now c.settle.new.self.node why) LacksNone
    (λ why k. begun_lacks_none c.args.settings c.args.list.now c.args.self.now c.settle.new.self why a (c.settle.ensures.moves, c.settle.ensures.lone) c.in_ok-settle.ensures.still k)
    c.begin_next.ensures.why

pub returns-clause-why : goal.returns-clause-why
returns-clause-why c = λ t placed is.
    IfErr-weaker c.begin_next.result (λ why. (c.begin_next.new.self ≡ c.settle.new.self) × WhyNotBegun c.args.settings c.args.list.now c.settle.new.self.node why)
    (λ why. WhyNotRenewed c.args.settings c.args.list.now c.args.self.now c.begin_next.new.self why)
    (λ why k. subst (λ (y : ServedValue). WhyNotRenewed c.args.settings c.args.list.now c.args.self.now y why) (sym k.0) (inr ((c.in_ok-settle.ensures.still, c.in_ok-settle.ensures.told), k.1)))
    (err_both _ _ c.begin_next.result c.begin_next.ensures.err c.begin_next.ensures.why)

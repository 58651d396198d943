use Rattle.std.proofs.Common.{◌≡◌, length, subst, suc, sym}
use Rattle.std.specs.Prelude.{IfErr}
use Rattle.std.proofs.lemmas.Result.{err_from_is_err_and}
use Rattle.cpg_node.specs.Calls.{connected}
use Rattle.cpg_serve.specs.Refusals.{WhyNotFirst}
use Rattle.cpg_serve.proofs.Unbegun.{first_why}
use Rattle.cpg_serve.proofs.nexts.first_node.Goals as goal

pub returns-in_err-connect-in-Ok-clause-why : goal.returns-in_err-connect-in-Ok-clause-why
returns-in_err-connect-in-Ok-clause-why c =
    let why = first_why c.args.settings c.default.result c.in_ok-list.list c.in-Ok.node
    (λ conn. (conn ≡ suc (length c.in-Ok.node.clients)) × (c.connect.new.self ≡ connected c.in-Ok.node 0 (record { uid = 0; gid = 0 }))) c.in_err-connect-in-Ok.field-0.0 c.in-Ok.ensures.1 c.in_err-connect-in-Ok.ensures.answer in
    let failed = err_from_is_err_and c.from_residual-in_err-connect-in-Ok.result c.from_residual-in_err-connect-in-Ok.ensures.1 in
    subst (λ r. IfErr r (λ w. WhyNotFirst c.args.settings w)) (sym failed.1) (subst (WhyNotFirst c.args.settings) (sym failed.2) why)

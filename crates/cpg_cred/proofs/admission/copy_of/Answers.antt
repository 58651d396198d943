use Rattle.std.proofs.Common.{ap, ◌∙◌}
use Rattle.cpg_cred.specs.Listed.{with_numbers}
use Rattle.cpg_cred.proofs.Growing.{made_anew}
use Rattle.cpg_cred.proofs.admission.copy_of.Goals as goal

pub returns-clause-ok : goal.returns-clause-ok
returns-clause-ok c =
    c.in_ok-add_each.ensures.ok
    ∙ ap (λ before. with_numbers before c.as_slice.result.now) c.new-copy.ensures.empty
    ∙ ap (with_numbers _) c.as_slice.ensures.keys
    ∙ made_anew c.args.numbers.now.keys c.as_slice.ensures.unique

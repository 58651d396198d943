use Rattle.std.proofs.Common.{◌≡◌, ◌∙◌, ap, reverse}
use Rattle.std.proofs.lemmas.List.{reverse-reverse}
use Rattle.cpg_draw.specs.Passed.{passed_in}
use Rattle.cpg_draw.proofs.Unions.{same_misses}
use Rattle.cpg_draw.proofs.misses.find_misses.Goals as goal

pub returns-clause-ok : goal.returns-clause-ok
returns-clause-ok c =
    let backwards : c.as_slice.result.now ≡ reverse (passed_in c.args.nodes c.args.arrows.now) = c.as_slice.ensures.value ∙ c.in_ok-backwards.ensures.ok in
    c.in_ok-misses.ensures.ok ∙ (ap reverse backwards ∙ (reverse-reverse (passed_in c.args.nodes c.args.arrows.now) ∙ same_misses c.args.nodes c.args.arrows.now))

use Rattle.std.proofs.Common.{inr, sym, ◌∙◌}
use Rattle.cpg_group.proofs.Beside.{cut_beside, cut_within}
use Rattle.cpg_group.proofs.places.is_cut.Goals as goal

pub returns-else-index-eq0-clause-cut : goal.returns-else-index-eq0-clause-cut
returns-else-index-eq0-clause-cut g c =
    λ before sorted. cut_beside g.T.Placed.place_of c.args.items.now c.args.last sorted c.args.index (inr (sym c.is_upto-else-index-eq0.ensures ∙ before)) (sym c.is_upto.ensures ∙ c.if-is_upto.false)

pub returns-else-index-eq0-clause-within : goal.returns-else-index-eq0-clause-within
returns-else-index-eq0-clause-within g c =
    λ before. cut_within g.T.Placed.place_of c.args.items.now c.args.last c.args.index (inr (sym c.is_upto-else-index-eq0.ensures ∙ before))

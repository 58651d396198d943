use Rattle.std.proofs.Common.{inr, ◌++◌, ◌∷◌, [], length, if◌then◌else◌, sym, ap, ◌∙◌}
use Rattle.cpg_entry.specs.Blocks.{laid}
use Rattle.cpg_entry.proofs.Laid.{laid_more, first_full}
use Rattle.cpg_entry.proofs.ledgers.lay.Goals as goal

pub returns-then-is_ok-clause-laid : goal.returns-then-is_ok-clause-laid
returns-then-is_ok-clause-laid c =
    let block = ap length c.requires.first ∙ first_full c.args.own.now.items c.requires.enough in
    let pushed = sym c.is_ok.ensures.value ∙ c.if-is_ok.true in
    let items = c.push.ensures.items ∙ ap (λ t. if t then c.args.blocks.now.items ++ c.args.block ∷ [] else c.args.blocks.now.items) pushed in
    inr (ap (λ l. length (laid l)) items ∙ laid_more c.args.blocks.now.items c.args.block block)

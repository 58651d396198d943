use Rattle.std.proofs.Common.{Some, length, slice_get, sym, subst, ap, ◌∙◌}
use Rattle.std.proofs.lemmas.Option.{slice_get-get_or}
use Rattle.cpg_entry.specs.Blocks.{IsBlock}
use Rattle.cpg_entry.proofs.Laid.{laid_at}
use Rattle.cpg_entry.proofs.ledgers.items_at.Goals as goal

pub returns-clause-count : goal.returns-clause-count
returns-clause-count c =
    ap length (c.as_slice.ensures.value ∙ ap (λ v. v.items) c.deref.ensures)
    ∙ subst IsBlock (sym c.index-blocks-index.is) (c.requires.blocks c.args.index c.index-blocks-index.result c.requires.within)

pub returns-clause-items : goal.returns-clause-items
returns-clause-items c = λ k low.
    let b = c.index-blocks-index.result in
    laid_at c.args.blocks.now b c.args.index k c.requires.blocks (slice_get-get_or c.args.blocks.now c.args.index b c.requires.within ∙ ap Some (sym c.index-blocks-index.is)) low
    ∙ ap (λ l. slice_get l k) (sym (c.as_slice.ensures.value ∙ ap (λ v. v.items) c.deref.ensures))

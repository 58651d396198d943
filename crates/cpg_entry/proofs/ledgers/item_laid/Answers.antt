use Rattle.std.proofs.Common.{◌≡◌, ◌+◌, ◌*◌, ◌/◌, ◌%◌, Some, slice_get, sym, ap, ◌∙◌, arith}
use Rattle.std.proofs.lemmas.Option.{slice_get-get_or}
use Rattle.cpg_entry.specs.Blocks.{laid}
use Rattle.cpg_entry.proofs.Laid.{length_laid}
use Rattle.cpg_entry.proofs.ledgers.item_laid.Goals as goal

pub items_at-block-requires-clause-within : goal.items_at-block-requires-clause-within
items_at-block-requires-clause-within c =
    let count = length_laid c.args.blocks.now c.requires.blocks in
    let within = c.requires.within in
    omega arith

pub returns : goal.returns
returns c =
    let full = c.items_at-block.ensures.count in
    let index : c.args.index ≡ 256 * (c.args.index / 256) + c.args.index % 256 = omega arith in
    ap (slice_get (laid c.args.blocks.now)) index
    ∙ (c.items_at-block.ensures.items (c.args.index % 256) (omega arith)
    ∙ (slice_get-get_or c.items_at-block.result.now (c.args.index % 256) c.index-block-index.result (omega arith)
    ∙ ap Some (sym c.index-block-index.is)))

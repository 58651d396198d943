use Rattle.std.proofs.Common.{◌∙◌, sym, subst}
use mathlib.Core.Option.{none}
use mathlib.Core.List.{IsPrefix}
use Rattle.atomic_table.specs.Table.{step}
use Rattle.cpg_board.specs.declared.words.View.{View}
use Rattle.cpg_history.proofs.Moves.{has_word_of, catches}
use Rattle.cpg_history.proofs.histories.History.catch.Goals as goal

pub load-requires : goal.load-requires
load-requires g c =
    let l = c.line.ensures in
    (c.pen.invariant.0 ∙ sym l.table, has_word_of _ _ l.table l.words, catches _ _ _ c.pen.inside.seat.me (step c.line.result.now.shared.table_id.slots 0 0 0 none) (subst (λ (v : View). IsPrefix v.seen v.also) (sym c.pen.view_is) c.requires))

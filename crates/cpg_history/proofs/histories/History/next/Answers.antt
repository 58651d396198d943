use Rattle.std.proofs.Common.{◌<◌, ◌∙◌, sym, subst}
use Rattle.cpg_board.specs.declared.words.View.{View}
use Rattle.cpg_history.proofs.Moves.{has_word_of, next}
use Rattle.cpg_history.proofs.histories.History.next.Goals as goal

pub split_seat-seat-requires : goal.split_seat-seat-requires
split_seat-seat-requires g c =
    let l = c.line.ensures in
    (c.pen.invariant.0 ∙ sym l.table, has_word_of _ _ l.table l.words, next _ _ _ (subst (λ (v : View). v.from < v.to) (sym c.pen.view_is) c.requires))

use Rattle.std.proofs.Common.{◌∙◌, sym}
use Rattle.cpg_history.proofs.Moves.{has_word_of, tells}
use Rattle.cpg_history.proofs.histories.History.tell.Goals as goal

pub join_seat-requires : goal.join_seat-requires
join_seat-requires g c =
    let l = c.line.ensures in
    let s = c.into_seat-seat.ensures in
    (c.pen.invariant.0 ∙ sym l.table, s.0 ∙ (c.front.invariant.0 ∙ sym l.table), s.3, has_word_of _ _ l.table l.words, tells _ _ _ _ _)

use Rattle.std.proofs.Common.{◌∙◌, sym}
use Rattle.cpg_history.proofs.Moves.{has_word_of, fronts}
use Rattle.cpg_history.proofs.histories.History.front.Goals as goal

pub split_seat-seat-requires : goal.split_seat-seat-requires
split_seat-seat-requires g c =
    let l = c.line.ensures in
    (c.pen.invariant.0 ∙ sym l.table, has_word_of _ _ l.table l.words, fronts _ _ g.N.Numbers.number _)

use Rattle.std.proofs.Common.{◌∙◌, sym, ap}
use Rattle.atomic_table.specs.declared.badge.Badge.{Badge}
use Rattle.cpg_board.specs.declared.words.View.{View}
use Rattle.cpg_history.proofs.Moves.{has_word_of, fronts}
use Rattle.cpg_history.proofs.histories.History.again.Goals as goal

pub split_seat-other-requires : goal.split_seat-other-requires
split_seat-other-requires g c =
    let l = c.line.ensures in
    let s = c.into_seat-seat.ensures in
    (s.0 ∙ (ap (λ (b : Badge View). b.table_id) c.replace-badge.ensures.value ∙ (c.front.invariant.0 ∙ sym l.table)), has_word_of _ _ l.table l.words, fronts _ _ g.N.Numbers.number _)

use Rattle.std.proofs.Common.{◌∙◌, sym}
use mathlib.Core.Option.{none}
use Rattle.atomic_table.specs.Table.{step}
use Rattle.cpg_history.proofs.Moves.{has_word_of, looks}
use Rattle.cpg_history.proofs.histories.History.observe.Goals as goal

pub load-requires : goal.load-requires
load-requires g c =
    let l = c.line.ensures in
    (c.pen.invariant.0 ∙ sym l.table, has_word_of _ _ l.table l.words, looks _ _ _ c.pen.inside.seat.me (step c.line.result.now.shared.table_id.slots 0 0 0 none))

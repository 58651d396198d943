use Rattle.std.proofs.Common.{◌∙◌, sym, subst}
use mathlib.Core.Option.{none}
use Rattle.atomic_table.specs.Table.{step}
use Rattle.cpg_world_laws.specs.Worlds.{node_in}
use Rattle.cpg_board.specs.Words.{Owns}
use Rattle.cpg_history.proofs.Moves.{adds, enters, has_middle_of}
use Rattle.cpg_history.proofs.histories.History.add.Goals as goal

pub fetch_add-requires : goal.fetch_add-requires
fetch_add-requires g c =
    let l = c.line.ensures in
    let owns = subst (λ v. Owns v (node_in g.E.Happens.event)) (sym c.pen.view_is) c.requires in
    (c.pen.invariant.0 ∙ sym l.table, has_middle_of _ _ l.table l.words, adds (l.key ∙ (sym c.is_counted.ensures ∙ c.if-is_counted.true)) g.E.Happens.event _ _ _ (step c.line.result.now.shared.table_id.slots 8 1 0 none) owns)

pub load-requires : goal.load-requires
load-requires g c =
    let l = c.line.ensures in
    let owns = subst (λ v. Owns v (node_in g.E.Happens.event)) (sym c.pen.view_is) c.requires in
    (c.pen.invariant.0 ∙ sym l.table, has_middle_of _ _ l.table l.words, enters (l.key ∙ (sym c.is_counted.ensures ∙ c.if-is_counted.false)) g.E.Happens.event _ _ _ (step c.line.result.now.shared.table_id.slots 8 0 0 none) owns)

use Rattle.std.proofs.Common.{◌≡◌, ℕ, ◌+◌, ◌<◌, ◌≤◌, List, drop, length}
use Rattle.cpg_world_laws.specs.Worlds.{WorldValue}
use Rattle.cpg_draw.specs.declared.arrows.Arrow.{Arrow}
use Rattle.cpg_draw.specs.declared.rows.Row.{Row}
use Rattle.cpg_draw.specs.Excerpts.{first_spot}
use Rattle.cpg_draw.specs.Steps.{AreRows}
use Rattle.cpg_draw.proofs.pictures.draw_rows.Given as goal

abbrev pub invariant-loop-command : goal.invariant-loop-command
invariant-loop-command l = record {
  counted : l.next.row ≡ l.command-index + 1;
  some : 0 < l.next.place;
  few : l.next.place ≤ l.next.row;
  drawn : (last : List Arrow) (world : WorldValue) (whole : List Row) → AreRows l.excerpt l.next l.arrows.items l.world (drop l.command-index l.commands) l.rows.items last world whole
      → AreRows l.excerpt first_spot l.initial.arrows.items l.initial.world l.commands l.initial.rows.items last world whole;
  nodes : length l.world.nodes ≡ length l.initial.world.nodes;
}

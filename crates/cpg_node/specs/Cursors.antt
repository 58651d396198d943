-- Up to where a connection's inbox was looked through.
use Rattle.std.specs.Prelude.{ℕ, ◌≡◌, ◌≤◌, ◌*◌, List, length}
use Rattle.std.specs.List.{flat_map, range_with_len}
use Rattle.cpg_record.specs.declared.connections.ConnId.{ConnId}
use Rattle.cpg_record.specs.declared.events.Event.{Event}
use Rattle.cpg_record.specs.declared.records.Record.{Record}
use Rattle.cpg_record.specs.Events.{events}
use Rattle.cpg_node.specs.declared.cursors.Cursor.{Cursor}

-- what the places from 1 to that one tell the connection
abbrev pub told_up_to : List Record → ConnId → ℕ → List Event
told_up_to records conn place = flat_map (λ p. events records p conn) (range_with_len 1 place)

-- The cursor stands at a judged place, or before all, and counts what the places up to it tell its connection.
pub record IsCursor (records : List Record) (cursor : Cursor) : Type 0 where
  pub within : cursor.place ≤ length records
  pub counted : cursor.told ≡ length (told_up_to records cursor.conn cursor.place)
  pub few : cursor.told ≤ 2 * cursor.place

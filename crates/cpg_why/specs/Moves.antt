-- at which place each connection last joined, left or ended
use Rattle.std.specs.Prelude.{ℕ, ◌≡◌, Bool, ◌&&◌, List, Option, Some, None, if◌then◌else◌}
use Rattle.std.specs.List.{fold, enumerate_from}
use Rattle.std.specs.Map.{lookup}
use Rattle.cpg_entry.specs.Entries.{is_move}
use Rattle.cpg_record.specs.declared.connections.ConnId.{ConnId}
use Rattle.cpg_record.specs.declared.records.Record.{Record}
use Rattle.cpg_record.specs.Connections.{conn_of, is_conn}
use Rattle.cpg_record.specs.Membership.{is_allowed}

-- the record is an allowed join, leave or end of that connection
abbrev pub moves : ConnId → Record → Bool
moves conn r = is_allowed r.verdict && is_move r.entry.op && is_conn (conn_of r.entry) conn

-- the place of the record where it moves the connection, else the place before
abbrev pub moved : ConnId → Option ℕ → ℕ × Record → Option ℕ
moved conn last p = if moves conn p.1 then Some p.0 else last

-- the place at which the connection last joined, left or ended, if it did
abbrev pub last_move : List Record → ConnId → Option ℕ
last_move records conn = fold (moved conn) None (enumerate_from 1 records)

-- connections with the places of their last moves
abbrev pub KeptMoves : Type 0
KeptMoves = List (ConnId × ℕ)

-- the place that is kept for a connection
abbrev pub kept_move : KeptMoves → ConnId → Option ℕ
kept_move kept conn = lookup (is_conn conn) kept

-- the kept places are those that the records make
abbrev pub AreLastMoves : KeptMoves → List Record → Type 0
AreLastMoves kept records = (conn : ConnId) → kept_move kept conn ≡ last_move records conn

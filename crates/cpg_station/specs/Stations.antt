-- What a station is seen as, and what is true of every one.
use Rattle.std.specs.Prelude.{◌≡◌, ◌+◌, ◌≤◌, Bool, List, length}
use Rattle.cpg_record.specs.declared.records.Record.{Record}
use Rattle.cpg_node.specs.Nodes as nodes
use Rattle.cpg_record.specs.Places.{Begins}
use Rattle.cpg_board.specs.Seats.{SeatValue, records_of}

-- What lies under a node's lock.
pub record StationValue : Type 0 where
  pub node : nodes.NodeValue
  pub seat : SeatValue
  pub halted : Bool

-- the records of what the node delivered
abbrev pub audit_of : nodes.NodeValue → List Record
audit_of node = nodes.records_of node

-- those records begin what the seat knows, which is at most one more
abbrev pub Keeps : List Record → SeatValue → Type 0
Keeps audit seat = Begins audit (records_of seat) × (length seat ≤ length audit + 1)

-- all but the node is as it was
abbrev pub KeepsRest : StationValue → StationValue → Type 0
KeepsRest old new = (new.seat ≡ old.seat) × (new.halted ≡ old.halted)

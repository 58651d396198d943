-- What a station's delivery does.
use Rattle.std.specs.Prelude.{ℕ, ◌≡◌, ◌≢◌, ◌⊎◌, ◌<◌, suc, true, List, length, Option, Some}
use Rattle.cpg_cred.specs.declared.refusals.Refusal.{Refusal}
use Rattle.cpg_cred.specs.declared.refusals.Refusal.TheVariants.{Memory, BoardFull, Differs}
use Rattle.cpg_record.specs.declared.records.Record.{Record}
use Rattle.cpg_record.specs.Places.{record_at}
use Rattle.cpg_node.specs.Calls.{next_record, node_after_delivery}
use Rattle.cpg_board.specs.Seats.{SeatValue, records_of}
use Rattle.cpg_station.specs.Stations.{StationValue, audit_of}

-- the place that the node delivers next
abbrev pub station_place : StationValue → ℕ
station_place s = suc (length (audit_of s.node))

-- a record that is another than the wanted one
abbrev pub IsAnother : Option Record → Record → Type 0
IsAnother found wanted = (standing : Record) × (found ≡ Some standing) × (standing ≢ wanted)

-- the seat has another record at the next place than the node's judgement of it
abbrev pub FindsAnother : StationValue → Type 0
FindsAnother s = (wanted : Record) × (next_record s.node ≡ Some wanted) × IsAnother (record_at (records_of s.seat) (station_place s)) wanted

-- A place is delivered: the judgement of the node's next entry is the record that the seat has there, and
-- the node is one place further.
pub record Delivers (place : ℕ) (old new : StationValue) : Type 0 where
  pub next : place ≡ station_place old
  pub stands : next_record old.node ≡ record_at (records_of new.seat) place
  pub node : new.node ≡ node_after_delivery old.node
  pub halted : new.halted ≡ old.halted

-- the seat is as it was, or it knows the node's judgement of the next place, which stands there
abbrev pub KnowsNoOther : StationValue → SeatValue → Type 0
KnowsNoOther s after = (after ≡ s.seat) ⊎ ((wanted : Record) × (next_record s.node ≡ Some wanted) × (record_at (records_of after) (station_place s) ≡ Some wanted))

-- Nothing is delivered, and the node is as it was. Memory: the seat is too, or the judgement stands and the seat knows it. BoardFull: all
-- is as it was, and the seat knows every cell. Differs: another record stands at the place, and halted is set.
abbrev pub DeliverRefuses : List ℕ → StationValue → Refusal → StationValue → Type 0
DeliverRefuses cells old Memory new = (new.node ≡ old.node) × (new.halted ≡ old.halted) × KnowsNoOther old new.seat
DeliverRefuses cells old BoardFull new = (new ≡ old) × (length old.seat ≡ length cells)
DeliverRefuses cells old Differs new = (new.node ≡ old.node) × (new.halted ≡ true) × FindsAnother new
DeliverRefuses cells old _ new = ⊥

-- Why a judgement does not come to stand at the place, and what that leaves of the seat. Memory: it is as it
-- was, and knows neither the place nor every cell. BoardFull: it is as it was, and knows every cell. Differs: it
-- knows another record there.
abbrev pub StandsNot : List ℕ → SeatValue → ℕ → Record → Refusal → SeatValue → Type 0
StandsNot board before place wanted Memory after = (after ≡ before) × (length before < length board) × (length before < place)
StandsNot board before place wanted BoardFull after = (after ≡ before) × (length before ≡ length board)
StandsNot board before place wanted Differs after = IsAnother (record_at (records_of after) place) wanted
StandsNot board before place wanted _ after = ⊥

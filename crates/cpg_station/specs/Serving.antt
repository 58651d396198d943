-- What a station is to the sessions at its node. A session knows its connection, and has a seat of its own.
use Rattle.std.specs.Prelude.{ℕ, suc, ◌≡◌, ◌⊎◌, ◌<◌, ◌≤◌, true, false, List, length, Option, Some, None, Result, Ok, Err}
use Rattle.std.specs.List.{slice_get}
use Rattle.cpg_cred.specs.declared.refusals.Refusal.{Refusal}
use Rattle.cpg_cred.specs.declared.refusals.Refusal.TheVariants.{Memory, BadName, TooLong, QueueFull, Behind, Stopped, Denied}
use Rattle.cpg_entry.specs.declared.calls.Call.{Call}
use Rattle.cpg_rules.specs.declared.rules.Asker.{Asker}
use Rattle.cpg_record.specs.declared.events.Event.{Event}
use Rattle.cpg_record.specs.declared.records.Record.{Record}
use Rattle.cpg_record.specs.Events.{inbox}
use Rattle.cpg_record.specs.Listings.{listing, AreGroups}
use Rattle.cpg_node.specs.declared.connections.Connection.{Connection}
use Rattle.cpg_node.specs.Answers.{connection_of}
use Rattle.cpg_node.specs.Calls.{took, call_refusal}
use Rattle.cpg_node.specs.Nodes.{NodeValue}
use Rattle.cpg_record.specs.Places.{Begins}
use Rattle.cpg_board.specs.Seats.{SeatValue, records_of}
use Rattle.cpg_station.specs.Stations.{StationValue, audit_of}

-- A session's seat has been brought up: the station's records begin what it knows, and are no fewer than
-- what it knew before.
pub record BringsUp (s : StationValue) (before after : SeatValue) : Type 0 where
  pub running : s.halted ≡ false
  pub enough : length before ≤ length (audit_of s.node)
  pub front : Begins (audit_of s.node) (records_of after)

-- Why it has not been. Stopped: the station is halted. Behind: it has only that many records, fewer than
-- the seat knows. Memory: neither, and the seat has to grow.
abbrev pub StaysDown : StationValue → SeatValue → Refusal → Type 0
StaysDown s before Stopped = s.halted ≡ true
StaysDown s before (Behind reached) = (s.halted ≡ false) × (reached ≡ length (audit_of s.node)) × (reached < length before)
StaysDown s before Memory = (s.halted ≡ false) × (length before ≤ length (audit_of s.node)) × (length before < length s.seat)
StaysDown s before _ = ⊥

-- Why a session's call is not answered: as its seat has not been brought up; or Memory, by a station that is neither halted nor behind.
abbrev pub GivesNot : StationValue → SeatValue → Refusal → Type 0
GivesNot s before Memory = (s.halted ≡ false) × (length before ≤ length (audit_of s.node))
GivesNot s before why = StaysDown s before why

-- the node's open connection of that number is as the session knows it
abbrev pub IsKnown : NodeValue → Connection → Type 0
IsKnown node who = connection_of node who.id.conn ≡ Some who

-- the halted station
abbrev pub halted_of : StationValue → StationValue
halted_of s = record { node = s.node; seat = s.seat; halted = true }

-- the station is as it was, or halted
abbrev pub StaysOrHalts : StationValue → StationValue → Type 0
StaysOrHalts old new = (new ≡ old) ⊎ (new ≡ halted_of old)

-- A station that finds the connection other than the session knows it is halted, and else as it was.
pub record KeepsWatch (old : StationValue) (who : Connection) (new : StationValue) : Type 0 where
  pub known : IsKnown old.node who → new ≡ old
  pub unknown : ¬ IsKnown old.node who → new ≡ halted_of old

-- the station where the session's connection has taken an event more, if there was one
abbrev pub taken_from : StationValue → Connection → StationValue
taken_from s who = record { node = took s.node who.id.conn; seat = s.seat; halted = s.halted }

-- the station with its node changed
abbrev pub with_node : StationValue → NodeValue → StationValue
with_node s node = record { node = node; seat = s.seat; halted = s.halted }

-- the station is not halted, and its open connection of that number is as the session knows it
abbrev pub HearsSession : StationValue → Connection → Type 0
HearsSession s who = (s.halted ≡ false) × IsKnown s.node who

-- the session's connection once the event was taken, if there was one
abbrev pub moved_on : Connection → Option Event → Connection
moved_on who None = who
moved_on who (Some event) = record { id = who.id; pid = who.pid; cred = who.cred; taken = suc who.taken }

-- why a session's call isn't put among those that wait
abbrev pub SubmitRefuses : Call → Refusal → Type 0
SubmitRefuses call BadName = call_refusal call ≡ Some BadName
SubmitRefuses call TooLong = call_refusal call ≡ Some TooLong
SubmitRefuses call QueueFull = call_refusal call ≡ None
SubmitRefuses call Memory = call_refusal call ≡ None
SubmitRefuses call Stopped = Unit {0}
SubmitRefuses call _ = ⊥

-- the session, as rules see it
abbrev pub asker_of : Connection → Asker
asker_of who = record { node = who.id.node; cred = who.cred }

-- it is so over some of the first records that the seat knows now, no fewer than it knew before
abbrev pub OverFront : SeatValue → SeatValue → (List Record → Type 0) → Type 0
OverFront before after Says = (front : List Record) × Begins front (records_of after) × (length before ≤ length front) × Says front

-- What `take_for` answers: the item of the session's inbox that follows those taken, if there is one.
abbrev pub IsTakeFor : Connection → SeatValue → StationValue → SeatValue → Result (Option Event) Refusal → Type 0
IsTakeFor who before s after (Ok event) = OverFront before after (λ front. event ≡ slice_get (inbox front who.id) who.taken)
IsTakeFor who before s after (Err why) = GivesNot s before why

-- the inbox of the session's connection, over what the node has delivered, ends at what it took; and the seat knows all that the node has delivered
abbrev pub IsAtEnd : NodeValue → Connection → SeatValue → Type 0
IsAtEnd node who seat = (slice_get (inbox (audit_of node) who.id) who.taken ≡ None) × Begins (audit_of node) (records_of seat)

-- What `list_for` answers: the listing, or the denial.
abbrev pub IsListFor : Connection → List ℕ → SeatValue → StationValue → SeatValue → Result (List (ℕ × ℕ)) Refusal → Type 0
IsListFor who g before s after (Ok list) = OverFront before after (λ front. listing front (asker_of who) g ≡ Ok list)
IsListFor who g before s after (Err (Denied by)) = OverFront before after (λ front. listing front (asker_of who) g ≡ Err by)
IsListFor who g before s after (Err why) = GivesNot s before why

-- it is so where the refusal is a denial
abbrev pub WhereDenied : Type 0 → Refusal → Type 0
WhereDenied It (Denied by) = It
WhereDenied It _ = Unit {0}

-- What `groups_for` answers: the names.
abbrev pub IsGroupsFor : Connection → SeatValue → StationValue → SeatValue → Result (List (List ℕ)) Refusal → Type 0
IsGroupsFor who before s after (Ok names) = OverFront before after (λ front. AreGroups front (asker_of who) names)
IsGroupsFor who before s after (Err why) = GivesNot s before why

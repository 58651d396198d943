-- How a station takes a process in, beside the list that all stations are to hold.
use Rattle.std.specs.Prelude.{ℕ, ◌≡◌, ◌≢◌, ◌⊎◌, Bool, true, false, Some, None, IsSome, is_some}
use Rattle.cpg_cred.specs.Admission.{via_of}
use Rattle.cpg_cred.specs.Listed.{Listed}
use Rattle.cpg_cred.specs.declared.credentials.Cred.{Cred}
use Rattle.cpg_cred.specs.declared.refusals.Refusal.{Refusal}
use Rattle.cpg_cred.specs.declared.refusals.Refusal.TheVariants.{Memory, Access, ConnectionsFull, Stopped}
use Rattle.cpg_node.specs.declared.connections.Connection.{Connection}
use Rattle.cpg_node.specs.Calls.{connect_refusal, connected}
use Rattle.cpg_station.specs.Serving.{halted_of}
use Rattle.cpg_station.specs.Stations.{StationValue}

-- the list lets the credentials in
abbrev pub Accepts : Listed → Cred → Type 0
Accepts list cred = IsSome (via_of list cred)

-- the connection of a process that was let in just now
abbrev pub newcomer : ℕ → ℕ → ℕ → Cred → Connection
newcomer node conn pid cred = record { id = record { node = node; conn = conn }; pid = pid; cred = cred; taken = 0 }

-- the list lets the process in, and this is its connection
abbrev pub IsAdmitted : Listed → ℕ → ℕ → Cred → Connection → Type 0
IsAdmitted list node pid cred who = Accepts list cred × (who ≡ newcomer node who.id.conn pid cred)

-- the station has one connection more, of that process
abbrev pub with_newcomer : StationValue → ℕ → Cred → StationValue
with_newcomer s pid cred = record { node = connected s.node pid cred; seat = s.seat; halted = s.halted }

-- the station is not the one that is asked for: its own list lets the credentials in where the given one doesn't, or the other way round, or
-- its node has another number
abbrev pub IsOther : Listed → ℕ → Cred → StationValue → Type 0
IsOther list node cred s = (is_some (via_of list cred) ≢ is_some (via_of s.node.list cred)) ⊎ (s.node.ring.node ≢ node)

-- Stopped: the station was halted, and is as it was; or it is not the one that is asked for, and is halted, with the connection if it let it in.
abbrev pub StopsAdmitting : Listed → ℕ → ℕ → Cred → StationValue → StationValue → Type 0
StopsAdmitting list node pid cred old new =
    ((old.halted ≡ true) × (new ≡ old))
    ⊎ (IsOther list node cred old × ((new ≡ halted_of old) ⊎ (new ≡ halted_of (with_newcomer old pid cred))))

-- Why it doesn't. Access: the list doesn't let the credentials in. ConnectionsFull and Memory: it does; and the station is as it was.
abbrev pub AdmitsNot : Listed → ℕ → ℕ → Cred → StationValue → Refusal → StationValue → Type 0
AdmitsNot list node pid cred old Stopped new = StopsAdmitting list node pid cred old new
AdmitsNot list node pid cred old Access new = (¬ Accepts list cred) × (new ≡ old)
AdmitsNot list node pid cred old ConnectionsFull new = Accepts list cred × (connect_refusal old.node cred ≡ Some ConnectionsFull) × (new ≡ old)
AdmitsNot list node pid cred old Memory new = Accepts list cred × (connect_refusal old.node cred ≡ None) × (new ≡ old)
AdmitsNot list node pid cred old _ new = ⊥

-- whether the refusal is Access
abbrev pub is_shut : Refusal → Bool
is_shut Access = true
is_shut why = false

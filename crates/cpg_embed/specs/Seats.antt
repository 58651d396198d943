-- The places of the joins by which connections are members.
use Rattle.std.specs.Prelude.{◌≡◌, ◌⊎◌, ℕ, suc, Bool, true, false, not, ◌&&◌, List, [], ◌∷◌, ◌++◌, length, Option, Some, None, if◌then◌else◌}
use Rattle.std.specs.List.{list_any, slice_get}
use Rattle.cpg_cred.specs.declared.refusals.Refusal.TheVariants as refusal
use Rattle.cpg_entry.specs.declared.calls.Call.TheVariants.{Join}
use Rattle.cpg_entry.specs.declared.calls.Op.{Op}
use Rattle.cpg_entry.specs.declared.calls.Op.TheVariants.{Act}
use Rattle.cpg_record.specs.declared.connections.ConnId.{ConnId}
use Rattle.cpg_record.specs.declared.records.Record.{Record}
use Rattle.cpg_record.specs.Connections.{conn_of, is_conn}
use Rattle.cpg_record.specs.Membership.{is_allowed, ends}
use Rattle.cpg_node.specs.Nodes.{records_of}
use Rattle.cpg_cred.specs.Shown.{number}
use Rattle.cpg_embed.specs.Endpoints.{EndpointValue}
use Rattle.cpg_embed.specs.declared.statuses.TheConstants.{OK, NONE}

-- a join
abbrev pub is_join : Op → Bool
is_join (Act (Join group)) = true
is_join _ = false

-- the record is an allowed join
abbrev pub seats_one : Record → Bool
seats_one r = is_allowed r.verdict && is_join r.entry.op

-- the place of a record that is an allowed join which no later record ends
abbrev pub seat_at : ℕ → Record → List Record → List ℕ
seat_at place r later = if seats_one r && not (list_any (ends (conn_of r.entry)) later) then place ∷ [] else []

-- the places of such records, ascending, where the first record stands at that place
abbrev pub seats_from : ℕ → List Record → List ℕ
seats_from place [] = []
seats_from place (r ∷ later) = seat_at place r later ++ seats_from (suc place) later

-- the connections are those that a record ends
abbrev pub AreEnded : List ConnId → List Record → Type 0
AreEnded conns records = (conn : ConnId) → list_any (is_conn conn) conns ≡ list_any (ends conn) records

-- Seats: the places are kept and their number told, or Memory.
abbrev pub AreSeated : EndpointValue → List ℕ → ℕ → ℕ → EndpointValue → Type 0
AreSeated e seats status count new =
    ((status ≡ OK) × (count ≡ length seats) × (new ≡ record e { seats = Some seats })) ⊎ ((status ≡ number refusal.Memory) × (new ≡ e))

-- the places of the joins of all who are members
abbrev pub seats_of : EndpointValue → List ℕ
seats_of e = seats_from 1 (records_of e.node)

-- a place that was told, if there is one
abbrev pub seat_in : Option (List ℕ) → ℕ → Option ℕ
seat_in None index = None
seat_in (Some seats) index = slice_get seats index

-- A place is told, if it is there.
abbrev pub IsSeat : Option ℕ → ℕ → ℕ → Type 0
IsSeat None status place = status ≡ NONE
IsSeat (Some seat) status place = (status ≡ OK) × (place ≡ seat)

-- the logs of connections, as they are kept beside the records: each one's own places, with its groups
use Rattle.std.specs.Prelude.{ℕ, ◌≡◌, ◌≤◌, List, [], map, take, All, Option, Some, None, if◌then◌else◌}
use Rattle.std.specs.Map.{keys_of, lookup}
use Rattle.smallvec.specs.SmallVec.{SmallVec}
use Rattle.cpg_entry.specs.declared.calls.Call.TheVariants.{Join, Leave}
use Rattle.cpg_entry.specs.declared.calls.Op.{Op}
use Rattle.cpg_entry.specs.declared.calls.Op.TheVariants.{Act, Gone}
use Rattle.cpg_record.specs.declared.connections.ConnId.{ConnId}
use Rattle.cpg_record.specs.declared.records.Record.{Record}
use Rattle.cpg_record.specs.Connections.{conns_of, is_conn}
use Rattle.cpg_record.specs.Judging.{entries_of}
use Rattle.cpg_record.specs.Membership.{group_of, is_allowed}
use Rattle.cpg_record.specs.Nexts.{is_made_by}
use Rattle.cpg_record.specs.Places.{places_of, record_at}
use Rattle.cpg_group.specs.declared.logs.Stop.{Stop}

-- the group that an op joins
abbrev pub joined_by : Op → Option (List ℕ)
joined_by (Act (Join g)) = Some g
joined_by _ = None

-- the group that the record joins, if one is there and joins one
abbrev pub joined_in : Option Record → Option (List ℕ)
joined_in None = None
joined_in (Some r) = joined_by r.entry.op

-- the group that the record at the place joins, if it joins one
abbrev pub group_at : List Record → ℕ → Option (List ℕ)
group_at records place = joined_in (record_at records place)

-- the place of a join that is no later than the stop, and gives the group that the connection is in after the stop
abbrev pub StandsBy : List Record → ConnId → Stop → Type 0
StandsBy records conn stop = (stop.join ≤ stop.place) × (group_at records stop.join ≡ group_of (take stop.place records) conn)

-- the stops of a connection: its own places, each with the join that it stands by after it
abbrev pub IsConnectionLog : List Record → ConnId → List Stop → Type 0
IsConnectionLog records conn log =
    (map (λ stop. stop.place) log ≡ places_of (is_made_by conn) records) × All (StandsBy records conn) log

-- the records among which a connection is followed, and the connection
pub record ConnectionLogValue : Type 0 where
  pub records : List Record
  pub conn : ConnId

-- the place of the join that a connection of that group stands by after its allowed op at the place, where it
-- stood by that one before
abbrev pub join_by : Op → ℕ → Option (List ℕ) → ℕ → ℕ
join_by (Act (Join g)) place None standing = place
join_by (Act (Join g)) place (Some h) standing = standing
join_by (Act Leave) place group standing = 0
join_by Gone place group standing = 0
join_by _ place group standing = standing

-- the same after its record: a denied entry changes nothing
abbrev pub join_after : Record → ℕ → Option (List ℕ) → ℕ → ℕ
join_after r place group standing = if is_allowed r.verdict then join_by r.entry.op place group standing else standing

-- connections with their logs
abbrev pub KeptLogs : Type 0
KeptLogs = List (ConnId × SmallVec Stop)

-- the stops of the log that is found, and none where there is none
abbrev pub or_no_log : Option (SmallVec Stop) → List Stop
or_no_log None = []
or_no_log (Some log) = log.items

-- the log that is kept for a connection
abbrev pub kept_log : KeptLogs → ConnId → List Stop
kept_log kept conn = or_no_log (lookup (is_conn conn) kept)

-- the kept logs are those that the records make, of the connections of their entries in turn
abbrev pub AreConnectionLogs : KeptLogs → List Record → Type 0
AreConnectionLogs kept records =
    (keys_of kept ≡ conns_of (entries_of records)) × ((conn : ConnId) → IsConnectionLog records conn (kept_log kept conn))

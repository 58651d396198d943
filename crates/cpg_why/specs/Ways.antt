-- the way of a connection: its own entries, and the changes of its group's members that it was told
use Rattle.std.specs.Prelude.{ℕ, List, [], ◌∷◌, ◌++◌, length, Option, Some, None, if◌then◌else◌}
use Rattle.std.specs.List.{flat_map, range_with_len}
use Rattle.cpg_record.specs.declared.connections.ConnId.{ConnId}
use Rattle.cpg_record.specs.declared.events.Event.{Event}
use Rattle.cpg_record.specs.declared.events.Event.TheVariants.{Change}
use Rattle.cpg_record.specs.declared.records.Record.{Record}
use Rattle.cpg_record.specs.Connections.{conn_of, is_conn}
use Rattle.cpg_record.specs.Events.{events}
use Rattle.cpg_record.specs.Places.{record_at}
use Rattle.cpg_why.specs.declared.findings.Finding.{Finding}
use Rattle.cpg_why.specs.declared.findings.Finding.TheVariants.{Made, Heard}

-- the entry of the record of a place, if there is one and the connection made it
abbrev pub made_by : ConnId → ℕ → Option Record → List Finding
made_by conn place None = []
made_by conn place (Some r) = if is_conn (conn_of r.entry) conn then Made place ∷ [] else []

-- a change of a group's members, which the connection is told
abbrev pub change_in : ConnId → Event → List Finding
change_in conn (Change place g members left joined) = Heard conn (Change place g members left joined) ∷ []
change_in conn _ = []

-- what a place has of a connection
abbrev pub way_at : List Record → ConnId → ℕ → List Finding
way_at records conn place = made_by conn place (record_at records place) ++ flat_map (change_in conn) (events records place conn)

-- what each place has of it, in order
abbrev pub way_of : List Record → ConnId → List Finding
way_of records conn = flat_map (way_at records conn) (range_with_len 1 (length records))

-- what is found of what is asked of entries, and the records that it speaks of
use Rattle.std.specs.Prelude.{ℕ, ◌-◌, Bool, not, List, [], ◌∷◌, take, slice_get, Option, Some, None, option_map, if◌then◌else◌}
use Rattle.std.specs.List.{flat_map}
use Rattle.cpg_entry.specs.declared.entries.Entry.{Entry}
use Rattle.cpg_record.specs.declared.connections.ConnId.{ConnId}
use Rattle.cpg_record.specs.declared.records.Record.{Record}
use Rattle.cpg_record.specs.Connections.{conns_of}
use Rattle.cpg_record.specs.Events.{inbox}
use Rattle.cpg_record.specs.Judging.{judged}
use Rattle.cpg_record.specs.Membership.{is_allowed}
use Rattle.cpg_record.specs.Places.{places_of, record_at, records_before}
use Rattle.cpg_record.specs.Receiving.{place_of}
use Rattle.cpg_why.specs.declared.asking.Asked.{Asked}
use Rattle.cpg_why.specs.declared.asking.Asked.TheVariants.{Place, Denials, Connection, Told, To, ToProcess}
use Rattle.cpg_why.specs.declared.findings.Finding.{Finding}
use Rattle.cpg_why.specs.declared.findings.Finding.TheVariants.{Why}
use Rattle.cpg_why.specs.Deciding.{decided_of}
use Rattle.cpg_why.specs.Processes.{process_stands}
use Rattle.cpg_why.specs.Standings.{stand_at}
use Rattle.cpg_why.specs.Ways.{way_of}

-- why the entry of the record of a place was answered as it was, if there is one
abbrev pub why_by : List Record → ℕ → Option Record → List Finding
why_by before place None = []
why_by before place (Some r) = Why place (decided_of before r) ∷ []

-- why the entry of a place was answered as it was
abbrev pub why_at : List Record → ℕ → List Finding
why_at records place = why_by (records_before records place) place (record_at records place)

-- the entry was denied
abbrev pub is_denied : Record → Bool
is_denied r = not (is_allowed r.verdict)

-- why the entry of the record of a place was denied, if it was
abbrev pub denial_by : List Record → ℕ → Record → List Finding
denial_by before place r = if is_denied r then why_by before place (Some r) else []

-- why each denied entry was denied, in order
abbrev pub denials : List Record → List Finding
denials records = flat_map (why_at records) (places_of is_denied records)

-- the place of the event of that number, from 1, that the connection was told, if it was told so many
abbrev pub event_place : List Record → ConnId → ℕ → Option ℕ
event_place records conn event = option_map place_of (slice_get (inbox records conn) (event - 1))

-- why the entry of a place was answered as it was, if there is one
abbrev pub why_if : List Record → Option ℕ → List Finding
why_if records None = []
why_if records (Some place) = why_at records place

-- what is found
abbrev pub findings_of : List Entry → Asked → List Finding
findings_of entries (Place place) = why_at (judged entries) place
findings_of entries Denials = denials (judged entries)
findings_of entries (Connection conn) = way_of (judged entries) conn
findings_of entries (To place conn) = stand_at (judged entries) conn place
findings_of entries (ToProcess place pid) = process_stands (judged entries) (conns_of entries) pid place
findings_of entries (Told conn event) = why_if (judged entries) (event_place (judged entries) conn event)

-- the records up to a place, if there is one
abbrev pub records_upto : List Entry → Option ℕ → List Record
records_upto entries None = []
records_upto entries (Some place) = judged (take place entries)

-- the records that it speaks of: of one entry that is explained those up to it
abbrev pub records_told : List Entry → Asked → List Record
records_told entries (Place place) = records_upto entries (Some place)
records_told entries (Told conn event) = records_upto entries (event_place (judged entries) conn event)
records_told entries _ = judged entries

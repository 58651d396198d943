-- Which connections are of a process, by its pid, and how each stands to an entry.
use Rattle.std.specs.Prelude.{ℕ, Bool, false, ◌==◌, List, [], slice_get, Option, Some, None, option_map, if◌then◌else◌}
use Rattle.std.specs.List.{flat_map, list_any}
use Rattle.cpg_entry.specs.declared.entries.Entry.{Entry}
use Rattle.cpg_record.specs.declared.connections.ConnId.{ConnId}
use Rattle.cpg_record.specs.declared.records.Record.{Record}
use Rattle.cpg_record.specs.Connections.{conns_of}
use Rattle.cpg_record.specs.Judging.{judged}
use Rattle.cpg_record.specs.Nexts.{is_made_by}
use Rattle.cpg_record.specs.Places.{places_of, record_at}
use Rattle.cpg_why.specs.declared.findings.Finding.{Finding}
use Rattle.cpg_why.specs.Standings.{stand_at}

-- the place of the connection's first entry
abbrev pub first_own : List Record → ConnId → Option ℕ
first_own records conn = slice_get (places_of (is_made_by conn) records) 0

-- the pid of the process that made the entry of a place
abbrev pub pid_at : List Record → Option ℕ → Option ℕ
pid_at records None = None
pid_at records (Some place) = option_map (λ r. r.entry.pid) (record_at records place)

-- it is that pid
abbrev pub is_pid : ℕ → Option ℕ → Bool
is_pid pid None = false
is_pid pid (Some own) = own == pid

-- the process of that pid made the connection's first entry
abbrev pub is_of : List Record → ℕ → ConnId → Bool
is_of records pid conn = is_pid pid (pid_at records (first_own records conn))

-- a connection of entries is of a process of that pid
abbrev pub has_process : List Entry → ℕ → Bool
has_process entries pid = list_any (is_of (judged entries) pid) (conns_of entries)

-- how the connection stands to the entry of a place, where it is of the process
abbrev pub stand_if : List Record → ℕ → ℕ → ConnId → List Finding
stand_if records pid place conn = if is_of records pid conn then stand_at records conn place else []

-- the same of each connection of the process
abbrev pub process_stands : List Record → List ConnId → ℕ → ℕ → List Finding
process_stands records conns pid place = flat_map (stand_if records pid place) conns

-- what is told of a script of entries through a filter
use Rattle.std.specs.Prelude.{ℕ, ◌==◌, Bool, false, List, [], ◌∷◌, length, if◌then◌else◌, Option, Some, None}
use Rattle.std.specs.List.{concat, flat_map, range_with_len}
use Rattle.cpg_record.specs.declared.connections.ConnId.{ConnId}
use Rattle.cpg_record.specs.declared.events.Event.{Event}
use Rattle.cpg_record.specs.declared.records.Record.{Record}
use Rattle.cpg_record.specs.Events.{events}
use Rattle.cpg_record.specs.Places.{record_at}
use Rattle.cpg_print.specs.Events.{event_line, inbox_line}
use Rattle.cpg_print.specs.Records.{audit_line, count_line}
use Rattle.cpg_judge.specs.Filters.{keeps_conn, keeps_event, keeps_place, keeps_record}
use Rattle.cpg_judge.specs.Judging.{Form}
use Rattle.cpg_judge.specs.declared.filter.filters.Filter.{Filter}
use Rattle.cpg_judge.specs.declared.filter.filters.Only.{Only}

-- the audit line of the record of a place, where it is kept
abbrev pub audit_kept : Filter → ℕ → Record → List (List ℕ)
audit_kept f place r = if keeps_record f place r then audit_line place r ∷ [] else []

-- the record is there, and its place is kept
abbrev pub keeps_there : Filter → ℕ → Option Record → Bool
keeps_there f place None = false
keeps_there f place (Some r) = keeps_place f place r

-- the line of an event, where it is kept
abbrev pub event_kept : Option Only → Event → List (List ℕ)
event_kept only e = if keeps_event only e then event_line e ∷ [] else []

-- the lines of what a place tells a connection that are kept
abbrev pub lines_at : Filter → List Record → ConnId → ℕ → List (List ℕ)
lines_at f records conn place =
    if keeps_there f place (record_at records place) then flat_map (event_kept f.only) (events records place conn) else []

-- and so of all places
abbrev pub told_lines : Filter → List Record → ConnId → List (List ℕ)
told_lines f records conn = flat_map (lines_at f records conn) (range_with_len 1 (length records))

-- lines behind one that names the connection; nothing where there are none
abbrev pub headed : ConnId → List (List ℕ) → List (List ℕ)
headed conn lines = if length (concat lines) == 0 then [] else inbox_line conn ∷ lines

-- the inbox of a connection that is kept
abbrev pub inbox_kept : Filter → List Record → ConnId → List (List ℕ)
inbox_kept f records conn = if keeps_conn f.conn conn then headed conn (told_lines f records conn) else []

-- the lines of text that are kept: audit lines, the count of all entries, and what is kept of each inbox
abbrev pub filtered : Filter → Form
filtered f = record { record_lines = audit_kept f; count = count_line; inbox_lines = inbox_kept f }

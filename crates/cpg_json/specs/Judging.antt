-- what is told of a script of entries as JSON
use Rattle.std.specs.Prelude.{ℕ, List, [], ◌∷◌, map}
use Rattle.cpg_record.specs.declared.connections.ConnId.{ConnId}
use Rattle.cpg_record.specs.declared.records.Record.{Record}
use Rattle.cpg_record.specs.Events.{inbox}
use Rattle.cpg_judge.specs.Judging.{Form}
use Rattle.cpg_why.specs.Scripts.{line_at}
use Rattle.cpg_json.specs.Events.{event_json, inbox_json}
use Rattle.cpg_json.specs.Marks.{line_fields}
use Rattle.cpg_json.specs.Objects.{more}
use Rattle.cpg_json.specs.Records.{count_json, record_json}

-- the events of a connection, after a line that names it
abbrev pub inbox_lines : List Record → ConnId → List (List ℕ)
inbox_lines records conn = inbox_json conn ∷ map (event_json conn) (inbox records conn)

-- the head of the record of a place: the number of its entry's line
abbrev pub record_head : List ℕ → ℕ → List ℕ
record_head numbers place = more (line_fields (line_at numbers place))

-- objects, one a line, of entries whose lines have those numbers: the records, their count, and the inboxes
abbrev pub judged_json : List ℕ → Form
judged_json numbers = record { record_lines = λ place r. record_json (record_head numbers place) place r ∷ []; count = count_json []; inbox_lines = inbox_lines }

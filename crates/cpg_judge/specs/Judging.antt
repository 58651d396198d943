-- what is told of a script of entries, and what its faults leave
use Rattle.std.specs.Prelude.{ℕ, ◌≡◌, ⊤, List, [], ◌∷◌, ◌++◌, length, map, Option, Some, None, Result, Ok, Err}
use Rattle.std.specs.List.{concat, flat_map, range_with_len}
use Rattle.std.specs.Io.KnownBytes.{Appends, Keeps}
use Rattle.cpg_cred.specs.declared.refusals.Refusal.{Refusal}
use Rattle.cpg_cred.specs.declared.refusals.Refusal.TheVariants as refusal
use Rattle.cpg_entry.specs.declared.entries.Entry.{Entry}
use Rattle.cpg_record.specs.declared.connections.ConnId.{ConnId}
use Rattle.cpg_record.specs.declared.records.Record.{Record}
use Rattle.cpg_record.specs.Connections.{conns_of}
use Rattle.cpg_record.specs.Events.{inbox}
use Rattle.cpg_record.specs.Judging.{judged}
use Rattle.cpg_record.specs.Places.{record_at}
use Rattle.cpg_text.specs.Written.{LeavesLines}
use Rattle.cpg_print.specs.Events.{event_line, inbox_line}
use Rattle.cpg_print.specs.Records.{audit_line, count_line}

-- A form: the lines of the record of a place, that of the count, and those of a connection's inbox over the records.
pub record Form : Type 0 where
  pub record_lines : ℕ → Record → List (List ℕ)
  pub count : ℕ → List ℕ
  pub inbox_lines : List Record → ConnId → List (List ℕ)

-- what a form has of a record, of the count and of an inbox
abbrev pub record_by : Form → ℕ → Record → List (List ℕ)
record_by form place r = form.record_lines place r

abbrev pub count_by : Form → ℕ → List ℕ
count_by form count = form.count count

abbrev pub inbox_by : Form → List Record → ConnId → List (List ℕ)
inbox_by form records conn = form.inbox_lines records conn

-- the lines of the record that is there, if one is
abbrev pub told_by : Form → ℕ → Option Record → List (List ℕ)
told_by form place None = []
told_by form place (Some r) = record_by form place r

-- the lines of the record of a place
abbrev pub told_at : Form → List Record → ℕ → List (List ℕ)
told_at form records place = told_by form place (record_at records place)

-- those of the first places
abbrev pub told_upto : Form → List Record → ℕ → List (List ℕ)
told_upto form records count = flat_map (told_at form records) (range_with_len 1 count)

-- the lines that are told of entries: those of the records, the count, and the inbox of each connection
abbrev pub lines_told : Form → List Entry → List (List ℕ)
lines_told form entries =
    told_upto form (judged entries) (length (judged entries)) ++ count_by form (length entries) ∷ flat_map (inbox_by form (judged entries)) (conns_of entries)

-- the events of a connection, after a line that names it
abbrev pub inbox_text : List Record → ConnId → List (List ℕ)
inbox_text records conn = inbox_line conn ∷ map event_line (inbox records conn)

-- lines of text: the audit line of each record, the count, and the inboxes
abbrev pub judged_text : Form
judged_text = record { record_lines = λ place r. audit_line place r ∷ []; count = count_line; inbox_lines = inbox_text }

-- all is written where the script has a meaning
abbrev pub IsWritten : Form → Result (List Entry) ℕ → Option (List ℕ) → Option (List ℕ) → Type 0
IsWritten form (Ok entries) old new = Appends old new (concat (lines_told form entries))
IsWritten form (Err line) old new = ⊥

-- what a refusal leaves written: nothing after a bad line, which it names, nor where the script could not
-- be read; else what it leaves of the lines
abbrev pub Leaves : Form → Result (List Entry) ℕ → Refusal → Option (List ℕ) → Option (List ℕ) → Type 0
Leaves form (Err bad) (refusal.BadCommand line) old new = (line ≡ bad) × Keeps old new
Leaves form (Err bad) refusal.Memory old new = Keeps old new
Leaves form script refusal.Read old new = Keeps old new
Leaves form (Ok entries) refused old new = LeavesLines (lines_told form entries) refused old new
Leaves _ _ _ old new = ⊥

-- the refusals of a script that is judged
abbrev pub EndsJudging : Refusal → Type 0
EndsJudging refusal.Read = ⊤
EndsJudging (refusal.BadCommand line) = ⊤
EndsJudging refusal.Write = ⊤
EndsJudging refusal.Memory = ⊤
EndsJudging _ = ⊥

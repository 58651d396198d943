-- what is asked of a script, and what is written
use Rattle.std.specs.Prelude.{ℕ, ◌≡◌, ◌≤◌, ◌-◌, ⊤, Bool, false, IsTrue, List, length, slice_get, Option, Some, None, IfSome, Result, Ok, Err}
use Rattle.std.specs.List.{list_any}
use Rattle.std.specs.Io.KnownBytes.{Keeps}
use Rattle.cpg_cred.specs.declared.refusals.Refusal.{Refusal}
use Rattle.cpg_cred.specs.declared.refusals.Refusal.TheVariants as refusal
use Rattle.cpg_entry.specs.declared.entries.Entry.{Entry}
use Rattle.cpg_record.specs.declared.connections.ConnId.{ConnId}
use Rattle.cpg_record.specs.declared.records.Record.{Record}
use Rattle.cpg_record.specs.Connections.{conns_of, is_conn}
use Rattle.cpg_record.specs.Events.{inbox}
use Rattle.cpg_record.specs.Judging.{judged}
use Rattle.cpg_text.specs.Reading.{FailsAs}
pub use Rattle.cpg_cluster.specs.Scripts.{numbers_of}
use Rattle.cpg_why.specs.declared.asking.Asked.{Asked}
use Rattle.cpg_why.specs.declared.asking.Asked.TheVariants.{Place, Denials, Connection, Told, To, ToProcess}
use Rattle.cpg_why.specs.declared.asking.Missing as absent
use Rattle.cpg_why.specs.declared.asking.Missing.TheVariants as missing
use Rattle.cpg_why.specs.declared.asking.WhyFault.{WhyFault}
use Rattle.cpg_why.specs.declared.asking.WhyFault.TheVariants.{Script, Missing}
use Rattle.cpg_why.specs.declared.findings.Finding.{Finding}
use Rattle.cpg_why.specs.Findings.{findings_of, records_told}
use Rattle.cpg_why.specs.Forms.{Form, IsText, Writes, WritesFront}
use Rattle.cpg_why.specs.Processes.{has_process}

-- the number of the line of the entry at a place, of the numbers of the entries' lines; entries that stand in no script have no lines
abbrev pub line_at : List ℕ → ℕ → Option ℕ
line_at numbers place = slice_get numbers (place - 1)

-- a number counts one of so many, from 1
abbrev pub Stands : ℕ → ℕ → Type 0
Stands number count = (1 ≤ number) × (number ≤ count)

-- how many events a connection is told
abbrev pub events_told : List Entry → ConnId → ℕ
events_told entries conn = length (inbox (judged entries) conn)

-- the connection made an entry
abbrev pub has_entry : List Entry → ConnId → Bool
has_entry entries conn = list_any (is_conn conn) (conns_of entries)

-- what is asked of can be told: a place must have an entry, an event must have been told, and a connection or a process must have made an entry
abbrev pub CanTell : Asked → List Entry → Type 0
CanTell (Place place) entries = Stands place (length entries)
CanTell (To place conn) entries = Stands place (length entries)
CanTell (ToProcess place pid) entries = Stands place (length entries) × IsTrue (has_process entries pid)
CanTell (Told conn event) entries = Stands event (events_told entries conn)
CanTell (Connection conn) entries = IsTrue (has_entry entries conn)
CanTell Denials entries = ⊤

-- what is found of what is asked
abbrev pub IsFound : List Entry → Asked → List Record → List Finding → Type 0
IsFound entries asked records found = CanTell asked entries × (records ≡ records_told entries asked) × (found ≡ findings_of entries asked)

-- the text tells what is asked of a script that has a meaning
abbrev pub IsTold : Form → Result (List Entry) ℕ → List ℕ → Asked → List ℕ → Type 0
IsTold form (Ok entries) numbers asked text = CanTell asked entries × IsText form numbers entries asked text
IsTold form (Err line) numbers asked text = ⊥

-- the place that is asked of, if one is
abbrev pub place_asked : Asked → Option ℕ
place_asked (Place place) = Some place
place_asked (To place conn) = Some place
place_asked (ToProcess place pid) = Some place
place_asked _ = None

-- an entry stands at the place that is asked of, where one is, of so many entries
abbrev pub StandsIfAsked : Asked → ℕ → Type 0
StandsIfAsked asked count = IfSome (place_asked asked) (λ place. Stands place count)

-- the pid of the process that is asked of, if one is
abbrev pub pid_asked : Asked → Option ℕ
pid_asked (ToProcess place pid) = Some pid
pid_asked _ = None

-- what is asked of is not there: no entry stands at the place, of so many; the connection was told so many events and none of that number; or it,
-- or the process, made no entry, and so many connections made one
abbrev pub IsMissing : List Entry → Asked → absent.Missing → Type 0
IsMissing entries asked (missing.Entry place count) = (place_asked asked ≡ Some place) × (count ≡ length entries) × (¬ Stands place count)
IsMissing entries asked (missing.Event conn event count) = (asked ≡ Told conn event) × (count ≡ events_told entries conn) × (¬ Stands event count)
IsMissing entries asked (missing.Connection conn count) = (asked ≡ Connection conn) × (count ≡ length (conns_of entries)) × (has_entry entries conn ≡ false)
IsMissing entries asked (missing.Process pid count) = (pid_asked asked ≡ Some pid) × (count ≡ length (conns_of entries)) × (has_process entries pid ≡ false)

-- the same of the entries of a script that has a meaning
abbrev pub IsMissingIn : Result (List Entry) ℕ → Asked → absent.Missing → Type 0
IsMissingIn (Ok entries) asked what = IsMissing entries asked what
IsMissingIn (Err line) asked what = ⊥

-- why nothing can be told: the script's first bad line, or memory, or that what is asked of is not there
abbrev pub TellsNot : Result (List Entry) ℕ → Asked → WhyFault → Type 0
TellsNot script asked (Script fault) = (fault.part ≡ None) × FailsAs script fault.refusal
TellsNot script asked (Missing what) = IsMissingIn script asked what

-- the text is written where the script has a meaning and what is asked of can be told
abbrev pub IsWritten : Form → Result (List Entry) ℕ → List ℕ → Asked → Option (List ℕ) → Option (List ℕ) → Type 0
IsWritten form (Ok entries) numbers asked old new = CanTell asked entries × Writes form numbers entries asked old new
IsWritten form (Err line) numbers asked old new = ⊥

-- what a refusal leaves: nothing; and of a writer that fails a front of the text. A bad line is the first
abbrev pub LeavesBy : Form → Result (List Entry) ℕ → List ℕ → Asked → Refusal → Option (List ℕ) → Option (List ℕ) → Type 0
LeavesBy form (Err bad) numbers asked (refusal.BadCommand line) old new = (line ≡ bad) × Keeps old new
LeavesBy form script numbers asked refusal.Read old new = Keeps old new
LeavesBy form script numbers asked refusal.Memory old new = Keeps old new
LeavesBy form (Ok entries) numbers asked refusal.Write old new = CanTell asked entries × WritesFront form numbers entries asked old new
LeavesBy _ _ _ _ _ old new = ⊥

-- the same of a fault; what is not there is told, and nothing is left
abbrev pub Leaves : Form → Result (List Entry) ℕ → List ℕ → Asked → WhyFault → Option (List ℕ) → Option (List ℕ) → Type 0
Leaves form script numbers asked (Script fault) old new = (fault.part ≡ None) × LeavesBy form script numbers asked fault.refusal old new
Leaves form script numbers asked (Missing what) old new = IsMissingIn script asked what × Keeps old new

-- the refusals, and what they leave whatever the reader tells: nothing before the text is whole
abbrev pub EndsBy : Refusal → Option (List ℕ) → Option (List ℕ) → Type 0
EndsBy refusal.Read old new = Keeps old new
EndsBy (refusal.BadCommand line) old new = Keeps old new
EndsBy refusal.Memory old new = Keeps old new
EndsBy refusal.Write old new = ⊤
EndsBy _ old new = ⊥

-- what can be missing of what is asked: a place's entry, an event that a connection was told, or an entry that one, or a process, made
abbrev pub IsAskedOf : Asked → absent.Missing → Type 0
IsAskedOf asked (missing.Entry place count) = place_asked asked ≡ Some place
IsAskedOf asked (missing.Event conn event count) = asked ≡ Told conn event
IsAskedOf asked (missing.Connection conn count) = asked ≡ Connection conn
IsAskedOf asked (missing.Process pid count) = pid_asked asked ≡ Some pid

-- the same of a fault
abbrev pub EndsWhy : Asked → WhyFault → Option (List ℕ) → Option (List ℕ) → Type 0
EndsWhy asked (Script fault) old new = (fault.part ≡ None) × EndsBy fault.refusal old new
EndsWhy asked (Missing what) old new = IsAskedOf asked what × Keeps old new

-- what a refusal leaves of what is told of entries: want of memory nothing, and a writer that fails a front of it
abbrev pub LeavesTold : Form → List ℕ → List Entry → Asked → Refusal → Option (List ℕ) → Option (List ℕ) → Type 0
LeavesTold form numbers entries asked refusal.Memory old new = Keeps old new
LeavesTold form numbers entries asked refusal.Write old new = CanTell asked entries × WritesFront form numbers entries asked old new
LeavesTold _ _ _ _ _ old new = ⊥

-- the same of a fault; what is not there leaves nothing
abbrev pub LeavesEntries : Form → List ℕ → List Entry → Asked → WhyFault → Option (List ℕ) → Option (List ℕ) → Type 0
LeavesEntries form numbers entries asked (Script fault) old new = (fault.part ≡ None) × LeavesTold form numbers entries asked fault.refusal old new
LeavesEntries form numbers entries asked (Missing what) old new = IsMissing entries asked what × Keeps old new

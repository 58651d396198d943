-- what commands of sessions are answered, as lines of JSON
use Rattle.std.specs.Prelude.{ℕ, List, [], ◌∷◌, ◌++◌, map, codes, Option, Some, None, Ok, Err}
use Rattle.std.specs.List.{concat}
use Rattle.cpg_record.specs.declared.records.Record.{Record}
use Rattle.cpg_board.specs.Seats.{records_of}
use Rattle.cpg_json.specs.Answers.{refusal_fields, safe_json}
use Rattle.cpg_json.specs.Events.{event_fields}
use Rattle.cpg_json.specs.Marks.{line_head}
use Rattle.cpg_json.specs.Objects.{array, field, head_of, line, number}
use Rattle.cpg_json.specs.Records.{counted_json, process_array}
use Rattle.cpg_json.specs.Strings.{json_string}
use Rattle.cpg_cluster.specs.declared.commands.Command.{Command}
use Rattle.cpg_cluster.specs.declared.commands.Command.TheVariants as command
use Rattle.cpg_cluster.specs.declared.replies.Reply.{Reply}
use Rattle.cpg_cluster.specs.declared.replies.Reply.TheVariants.{Opened, Admitted, Took, Nothing, Members, Groups, Audit, Closed, Safe}
use Rattle.cpg_cluster.specs.Answers.{Answer}
use Rattle.cpg_cluster.specs.Lines.{Printed}

-- the number of the session that a command is for, if it is for one
abbrev pub session_of : Command → Option ℕ
session_of (command.Connect node pid cred) = None
session_of (command.Ask number asked) = Some number
session_of (command.Close number) = Some number
session_of (command.Safe node) = None

-- whose answer it is
abbrev pub whose : Option ℕ → List (List ℕ)
whose None = []
whose (Some session) = number (codes "session") session ∷ []

-- the lines of records, and how many there are
abbrev pub audit_text : List ℕ → List Record → List ℕ
audit_text head records = concat (counted_json head records)

-- a reply to a command for that session, if it is for one
abbrev pub reply_json : List ℕ → Option ℕ → Reply → List ℕ
reply_json head session (Opened opened) = line (head_of (codes "session") head ∷ number (codes "session") opened ∷ [])
reply_json head session Admitted = line (head_of (codes "admitted") head ∷ whose session)
reply_json head session (Nothing seen) = line (head_of (codes "none") head ∷ whose session)
reply_json head session (Took event) = line (head_of (codes "event") head ∷ whose session ++ event_fields event)
reply_json head session (Members processes) = line (head_of (codes "members") head ∷ whose session ++ field (codes "members") (array (map process_array processes)) ∷ [])
reply_json head session (Groups names) = line (head_of (codes "groups") head ∷ whose session ++ field (codes "groups") (array (map json_string names)) ∷ [])
reply_json head session (Audit seat) = audit_text head (records_of seat)
reply_json head session Closed = line (head_of (codes "closed") head ∷ whose session)
reply_json head session (Safe place) = safe_json head place

-- a reply or a refusal
abbrev pub answer_json : List ℕ → Option ℕ → Answer → List ℕ
answer_json head session (Ok reply) = reply_json head session reply
answer_json head session (Err why) = line (head_of (codes "refused") head ∷ whose session ++ refusal_fields why)

-- what is printed of the answer to a command of a script
abbrev pub printed_json : Printed
printed_json line answer = answer_json (line_head line.number) (session_of line.command) answer

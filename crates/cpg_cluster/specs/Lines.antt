-- what answers print
use Rattle.std.specs.Prelude.{ℕ, List, [], ◌∷◌, ◌++◌, length, codes, decimal, Some, None, Ok, Err}
use Rattle.std.specs.List.{concat, flat_map}
use Rattle.cpg_text.specs.Lines.{lines_of}
use Rattle.cpg_record.specs.declared.records.Record.{Record}
use Rattle.cpg_board.specs.Seats.{records_of}
use Rattle.cpg_print.specs.Answers.{members_line, groups_line, took_line, safe_line, refused_line}
use Rattle.cpg_print.specs.Records.{audit_lines, count_line}
use Rattle.cpg_cluster.specs.declared.commands.Command.{Command}
use Rattle.cpg_cluster.specs.declared.commands.Command.TheVariants as command
use Rattle.cpg_cluster.specs.declared.commands.Numbered.{Numbered}
use Rattle.cpg_cluster.specs.declared.forms.TextForm.{TextForm}
use Rattle.cpg_cluster.specs.declared.forms.TextForm.TheVariants.{Plain, Echoed}
use Rattle.cpg_cluster.specs.declared.replies.Reply.{Reply}
use Rattle.cpg_cluster.specs.declared.replies.Reply.TheVariants.{Opened, Admitted, Took, Nothing, Members, Groups, Audit, Closed, Safe}
use Rattle.cpg_cluster.specs.Answers.{Answer}

-- the audit lines of records, and how many there are
abbrev pub audit_text : List Record → List ℕ
audit_text records = concat (audit_lines records ++ count_line (length records) ∷ [])

-- session S
abbrev pub session_line : ℕ → List ℕ
session_line number = codes "session " ++ decimal number ++ codes "\n"

-- a reply
abbrev pub reply_text : Reply → List ℕ
reply_text (Opened number) = session_line number
reply_text Admitted = codes "admitted\n"
reply_text (Took event) = took_line (Some event)
reply_text (Nothing seen) = took_line None
reply_text (Members processes) = members_line processes
reply_text (Groups names) = groups_line names
reply_text (Audit seat) = audit_text (records_of seat)
reply_text Closed = codes "closed\n"
reply_text (Safe place) = safe_line place

-- a reply or a refusal
abbrev pub answer_text : Answer → List ℕ
answer_text (Ok reply) = reply_text reply
answer_text (Err why) = refused_line why

-- what is printed of the answer to a command, by some form
abbrev pub Printed : Type 0
Printed = Numbered → Answer → List ℕ

-- the session that was opened, if one was
abbrev pub opened_word : Answer → List ℕ
opened_word (Ok (Opened number)) = codes "s" ++ decimal number
opened_word _ = codes "-"

-- the session of a command: that which it opened, or that which it names
abbrev pub session_word : Command → Answer → List ℕ
session_word (command.Connect node pid cred) answer = opened_word answer
session_word (command.Ask number asked) answer = codes "s" ++ decimal number
session_word (command.Close number) answer = codes "s" ++ decimal number
session_word (command.Safe node) answer = codes "-"

-- the number of its line and its session, as they stand before each line that it prints
abbrev pub echo_of : Numbered → Answer → List ℕ
echo_of line answer = decimal line.number ++ codes " " ++ session_word line.command answer ++ codes " "

-- a line after those words, and nothing where it is empty
abbrev pub echoed_line : List ℕ → List ℕ → List ℕ
echoed_line words [] = []
echoed_line words line = words ++ line ++ codes "\n"

-- each line of a text after those words
abbrev pub echoed : List ℕ → List ℕ → List ℕ
echoed words text = flat_map (echoed_line words) (lines_of text)

-- a text of an answer alone, or each of its lines after its echo
abbrev pub text_as : TextForm → Numbered → Answer → List ℕ → List ℕ
text_as Plain line answer text = text
text_as Echoed line answer text = echoed (echo_of line answer) text

-- an answer alone, or each of its lines after its echo
abbrev pub shown_as : TextForm → Printed
shown_as shown line answer = text_as shown line answer (answer_text answer)

-- the answers to commands, one after the other, by that form
abbrev pub text_of : Printed → List Numbered → List Answer → List ℕ
text_of printed (line ∷ lines) (answer ∷ answers) = printed line answer ++ text_of printed lines answers
text_of printed _ _ = []

-- what a word asks why of
use Rattle.std.specs.Prelude.{ℕ, List, codes, if◌then◌else◌, Option, Some, None, option_map}
use Rattle.std.specs.Str.{bytes_eq}
use Rattle.cpg_record.specs.declared.connections.ConnId.{ConnId}
use Rattle.cpg_text.specs.Numbers.{number_in}
use Rattle.cpg_text.specs.Words.{cut_at}
use Rattle.cpg_print.specs.Entries.{conn_of_word}
use Rattle.cpg_why.specs.declared.asking.Asked.{Asked as Question}
use Rattle.cpg_why.specs.declared.asking.Asked.TheVariants.{Place, Denials, Connection, To, ToProcess, Told}

-- the event of that number that the connection was told, where both are there
abbrev pub told_by : Option ConnId → Option ℕ → Option Question
told_by (Some conn) (Some event) = Some (Told conn event)
told_by _ _ = None

-- the same of what stands before and behind a colon
abbrev pub event_of_parts : Option (List ℕ × List ℕ) → Option Question
event_of_parts None = None
event_of_parts (Some parts) = told_by (conn_of_word parts.0) (number_in 1 4294967295 parts.1)

-- `NODE.CONN:EVENT`: the event of that number, from 1, that the connection was told
abbrev pub event_named : List ℕ → Option Question
event_named word = event_of_parts (cut_at 58 word)

-- why a connection, or else the connections of a process, are told of the entry of a place, or are not
abbrev pub to_whom : ℕ → Option ConnId → Option ℕ → Option Question
to_whom place (Some conn) pid = Some (To place conn)
to_whom place None pid = option_map (λ p. ToProcess place p) pid

-- the entry of a place; where a connection or a process is named, why that is told of it, or is not
abbrev pub of_place : Option (List ℕ) → ℕ → Option Question
of_place None place = Some (Place place)
of_place (Some word) place = to_whom place (conn_of_word word) (number_in 0 4294967295 word)

-- a question of no place, beside which no connection is named
abbrev pub unless_to : Option (List ℕ) → Option Question → Option Question
unless_to None question = question
unless_to (Some word) question = None

-- the entry of a place, or else the one that told an event
abbrev pub or_event : Option (List ℕ) → List ℕ → Option ℕ → Option Question
or_event to word (Some place) = of_place to place
or_event to word None = unless_to to (event_named word)

-- the one entry that a word asks of: by its place, or by an event that it told
abbrev pub entry_named : Option (List ℕ) → List ℕ → Option Question
entry_named to word = or_event to word (number_in 1 4294967295 word)

-- the way of a connection, or else one entry
abbrev pub or_entry : Option (List ℕ) → List ℕ → Option ConnId → Option Question
or_entry to word (Some conn) = unless_to to (Some (Connection conn))
or_entry to word None = entry_named to word

-- what a word asks why of: every denial, the way of a connection, or one entry
abbrev pub question_named : Option (List ℕ) → List ℕ → Option Question
question_named to word = if bytes_eq word (codes "all") then unless_to to (Some Denials) else or_entry to word (conn_of_word word)

-- how many words name what is asked: one where it is one entry
abbrev pub words_for : Question → ℕ
words_for (Place place) = 1
words_for (To place conn) = 1
words_for (ToProcess place pid) = 1
words_for (Told conn event) = 1
words_for _ = 0

-- a script of entries
use Rattle.std.specs.Prelude.{ℕ, List, Option, None, Result, nat_le, if◌then◌else◌}
use Rattle.cpg_entry.specs.declared.entries.Entry.{Entry}
use Rattle.cpg_record.specs.Judging.{most_places}
use Rattle.cpg_text.specs.Lines.{words_of}
use Rattle.cpg_text.specs.Reading.{read_all}
use Rattle.cpg_print.specs.Entries.{entry_of}

-- the entry of a line that follows so many entries, if there is room for one
abbrev pub entry_in : ℕ → List ℕ → Option Entry
entry_in before line = if nat_le most_places before then None else entry_of (words_of line)

-- the entries of a script, at most 1,048,576, or the number of its first bad line
abbrev pub entries_of_script : List ℕ → Result (List Entry) ℕ
entries_of_script script = read_all entry_in script

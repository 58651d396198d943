-- where a script is read from
use Rattle.std.specs.Prelude.{ℕ, ◌-◌, Bool, true, false, ◌&&◌, is_none, List, ◌++◌, length, take, drop, slice_get, codes, Option, Some, None, if◌then◌else◌}
use Rattle.std.specs.Str.{bytes_eq}
use Rattle.std.specs.Io.KnownBytes.{Keeps}
use Rattle.cpg_text.specs.Words.{after_name}
use Rattle.cpg_text.specs.Streams.{AppendsFront}
use Rattle.cpgring.specs.declared.sources.Source.{Source}
use Rattle.cpgring.specs.declared.sources.Source.TheVariants.{Input, File}
use Rattle.cpgring.specs.declared.sources.Unread.{Unread}
use Rattle.cpgring.specs.declared.sources.Unread.TheVariants as unread

-- the path of a source, where it is a file
abbrev pub path_of : Source → Option (List ℕ)
path_of Input = None
path_of (File path) = Some path.now

-- the path, but none of `-`, which is standard input
abbrev pub but_input : Option (List ℕ) → Option (List ℕ)
but_input None = None
but_input (Some path) = if bytes_eq path (codes "-") then None else Some path

-- the word begins neither as one that lets users in nor as one that lets groups in
abbrev pub lets_nobody_in : List ℕ → Bool
lets_nobody_in word = is_none (after_name (codes "uid:") word) && is_none (after_name (codes "gid:") word)

-- the word names a file, if there is one
abbrev pub names_file : Option (List ℕ) → Bool
names_file None = false
names_file (Some word) = lets_nobody_in word

-- the last of the words
abbrev pub last_word : List (List ℕ) → Option (List ℕ)
last_word words = slice_get words (length words - 1)

-- the path of the file that the last of the words names, if it names one
abbrev pub last_file : List (List ℕ) → Option (List ℕ)
last_file words = if names_file (last_word words) then but_input (last_word words) else None

-- the words but the last where that names a file
abbrev pub words_before_file : List (List ℕ) → List (List ℕ)
words_before_file words = if names_file (last_word words) then take (length words - 1) words else words

-- the path of the file that the first of the words names, or else the last
abbrev pub script_file : List (List ℕ) → Option (List ℕ)
script_file words = if names_file (slice_get words 0) then but_input (slice_get words 0) else last_file words

-- the words that let users and groups in: all but the one that names the file
abbrev pub accept_words : List (List ℕ) → List (List ℕ)
accept_words words = if names_file (slice_get words 0) then drop 1 words else words_before_file words

-- what is said of why a file can't be read
abbrev pub cause_text : Unread → List ℕ
cause_text unread.Missing = codes "no such file"
cause_text unread.Forbidden = codes "permission denied"
cause_text unread.Directory = codes "is a directory"
cause_text unread.Other = codes "cannot be read"
cause_text unread.Unwritten = codes "cannot be written"
cause_text unread.Cut = codes "is not whole"

-- the line that is told of a file that can't be read
abbrev pub unread_line : List ℕ → Unread → List ℕ
unread_line path why = codes "cpgring: " ++ path ++ codes ": " ++ cause_text why ++ codes "\n"

-- what is said before a script is read from a terminal
abbrev pub greeting : List ℕ
greeting = codes "cpgring: the script is read from the terminal; Ctrl-D at the start of a line ends it\n"

-- what is said before a shell reads from a terminal
abbrev pub shell_greeting : List ℕ
shell_greeting = codes "cpgring: type help for the commands; Ctrl-D at the start of a line ends the shell\n"

-- a text is said at a terminal alone, as far as it can be
abbrev pub GreetsAt : Bool → List ℕ → Option (List ℕ) → Option (List ℕ) → Type 0
GreetsAt true text old new = AppendsFront old new text
GreetsAt false text old new = Keeps old new

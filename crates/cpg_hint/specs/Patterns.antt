-- what is wanted of the words of a line, and the first word that does not fit
use Rattle.std.specs.Prelude.{ℕ, ◌+◌, List, [], ◌∷◌, codes, Bool, true, false, nat_le, is_some, if◌then◌else◌, Option, Some, None, Result, Ok, Err}
use Rattle.std.specs.Borrow.{Bor}
use Rattle.std.specs.Option.{ok_or}
use Rattle.std.specs.Str.{bytes_eq}
use Rattle.cpg_cred.specs.declared.nodes.TheConstants.{MOST_NODES}
use Rattle.cpg_entry.specs.Names.{is_name}
use Rattle.cpg_entry.specs.declared.ranges.TheConstants.{MOST_CONNECTIONS}
use Rattle.cpg_text.specs.Numbers.{number_in}
use Rattle.cpg_text.specs.Percent.{message_of}
use Rattle.cpg_text.specs.Words.{◌>>=◌, u32_of}
use Rattle.cpg_print.specs.Entries.{conn_of_word}
use Rattle.cpg_print.specs.Rules.{effect_of, right_of, who_of}
use Rattle.cpg_print.specs.Steps.{sends_few}
use Rattle.cpg_hint.specs.declared.patterns.Expected.{Expected}
use Rattle.cpg_hint.specs.declared.patterns.Expected.TheVariants as expected
use Rattle.cpg_hint.specs.declared.words.Mismatch.{Mismatch}

-- the words after the first of a CALL, where it names one; names and messages within their limits
abbrev pub op_pattern : List ℕ → Option (List Expected)
op_pattern word =
    if bytes_eq word (codes "join") then Some (expected.Name ∷ [])
    else if bytes_eq word (codes "leave") then Some []
    else if bytes_eq word (codes "send") then Some (expected.Message ∷ [])
    else if bytes_eq word (codes "insert") then Some (expected.Name ∷ expected.Position ∷ expected.Effect ∷ expected.Right ∷ expected.Who ∷ [])
    else if bytes_eq word (codes "remove") then Some (expected.Name ∷ expected.Id ∷ [])
    else if bytes_eq word (codes "gone") then Some []
    else None

-- the same where names and messages may be of any length, and a connection does not end by a call
abbrev pub call_pattern : List ℕ → Option (List Expected)
call_pattern word =
    if bytes_eq word (codes "join") then Some (expected.Group ∷ [])
    else if bytes_eq word (codes "leave") then Some []
    else if bytes_eq word (codes "send") then Some (expected.Text ∷ [])
    else if bytes_eq word (codes "insert") then Some (expected.Group ∷ expected.Position ∷ expected.Effect ∷ expected.Right ∷ expected.Who ∷ [])
    else if bytes_eq word (codes "remove") then Some (expected.Group ∷ expected.Id ∷ [])
    else None

-- the words after the first of a command of `step`, where it names one
abbrev pub step_pattern : List ℕ → Option (List Expected)
step_pattern word =
    if bytes_eq word (codes "connect") then Some (expected.Node ∷ expected.Pid ∷ expected.Uid ∷ expected.Gid ∷ [])
    else if bytes_eq word (codes "call") then Some (expected.Node ∷ expected.Conn ∷ expected.Call ∷ [])
    else if bytes_eq word (codes "disconnect") then Some (expected.Node ∷ expected.Conn ∷ [])
    else if bytes_eq word (codes "frame") then Some (expected.Node ∷ expected.Frame ∷ [])
    else if bytes_eq word (codes "timer") then Some (expected.Node ∷ [])
    else if bytes_eq word (codes "deliver") then Some (expected.Node ∷ [])
    else if bytes_eq word (codes "take") then Some (expected.Node ∷ expected.Conn ∷ [])
    else if bytes_eq word (codes "list") then Some (expected.Node ∷ expected.Conn ∷ expected.Group ∷ [])
    else if bytes_eq word (codes "groups") then Some (expected.Node ∷ expected.Conn ∷ [])
    else if bytes_eq word (codes "show") then Some (expected.Frame ∷ [])
    else if bytes_eq word (codes "audit") then Some (expected.Node ∷ [])
    else if bytes_eq word (codes "rules") then Some (expected.Node ∷ expected.Group ∷ [])
    else if bytes_eq word (codes "safe") then Some (expected.Node ∷ [])
    else None

-- the words after the first of a command of `run`, where it names one
abbrev pub run_pattern : List ℕ → Option (List Expected)
run_pattern word =
    if bytes_eq word (codes "connect") then Some (expected.Node ∷ expected.Pid ∷ expected.Uid ∷ expected.Gid ∷ [])
    else if bytes_eq word (codes "call") then Some (expected.Session ∷ expected.Call ∷ [])
    else if bytes_eq word (codes "wait") then Some (expected.Session ∷ [])
    else if bytes_eq word (codes "list") then Some (expected.Session ∷ expected.Group ∷ [])
    else if bytes_eq word (codes "groups") then Some (expected.Session ∷ [])
    else if bytes_eq word (codes "audit") then Some (expected.Session ∷ [])
    else if bytes_eq word (codes "close") then Some (expected.Session ∷ [])
    else if bytes_eq word (codes "safe") then Some (expected.Node ∷ [])
    else None

-- `user` or `group`
abbrev pub is_table : List ℕ → Bool
is_table word = if bytes_eq word (codes "user") then true else bytes_eq word (codes "group")

-- the node that a word writes, where there are so many
abbrev pub node_in : ℕ → List ℕ → Option ℕ
node_in nodes word = number_in 1 MOST_NODES word >>= λ node. if nat_le node nodes then Some node else None

-- the word is of that kind, where there are so many nodes
abbrev pub fits : ℕ → Expected → List ℕ → Bool
fits nodes expected.Op word = is_some (op_pattern word)
fits nodes expected.Call word = is_some (call_pattern word)
fits nodes expected.StepCommand word = is_some (step_pattern word)
fits nodes expected.RunCommand word = is_some (run_pattern word)
fits nodes expected.Caller word = is_some (conn_of_word word)
fits nodes expected.Node word = is_some (node_in nodes word)
fits nodes expected.Conn word = is_some (number_in 1 MOST_CONNECTIONS word)
fits nodes expected.Pid word = is_some (u32_of word)
fits nodes expected.Uid word = is_some (u32_of word)
fits nodes expected.Gid word = is_some (u32_of word)
fits nodes expected.Id word = is_some (u32_of word)
fits nodes expected.Session word = is_some (u32_of word)
fits nodes expected.Number word = is_some (u32_of word)
fits nodes expected.Frame word = is_some (number_in 0 18446744073709551615 word)
fits nodes expected.Position word = is_some (number_in 0 255 word)
fits nodes expected.Effect word = is_some (effect_of word)
fits nodes expected.Right word = is_some (right_of word)
fits nodes expected.Who word = is_some (who_of word)
fits nodes expected.Name word = is_name word
fits nodes expected.Message word = sends_few word
fits nodes expected.Text word = is_some (message_of word)
fits nodes expected.Group word = true
fits nodes expected.Named word = true
fits nodes expected.Table word = is_table word
fits nodes expected.Room word = false
fits nodes expected.Head word = false
fits nodes expected.Nothing word = false

-- what is wanted after the word, if it fits: what is wanted behind the call or the command that it names, else what was wanted
-- behind it
abbrev pub pattern_after : ℕ → Expected → List ℕ → List Expected → Option (List Expected)
pattern_after nodes expected.Op word later = op_pattern word
pattern_after nodes expected.Call word later = call_pattern word
pattern_after nodes expected.StepCommand word later = step_pattern word
pattern_after nodes expected.RunCommand word later = run_pattern word
pattern_after nodes expected word later = if fits nodes expected word then Some later else None

-- what is wanted after the word, or what it does not fit: where nothing more is wanted, no word does
abbrev pub pattern_at : ℕ → List Expected → List ℕ → Result (List Expected) Expected
pattern_at nodes [] word = Err expected.Nothing
pattern_at nodes (expected ∷ later) word = ok_or (pattern_after nodes expected word later) expected

-- what is told of the words behind one, by what is wanted of them; a word that does not fit is told itself
abbrev pub or_mismatch : ℕ → Result (List Expected) Expected → (List Expected → Option Mismatch) → Option Mismatch
or_mismatch index (Err expected) more = Some (record { index = index; expected = expected })
or_mismatch index (Ok later) more = more later

-- what is told where no word is left: the first that is lacking
abbrev pub unmet : ℕ → List Expected → Option Mismatch
unmet index [] = None
unmet index (expected ∷ later) = Some (record { index = index; expected = expected })

-- the first word that does not fit, by its place among the words of which the first has that one, and what was wanted
abbrev pub first_mismatch : ℕ → ℕ → List Expected → List (List ℕ) → Option Mismatch
first_mismatch nodes index pattern [] = unmet index pattern
first_mismatch nodes index pattern (word ∷ words) = or_mismatch index (pattern_at nodes pattern word) (λ later. first_mismatch nodes (index + 1) later words)

-- the patterns that a reference leads to
abbrev pub reached : Result (Bor (List Expected)) Expected → Result (List Expected) Expected
reached (Ok pattern) = Ok pattern.now
reached (Err expected) = Err expected

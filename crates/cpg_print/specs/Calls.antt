-- calls and ops as words, both ways
use Rattle.std.specs.Prelude.{ℕ, ◌<◌, List, [], ◌∷◌, ◌++◌, length, codes, decimal, Bool, true, false, nat_le, Option, Some, None, option_map, if◌then◌else◌}
use Rattle.std.specs.List.{AllByRecursion}
use Rattle.std.specs.Str.{bytes_eq}
use Rattle.cpg_rules.specs.declared.rules.Rule.{Rule}
use Rattle.cpg_entry.specs.declared.calls.Call.{Call}
use Rattle.cpg_entry.specs.declared.calls.Call.TheVariants.{Join, Leave, Send, Insert, Remove}
use Rattle.cpg_entry.specs.declared.calls.Op.{Op}
use Rattle.cpg_entry.specs.declared.calls.Op.TheVariants.{Act, Gone}
use Rattle.cpg_entry.specs.Names.{is_name}
use Rattle.cpg_entry.specs.declared.messages.TheConstants.{MOST_MESSAGE_BYTES}
use Rattle.cpg_text.specs.Numbers.{number_in}
use Rattle.cpg_text.specs.Percent.{message_of, text_of}
use Rattle.cpg_text.specs.Words.{◌>>=◌, u32_of}
use Rattle.cpg_print.specs.Rules.{rule_of, rule_text}

-- CALL, as it is printed
abbrev pub call_text : Call → List ℕ
call_text (Join g) = codes "join " ++ g
call_text Leave = codes "leave"
call_text (Send message) = codes "send " ++ text_of message
call_text (Insert g index rule) = codes "insert " ++ g ++ codes " " ++ decimal index ++ codes " " ++ rule_text rule
call_text (Remove g id) = codes "remove " ++ g ++ codes " " ++ decimal id

-- CALL or `gone`
abbrev pub op_text : Op → List ℕ
op_text (Act call) = call_text call
op_text Gone = codes "gone"

-- `join GROUP`
abbrev pub join_of : List (List ℕ) → Option Call
join_of (g ∷ []) = Some (Join g)
join_of _ = None

-- `leave`
abbrev pub leave_of : List (List ℕ) → Option Call
leave_of [] = Some Leave
leave_of _ = None

-- `send TEXT`
abbrev pub send_of : List (List ℕ) → Option Call
send_of (text ∷ []) = option_map (λ message. Send message) (message_of text)
send_of _ = None

-- a rule to be inserted at a position of a group's table
abbrev pub insert_at : List ℕ → Option ℕ → Option Rule → Option Call
insert_at g position rule = do
  index ← position
  r ← rule
  Some (Insert g index r)

-- `insert GROUP POS EFFECT RIGHT WHO`
abbrev pub insert_of : List (List ℕ) → Option Call
insert_of (g ∷ position ∷ effect ∷ right ∷ who) = insert_at g (number_in 0 255 position) (rule_of effect right who)
insert_of _ = None

-- `remove GROUP ID`
abbrev pub remove_of : List (List ℕ) → Option Call
remove_of (g ∷ id ∷ []) = option_map (λ number. Remove g number) (u32_of id)
remove_of _ = None

-- the call of the words of a CALL; a name and a message may be of any length here
abbrev pub call_of : List (List ℕ) → Option Call
call_of [] = None
call_of (word ∷ arguments) =
    if bytes_eq word (codes "join") then join_of arguments
    else if bytes_eq word (codes "leave") then leave_of arguments
    else if bytes_eq word (codes "send") then send_of arguments
    else if bytes_eq word (codes "insert") then insert_of arguments
    else if bytes_eq word (codes "remove") then remove_of arguments
    else None

-- the words are `gone` alone
abbrev pub is_gone : List (List ℕ) → Bool
is_gone (word ∷ []) = bytes_eq word (codes "gone")
is_gone _ = false

-- the op of the words of a CALL or `gone`
abbrev pub op_of : List (List ℕ) → Option Op
op_of words = if is_gone words then Some Gone else option_map (λ call. Act call) (call_of words)

-- what a send carries is bytes
abbrev pub SendsBytes : Op → Type 0
SendsBytes (Act (Send message)) = AllByRecursion (λ byte. byte < 256) message
SendsBytes _ = Unit {0}

-- the names that a call has are accepted, and its message has at most 8,192 bytes
abbrev pub is_within_limits : Call → Bool
is_within_limits (Join g) = is_name g
is_within_limits Leave = true
is_within_limits (Send message) = nat_le (length message) MOST_MESSAGE_BYTES
is_within_limits (Insert g index rule) = is_name g
is_within_limits (Remove g id) = is_name g

-- the call of the op is within its limits
abbrev pub is_enterable : Op → Bool
is_enterable (Act call) = is_within_limits call
is_enterable Gone = true

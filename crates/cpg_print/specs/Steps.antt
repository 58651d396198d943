-- steps of the reading functions, which no contract of a public function cites
use Rattle.std.specs.Prelude.{ℕ, List, ◌∷◌, length, codes, Bool, true, false, nat_le, Option, Some, None, option_map, if◌then◌else◌}
use Rattle.std.specs.Str.{bytes_eq}
use Rattle.cpg_entry.specs.Names.{is_name}
use Rattle.cpg_entry.specs.declared.messages.TheConstants.{MOST_MESSAGE_BYTES}
use Rattle.cpg_entry.specs.declared.calls.Call.{Call}
use Rattle.cpg_entry.specs.declared.calls.Call.TheVariants as calls
use Rattle.cpg_entry.specs.declared.calls.Op.{Op}
use Rattle.cpg_text.specs.Percent.{message_of}
use Rattle.cpg_print.specs.declared.plain_calls.Verb.{Verb}
use Rattle.cpg_print.specs.declared.plain_calls.Verb.TheVariants.{Join, Send}
use Rattle.cpg_print.specs.Calls.{is_enterable}

-- at most 8,192 bytes, if there are any
abbrev pub is_short : Option ℕ → Bool
is_short None = false
is_short (Some count) = nat_le count MOST_MESSAGE_BYTES

-- the word spells a message of at most 8,192 bytes
abbrev pub sends_few : List ℕ → Bool
sends_few text = is_short (option_map (λ message. length message) (message_of text))

-- the words of an op say one within the limits of calls
abbrev pub keeps_limits : List (List ℕ) → Bool
keeps_limits (word ∷ argument ∷ more) = if bytes_eq word (codes "send") then sends_few argument else is_name argument
keeps_limits _ = true

-- the op, if it is within the limits of calls
abbrev pub within_limits : Op → Option Op
within_limits op = if is_enterable op then Some op else None

-- the word of a verb
abbrev pub verb_word : Verb → List ℕ
verb_word Join = codes "join"
verb_word Send = codes "send"

-- the call of a verb and its argument
abbrev pub call_by : Verb → List ℕ → Call
call_by Join g = calls.Join g
call_by Send message = calls.Send message

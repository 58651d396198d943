-- the fields of calls, rules and verdicts
use Rattle.std.specs.Prelude.{ℕ, List, [], ◌∷◌, ◌++◌, codes, nat_le, if◌then◌else◌}
use Rattle.std.specs.List.{list_all}
use Rattle.std.specs.Str.{is_utf8}
use Rattle.cpg_cred.specs.declared.bases.By.{By}
use Rattle.cpg_cred.specs.declared.bases.By.TheVariants as by
use Rattle.cpg_rules.specs.declared.rules.Rule.{Rule}
use Rattle.cpg_rules.specs.declared.rules.Who.{Who}
use Rattle.cpg_entry.specs.declared.calls.Call.TheVariants.{Join, Leave, Send, Insert, Remove}
use Rattle.cpg_entry.specs.declared.calls.Op.{Op}
use Rattle.cpg_entry.specs.declared.calls.Op.TheVariants.{Act, Gone}
use Rattle.cpg_record.specs.declared.verdicts.Reason.{Reason}
use Rattle.cpg_record.specs.declared.verdicts.Reason.TheVariants as reason
use Rattle.cpg_record.specs.declared.verdicts.Verdict.{Verdict}
use Rattle.cpg_record.specs.declared.verdicts.Verdict.TheVariants.{Allowed, Denied}
use Rattle.cpg_print.specs.Rules.{effect_text, right_text}
use Rattle.cpg_print.specs.Verdicts.{reason_text}
use Rattle.cpg_json.specs.Objects.{field, maybe, number, object, word}
use Rattle.cpg_json.specs.Strings.{hex_string, json_string, text_string}

-- the name of a group
abbrev pub group_field : List ℕ → List ℕ
group_field g = field (codes "group") (json_string g)

-- the exact bytes of a message, where one of them is no ASCII
abbrev pub hex_fields : List ℕ → List (List ℕ)
hex_fields message = if list_all (λ byte. nat_le byte 127) message then [] else field (codes "hex") (hex_string message) ∷ []

-- the characters of a message, where it is their UTF-8
abbrev pub text_fields : List ℕ → List (List ℕ)
text_fields message = if is_utf8 message then field (codes "text") (text_string message) ∷ [] else []

-- a message
abbrev pub message_fields : List ℕ → List (List ℕ)
message_fields message = field (codes "message") (json_string message) ∷ hex_fields message ++ text_fields message

-- whom a rule speaks of: a condition that is not there is `null`
abbrev pub who_object : Who → List ℕ
who_object who = object (maybe (codes "uid") who.uid ∷ maybe (codes "gid") who.gid ∷ maybe (codes "node") who.node ∷ [])

-- a rule
abbrev pub rule_fields : Rule → List (List ℕ)
rule_fields rule =
    field (codes "effect") (word (effect_text rule.effect)) ∷ field (codes "right") (word (right_text rule.right)) ∷ field (codes "who") (who_object rule.who) ∷ []

-- the name of an op
abbrev pub call_name : Op → List ℕ
call_name (Act (Join g)) = codes "join"
call_name (Act Leave) = codes "leave"
call_name (Act (Send message)) = codes "send"
call_name (Act (Insert g index rule)) = codes "insert"
call_name (Act (Remove g id)) = codes "remove"
call_name Gone = codes "gone"

-- what an op carries beside a group's name
abbrev pub carried_fields : Op → List (List ℕ)
carried_fields (Act (Send message)) = message_fields message
carried_fields (Act (Insert g index rule)) = number (codes "index") index ∷ rule_fields rule
carried_fields (Act (Remove g id)) = number (codes "id") id ∷ []
carried_fields _ = []

-- an op
abbrev pub call_fields : Op → List (List ℕ)
call_fields op = field (codes "call") (word (call_name op)) ∷ carried_fields op

-- what allowed an entry
abbrev pub by_fields : By → List (List ℕ)
by_fields (by.Rule id) = field (codes "by") (word (codes "rule")) ∷ number (codes "rule") id ∷ []
by_fields by.Default = field (codes "by") (word (codes "default")) ∷ []
by_fields by.Root = field (codes "by") (word (codes "root")) ∷ []
by_fields by.Free = field (codes "by") (word (codes "free")) ∷ []

-- the name of a reason: as it is printed, but a rule's without its number
abbrev pub reason_name : Reason → List ℕ
reason_name (reason.Rule id) = codes "rule"
reason_name why = reason_text why

-- the number of a reason's rule
abbrev pub reason_rule : Reason → List (List ℕ)
reason_rule (reason.Rule id) = number (codes "rule") id ∷ []
reason_rule _ = []

-- a verdict, and by what or why
abbrev pub verdict_fields : Verdict → List (List ℕ)
verdict_fields (Allowed by) = field (codes "verdict") (word (codes "allowed")) ∷ by_fields by
verdict_fields (Denied reason) = field (codes "verdict") (word (codes "denied")) ∷ field (codes "reason") (word (reason_name reason)) ∷ reason_rule reason

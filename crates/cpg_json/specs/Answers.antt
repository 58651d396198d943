-- the lines of what calls and commands are answered
use Rattle.std.specs.Prelude.{ℕ, List, [], ◌∷◌, ◌++◌, length, map, codes, decimal, Option, Some, None, Ok, Err}
use Rattle.cpg_cred.specs.declared.admission.Via.{Via}
use Rattle.cpg_cred.specs.declared.admission.Via.TheVariants.{RootUser, RootGroup, User, Group}
use Rattle.cpg_cred.specs.declared.refusals.Refusal.{Refusal}
use Rattle.cpg_cred.specs.declared.refusals.Refusal.TheVariants as refusal
use Rattle.cpg_rules.specs.declared.rules.Rule.{Rule}
use Rattle.cpg_entry.specs.declared.calls.Call.TheVariants.{Join, Insert, Remove}
use Rattle.cpg_entry.specs.declared.calls.Op.{Op}
use Rattle.cpg_entry.specs.declared.calls.Op.TheVariants.{Act}
use Rattle.cpg_entry.specs.declared.frames.Frame.{Frame}
use Rattle.cpg_entry.specs.declared.frames.Frame.TheVariants as frame
use Rattle.cpg_entry.specs.declared.frames.Packet.{Packet}
use Rattle.cpg_entry.specs.declared.frames.Token.{Token}
use Rattle.cpg_record.specs.declared.events.Event.{Event}
use Rattle.cpg_world_laws.specs.declared.replies.Reply.{Reply}
use Rattle.cpg_world_laws.specs.declared.replies.Reply.TheVariants.{Connected, Admitted, Closed, Sent, Delivered, Took, Members, Groups}
use Rattle.cpg_world_laws.specs.Replies.{Answer}
use Rattle.cpg_world_laws.specs.Worlds.{WorldValue}
use Rattle.cpg_step.specs.Looks.{LookForm, told_by}
use Rattle.cpg_step.specs.declared.commands.Look.{Look}
use Rattle.cpg_json.specs.Calls.{by_fields, call_name, carried_fields, group_field, rule_fields}
use Rattle.cpg_json.specs.Events.{event_fields}
use Rattle.cpg_json.specs.Objects.{array, field, head_of, kind, line, maybe, number, word}
use Rattle.cpg_cred.specs.Shown as shown
use Rattle.cpg_json.specs.Records.{caller_fields, count_json, process_array, record_json}
use Rattle.cpg_json.specs.Strings.{json_string}

-- what a refusal carries
abbrev pub refusal_carries : Refusal → List (List ℕ)
refusal_carries (refusal.Behind reached) = number (codes "place") reached ∷ []
refusal_carries (refusal.Denied by) = by_fields by
refusal_carries (refusal.BadLine n) = number (codes "line") n ∷ []
refusal_carries (refusal.Unopened n) = number (codes "line") n ∷ []
refusal_carries (refusal.BadItem n) = number (codes "line") n ∷ []
refusal_carries (refusal.BadValue n) = number (codes "line") n ∷ []
refusal_carries (refusal.UnknownName n) = number (codes "line") n ∷ []
refusal_carries (refusal.BadCommand n) = number (codes "line") n ∷ []
refusal_carries _ = []

-- a refusal: its number, its name, and what it carries
abbrev pub refusal_fields : Refusal → List (List ℕ)
refusal_fields why = number (codes "number") (shown.number why) ∷ field (codes "refusal") (word (shown.name why)) ∷ refusal_carries why

-- a refusal alone
abbrev pub refused_json : List ℕ → Refusal → List ℕ
refused_json head why = line (head_of (codes "refused") head ∷ refusal_fields why)

-- what lets credentials in
abbrev pub via_name : Via → List ℕ
via_name RootUser = codes "root-user"
via_name RootGroup = codes "root-group"
via_name User = codes "user"
via_name Group = codes "group"

-- whether credentials are let in, and by what
abbrev pub accept_json : Option Via → List ℕ
accept_json None = refused_json [] refusal.Access
accept_json (Some via) = line (kind (codes "accepted") ∷ field (codes "via") (word (via_name via)) ∷ [])

-- the event that was taken, or none
abbrev pub took_json : List ℕ → Option Event → List ℕ
took_json head None = line (head_of (codes "none") head ∷ [])
took_json head (Some event) = line (head_of (codes "event") head ∷ event_fields event)

-- a reply
abbrev pub reply_json : List ℕ → Reply → List ℕ
reply_json head (Connected conn) = line (head_of (codes "connected") head ∷ number (codes "connection") conn ∷ [])
reply_json head Admitted = line (head_of (codes "admitted") head ∷ [])
reply_json head Closed = line (head_of (codes "closed") head ∷ [])
reply_json head (Sent count) = line (head_of (codes "sent") head ∷ number (codes "frames") count ∷ [])
reply_json head (Delivered place) = line (head_of (codes "delivered") head ∷ maybe (codes "place") place ∷ [])
reply_json head (Took event) = took_json head event
reply_json head (Members processes) = line (head_of (codes "members") head ∷ field (codes "members") (array (map process_array processes)) ∷ [])
reply_json head (Groups names) = line (head_of (codes "groups") head ∷ field (codes "groups") (array (map json_string names)) ∷ [])

-- a reply or a refusal
abbrev pub answer_json : List ℕ → Answer → List ℕ
answer_json head (Ok reply) = reply_json head reply
answer_json head (Err why) = refused_json head why

-- the group that an op names
abbrev pub named_group : Op → List (List ℕ)
named_group (Act (Join g)) = group_field g ∷ []
named_group (Act (Insert g index rule)) = group_field g ∷ []
named_group (Act (Remove g id)) = group_field g ∷ []
named_group _ = []

-- an entry that was sent at its place
abbrev pub packet_fields : Packet → List (List ℕ)
packet_fields packet =
    number (codes "place") packet.place ∷ caller_fields packet.entry
    ++ field (codes "call") (word (call_name packet.entry.op)) ∷ named_group packet.entry.op ++ carried_fields packet.entry.op

-- the token
abbrev pub token_fields : Token → List (List ℕ)
token_fields token =
    number (codes "hop") token.hop ∷ number (codes "seq") token.seq ∷ number (codes "aru") token.aru
    ∷ maybe (codes "aru_id") token.aru_id ∷ field (codes "rtr") (array (map decimal token.rtr)) ∷ []

-- a frame
abbrev pub frame_json : List ℕ → Frame → List ℕ
frame_json head (frame.Packet packet) = line (head_of (codes "data") head ∷ packet_fields packet)
frame_json head (frame.Token token) = line (head_of (codes "token") head ∷ token_fields token)

-- a frame that was sent, if there is one of that number
abbrev pub show_json : List ℕ → Option Frame → List ℕ
show_json head (Some sent) = frame_json head sent
show_json head None = refused_json head refusal.NoFrame

-- a rule of a table, with its id
abbrev pub rule_json : List ℕ → ℕ × Rule → List ℕ
rule_json head rule = line (head_of (codes "rule") head ∷ number (codes "id") rule.0 ∷ rule_fields rule.1)

-- how many rules a table has
abbrev pub rule_count_json : List ℕ → ℕ → List ℕ
rule_count_json head count = line (head_of (codes "rules") head ∷ number (codes "rules") count ∷ [])

-- a node's safe mark
abbrev pub safe_json : List ℕ → ℕ → List ℕ
safe_json head place = line (head_of (codes "safe") head ∷ number (codes "place") place ∷ [])

-- what is looked at, as objects behind that head
abbrev pub looked_json : List ℕ → LookForm
looked_json head = record {
  frame = show_json head;
  past = record_json head;
  records = count_json head;
  rule = rule_json head;
  rules = rule_count_json head;
  safe = safe_json head;
}

-- what a command that only looks writes, each line behind that head
abbrev pub look_json : List ℕ → WorldValue → Look → List (List ℕ)
look_json head w look = told_by (looked_json head) w look

-- the lines of events
use Rattle.std.specs.Prelude.{ℕ, List, [], ◌∷◌, ◌++◌, map, codes}
use Rattle.cpg_record.specs.declared.connections.ConnId.{ConnId}
use Rattle.cpg_record.specs.declared.events.Event.{Event}
use Rattle.cpg_record.specs.declared.events.Event.TheVariants.{Verdict, Message, Change, RulesChanged}
use Rattle.cpg_record.specs.declared.moves.Move.{Move}
use Rattle.cpg_print.specs.Events.{cause_text}
use Rattle.cpg_json.specs.Calls.{group_field, message_fields, verdict_fields}
use Rattle.cpg_json.specs.Objects.{array, field, kind, line, number, object, word}
use Rattle.cpg_json.specs.Records.{conn_fields, members_field, process_array}

-- a member that left or joined, and why
abbrev pub move_object : Move → List ℕ
move_object move =
    object (number (codes "node") move.member.node ∷ number (codes "pid") move.member.pid ∷ field (codes "cause") (word (cause_text move.cause)) ∷ [])

-- those who left, or who joined
abbrev pub moves_field : List ℕ → List Move → List ℕ
moves_field name moves = field name (array (map move_object moves))

-- the place of an event, and what it is
abbrev pub told_fields : ℕ → List ℕ → List (List ℕ)
told_fields place name = number (codes "place") place ∷ field (codes "event") (word name) ∷ []

-- what an event says, whomever it is told
abbrev pub event_fields : Event → List (List ℕ)
event_fields (Verdict place verdict) = told_fields place (codes "verdict") ++ verdict_fields verdict
event_fields (Message place g node pid message) =
    told_fields place (codes "message") ++ group_field g ∷ field (codes "sender") (process_array (node, pid)) ∷ message_fields message
event_fields (Change place g members left joined) =
    told_fields place (codes "change") ++ group_field g ∷ members_field members ∷ moves_field (codes "left") left ∷ moves_field (codes "joined") joined ∷ []
event_fields (RulesChanged place g) = told_fields place (codes "rules") ++ group_field g ∷ []

-- an event that a connection is told
abbrev pub event_json : ConnId → Event → List ℕ
event_json conn event = line (kind (codes "event") ∷ conn_fields conn ++ event_fields event)

-- the head of a connection's events
abbrev pub inbox_json : ConnId → List ℕ
inbox_json conn = line (kind (codes "inbox") ∷ conn_fields conn)

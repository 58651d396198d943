-- events as they are printed
use Rattle.std.specs.Prelude.{ℕ, List, ◌++◌, codes, decimal}
use Rattle.cpg_record.specs.declared.connections.ConnId.{ConnId}
use Rattle.cpg_record.specs.declared.events.Event.{Event}
use Rattle.cpg_record.specs.declared.events.Event.TheVariants.{Verdict, Message, Change, RulesChanged}
use Rattle.cpg_record.specs.declared.moves.Cause.{Cause}
use Rattle.cpg_record.specs.declared.moves.Cause.TheVariants as cause
use Rattle.cpg_record.specs.declared.moves.Move.{Move}
use Rattle.cpg_record.specs.Receiving.{place_of}
use Rattle.cpg_text.specs.Percent.{text_of}
use Rattle.cpg_text.specs.Words.{listed}
use Rattle.cpg_print.specs.Entries.{conn_text}
use Rattle.cpg_print.specs.Records.{member_text, members_text}
use Rattle.cpg_print.specs.Verdicts.{verdict_text}

-- why a member left or joined
abbrev pub cause_text : Cause → List ℕ
cause_text cause.Leave = codes "leave"
cause_text cause.Down = codes "down"
cause_text cause.Join = codes "join"

-- NODE/PID and why
abbrev pub move_text : Move → List ℕ
move_text move = member_text move.member ++ codes ":" ++ cause_text move.cause

-- L, a list of moves
abbrev pub moves_text : List Move → List ℕ
moves_text moves = listed move_text moves

-- what an event says after its place
unfoldable pub news_text : Event → List ℕ
news_text (Verdict place verdict) = codes "verdict " ++ verdict_text verdict
news_text (Message place g node pid message) =
    codes "message " ++ g ++ codes " " ++ decimal node ++ codes " " ++ decimal pid ++ codes " " ++ text_of message
news_text (Change place g members left joined) =
    codes "change " ++ g ++ codes " members " ++ members_text members ++ codes " left " ++ moves_text left ++ codes " joined " ++ moves_text joined
news_text (RulesChanged place g) = codes "rules " ++ g

-- event PLACE and what it says
abbrev pub event_line : Event → List ℕ
event_line event = codes "event " ++ decimal (place_of event) ++ codes " " ++ news_text event ++ codes "\n"

-- the head of a connection's events
abbrev pub inbox_line : ConnId → List ℕ
inbox_line conn = codes "inbox " ++ conn_text conn ++ codes "\n"

-- A client's desk, and what events tell it.
use Rattle.std.specs.Prelude.{ℕ, Bool, true, false, List, [], ◌∷◌, ◌++◌, map, drop, Option, Some, None, option_to_list, if◌then◌else◌}
use Rattle.std.specs.List.{slice_get}
use Rattle.cpg_record.specs.declared.events.Event.{Event}
use Rattle.cpg_record.specs.declared.events.Event.TheVariants as event
use Rattle.cpg_record.specs.declared.verdicts.Verdict.{Verdict}
use Rattle.cpg_record.specs.Membership.{is_allowed}
use Rattle.cpg_ask.specs.declared.codes.AskCode.{AskCode}
use Rattle.cpg_ask.specs.declared.codes.AskCode.TheVariants as codes
use Rattle.cpg_ask.specs.declared.greetings.Greeting.{Greeting}
use Rattle.cpg_ask.specs.Naming.{plain}
use Rattle.cpg_ask.specs.Statuses.{verdict_status, denial_of}
use Rattle.cpg_ask.specs.Tells.{Tell, Answer, Denied, Message, Change, still, moved, tell_bytes}
use Rattle.cpg_serve.specs.declared.desks.Owed.{Owed}

-- a client's desk
pub record DeskValue : Type 0 where
  -- where the client is, as it is greeted
  pub greeting : Greeting
  -- the calls that no verdict told yet, the oldest first
  pub owed : List Owed
  -- the event that was taken and is not spelled yet
  pub next : Option Event
  -- the bytes that were told and are not written yet
  pub out : List ℕ

-- the desk of a client that was told nothing, and is owed nothing
abbrev pub new_desk : Greeting → DeskValue
new_desk greeting = record { greeting = greeting; owed = []; next = None; out = [] }

-- the desk where the client was told that, too
abbrev pub told : DeskValue → Tell → DeskValue
told d tell = record { greeting = d.greeting; owed = d.owed; next = d.next; out = d.out ++ tell_bytes tell }

-- the desk from which so many bytes were written
abbrev pub wrote : DeskValue → ℕ → DeskValue
wrote d count = record { greeting = d.greeting; owed = d.owed; next = d.next; out = drop count d.out }

-- the call is a message
abbrev pub is_send : AskCode → Bool
is_send codes.Send = true
is_send _ = false

-- what the verdict on a message tells: that it was denied, if it was
abbrev pub send_tell : Verdict → Option Tell
send_tell verdict = if is_allowed verdict then None else Some (Denied (verdict_status verdict) (denial_of verdict))

-- what the verdict on a call tells: an answer with the call's tag
abbrev pub verdict_tell : Owed → Verdict → Option Tell
verdict_tell owed verdict = if is_send owed.code then send_tell verdict else Some (Answer owed.code owed.tag (verdict_status verdict))

abbrev pub answered : Option Owed → Verdict → Option Tell
answered None verdict = None
answered (Some owed) verdict = verdict_tell owed verdict

-- what an event tells, its group by its plain name, where that is the first call that is owed a verdict
abbrev pub event_tell : Option Owed → Event → Option Tell
event_tell owed (event.Verdict place verdict) = answered owed verdict
event_tell owed (event.Message place group node pid message) = Some (Message node pid (plain group) message)
event_tell owed (event.Change place group members left joined) = Some (Change (plain group) (map still members) (map moved left) (map moved joined))
event_tell owed (event.RulesChanged place group) = None

abbrev pub is_verdict : Event → Bool
is_verdict (event.Verdict place verdict) = true
is_verdict _ = false

-- the calls that are owed a verdict after the event
abbrev pub owed_after : List Owed → Event → List Owed
owed_after owed event = if is_verdict event then drop 1 owed else owed

-- the bytes of a tell, if there is one
abbrev pub bytes_of : Option Tell → List ℕ
bytes_of None = []
bytes_of (Some tell) = tell_bytes tell

-- the desk where the event is spelled that was taken, if one was
abbrev pub spelled : DeskValue → Option Event → DeskValue
spelled d None = d
spelled d (Some event) = record { greeting = d.greeting; owed = owed_after d.owed event; next = None; out = d.out ++ bytes_of (event_tell (slice_get d.owed 0) event) }

-- what events tell, one after another
abbrev pub tells : List Owed → List Event → List Tell
tells owed [] = []
tells owed (event ∷ events) = option_to_list (event_tell (slice_get owed 0) event) ++ tells (owed_after owed event) events

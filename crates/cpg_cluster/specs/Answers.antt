-- what the commands of a script are answered, and what becomes of its sessions
use Rattle.std.specs.Prelude.{ℕ, ◌≡◌, ◌≢◌, ⊤, List, [], ◌∷◌, ◌++◌, length, Option, Some, None, Result, Ok, Err}
use Rattle.std.specs.List.{slice_get}
use Rattle.std.specs.Option.{option_flatten}
use mathlib.Core.List.{IsPrefix}
use Rattle.cpg_cred.specs.declared.credentials.Cred.{Cred}
use Rattle.cpg_cred.specs.declared.refusals.Refusal.{Refusal}
use Rattle.cpg_cred.specs.declared.refusals.Refusal.TheVariants as refusal
use Rattle.cpg_record.specs.declared.events.Event.{Event}
use Rattle.cpg_record.specs.Events.{inbox}
use Rattle.cpg_record.specs.Places.{Begins}
use Rattle.cpg_board.specs.Seats.{SeatValue}
use Rattle.cpg_ring.specs.Worlds.{item, with_item}
use Rattle.cpg_station.specs.Serving.{OverFront, SubmitRefuses, moved_on}
use Rattle.cpg_world_laws.specs.declared.events.WorldEvent.{WorldEvent}
use Rattle.cpg_world_laws.specs.declared.events.WorldEvent.TheVariants as event
use Rattle.cpg_world_laws.specs.declared.replies.Reply.TheVariants as replied
use Rattle.cpg_world_laws.specs.Worlds.{WorldValue}
use Rattle.cpg_history.specs.Histories.{FrontValue}
use Rattle.cpg_history.specs.Members.{Told, RefusalTold}
use Rattle.cpg_daemon.specs.Clusters.{IsMarkIn}
use Rattle.cpg_daemon.specs.Sessions.{SessionValue, IsNew, ConnectRefuses, IsListed, AreNamed, IsEndRefusal}
use Rattle.cpg_daemon.specs.Submitting.{SubmitsOne}
use Rattle.cpg_daemon.specs.Taking.{take_of}
use Rattle.cpg_cluster.specs.declared.commands.Ask.{Ask}
use Rattle.cpg_cluster.specs.declared.commands.Ask.TheVariants as ask
use Rattle.cpg_cluster.specs.declared.commands.Command.{Command}
use Rattle.cpg_cluster.specs.declared.commands.Command.TheVariants as command
use Rattle.cpg_cluster.specs.declared.replies.Reply.{Reply}
use Rattle.cpg_cluster.specs.declared.replies.Reply.TheVariants.{Opened, Admitted, Took, Nothing, Members, Groups, Audit, Closed, Safe}

-- a reply, or a refusal
abbrev pub Answer : Type 0
Answer = Result Reply Refusal

-- by their numbers, from 1 as connections were accepted, the sessions: none where one was closed
abbrev pub Slots : Type 0
Slots = List (Option SessionValue)

-- The sessions that a script was given; and a beginning of the history in which those that were closed have ended, and which goes on from those in
-- which the marks that were told are so.
pub record SessionsValue : Type 0 where
  pub slots : Slots
  pub seen : List WorldEvent

-- before the first command
abbrev pub no_sessions : SessionsValue
no_sessions = record { slots = []; seen = [] }

-- what a front has seen, where there is one
abbrev pub seen_of : Option FrontValue → List WorldEvent
seen_of None = []
seen_of (Some front) = front.seen

-- the open session of that number, if there is one
abbrev pub session_at : Slots → ℕ → Option SessionValue
session_at slots number = option_flatten (item slots number)

-- A session that was opened: the nodes' list lets it in, and its Connect came to the history, which starts so.
abbrev pub IsOpened : WorldValue → ℕ → ℕ → Cred → SessionValue → Type 0
IsOpened start node pid cred session =
    IsNew start.list node pid cred session × Told start [] (event.Connect node pid cred) (Ok (replied.Connected session.who.id.conn)) session.seen

-- what `connect` is answered: the next number, or why there is no session
abbrev pub IsConnected : WorldValue → ℕ → ℕ → Cred → Slots → Answer → Slots → Type 0
IsConnected start node pid cred old (Ok (Opened number)) new =
    (session : SessionValue) × IsOpened start node pid cred session × (new ≡ old ++ Some session ∷ []) × (number ≡ length new)
IsConnected start node pid cred old (Err refusal.Memory) new = new ≡ old
IsConnected start node pid cred old (Err why) new = ConnectRefuses start.list cred why × (new ≡ old)
IsConnected _ _ _ _ _ _ _ = ⊥

-- the session is the same, and its seat knows no less
abbrev pub Stays : SessionValue → SessionValue → Type 0
Stays before after = (after.who ≡ before.who) × Begins before.seat after.seat

-- the same, and it has seen no less of the history
abbrev pub GoesOn : SessionValue → SessionValue → Type 0
GoesOn before after = Stays before after × IsPrefix before.seen after.seen

-- an event that was waited for: the item of the session's inbox that follows those taken
abbrev pub IsAwaited : SessionValue → Event → SeatValue → Type 0
IsAwaited before event seat = OverFront before.seat seat (λ front. slice_get (inbox front before.who.id) before.who.taken ≡ Some event)

-- why waiting ends: never with Behind
abbrev pub EndsWait : Refusal → Type 0
EndsWait refusal.Memory = ⊤
EndsWait refusal.Stopped = ⊤
EndsWait _ = ⊥

-- The event that was waited for is the reply to a take of the session in the world that the take came to.
abbrev pub IsTold : WorldValue → SessionValue → Event → SessionValue → Type 0
IsTold start before came after = Told start before.seen (take_of before) (Ok (replied.Took (Some came))) after.seen

-- the session's listing, as an event of the history
abbrev pub list_of : SessionValue → List ℕ → WorldEvent
list_of session g = event.List session.who.id.node session.who.id.conn g

-- and of all groups
abbrev pub groups_of : SessionValue → WorldEvent
groups_of session = event.Groups session.who.id.node session.who.id.conn

-- What an open session is answered by nodes whose history starts so, and what it is then. What is answered is the reply to an event that came to
-- the history after all that the session had seen; an audit is none.
abbrev pub Serves : WorldValue → SessionValue → Ask → Answer → SessionValue → Type 0
Serves start before (ask.Call call) (Ok Admitted) after = SubmitsOne start before call after
Serves start before (ask.Call call) (Err refusal.Memory) after = after ≡ before
Serves start before (ask.Call call) (Err why) after = SubmitRefuses call why × (after ≡ before)
Serves start before ask.Wait (Ok (Took came)) after =
    IsAwaited before came after.seat × IsTold start before came after × (after.who ≡ moved_on before.who (Some came)) × Begins before.seat after.seat
Serves start before ask.Wait (Ok (Nothing seen)) after = GoesOn before after × (seen ≡ length after.seat)
Serves start before ask.Wait (Err why) after = EndsWait why × GoesOn before after
Serves start before (ask.List g) (Ok (Members list)) after =
    IsListed before g after.seat (Ok list) × Told start before.seen (list_of before g) (Ok (replied.Members list)) after.seen × Stays before after
Serves start before (ask.List g) (Err why) after = IsListed before g after.seat (Err why) × RefusalTold start before.seen (list_of before g) why after.seen × Stays before after
Serves start before ask.Groups (Ok (Groups names)) after =
    AreNamed before after.seat (Ok names) × Told start before.seen (groups_of before) (Ok (replied.Groups names)) after.seen × Stays before after
Serves start before ask.Groups (Err why) after = AreNamed before after.seat (Err why) × (after.seen ≡ before.seen) × Stays before after
Serves start before ask.Audit (Ok (Audit seat)) after = Begins before.seat seat × (after ≡ before)
Serves start before ask.Audit (Err refusal.Memory) after = after ≡ before
Serves _ _ _ _ _ = ⊥

-- what is answered to a number that has this session, if an open one, and what the number has then
abbrev pub IsServed : WorldValue → Ask → Option SessionValue → Answer → Option SessionValue → Type 0
IsServed start asked None answer after = (answer ≡ Err refusal.NoConnection) × (after ≡ None)
IsServed start asked (Some before) answer None = ⊥
IsServed start asked (Some before) answer (Some after) = Serves start before asked answer after

-- The session's Disconnect came to the history after all that the session had seen, and is in that beginning of it, which is no shorter than the
-- one before.
pub record EndsIn (start : WorldValue) (before : SessionValue) (old new : List WorldEvent) : Type 0 where
  pub seen : List WorldEvent
  pub told : Told start before.seen (event.Disconnect before.who.id.node before.who.id.conn) (Ok replied.Closed) seen
  pub here : IsPrefix seen new
  pub longer : IsPrefix old new

-- what is answered to its `close`, where that beginning of the history becomes this one
abbrev pub IsEnded : WorldValue → List WorldEvent → List WorldEvent → Option SessionValue → Answer → Option SessionValue → Type 0
IsEnded start old new None answer after = (answer ≡ Err refusal.NoConnection) × (after ≡ None) × (new ≡ old)
IsEnded start old new (Some before) (Ok Closed) after = (after ≡ None) × EndsIn start before old new
IsEnded start old new (Some before) (Err why) after = IsEndRefusal why × (after ≡ Some before) × (new ≡ old)
IsEnded _ _ _ _ _ _ = ⊥

-- the number's session goes over so, and the others stay
abbrev pub AtNumber : (Option SessionValue → Answer → Option SessionValue → Type 0) → ℕ → Slots → Answer → Slots → Type 0
AtNumber Goes number old answer new =
    (after : Option SessionValue) × Goes (session_at old number) answer after × (new ≡ with_item old number after)

-- The place is the node's mark after a beginning of the history, which begins this one, and this one is no shorter than the one before.
pub record MarksIn (start : WorldValue) (node place : ℕ) (old new : List WorldEvent) : Type 0 where
  pub seen : List WorldEvent
  pub mark : IsMarkIn start seen node place
  pub here : IsPrefix seen new
  pub longer : IsPrefix old new

-- what `safe` is answered
abbrev pub IsMark : WorldValue → ℕ → List WorldEvent → Answer → List WorldEvent → Type 0
IsMark start node old (Ok (Safe place)) new = MarksIn start node place old new
IsMark start node old _ new = ⊥

-- What a command may be answered over running nodes whose history starts so, and the sessions after it.
abbrev pub MayAnswer : WorldValue → SessionsValue → Command → Answer → SessionsValue → Type 0
MayAnswer start old (command.Connect node pid cred) answer new = IsConnected start node pid cred old.slots answer new.slots × (new.seen ≡ old.seen)
MayAnswer start old (command.Ask number asked) answer new = AtNumber (IsServed start asked) number old.slots answer new.slots × (new.seen ≡ old.seen)
MayAnswer start old (command.Close number) answer new = AtNumber (IsEnded start old.seen new.seen) number old.slots answer new.slots
MayAnswer start old (command.Safe node) answer new = IsMark start node old.seen answer new.seen × (new.slots ≡ old.slots)

-- What commands are answered, one after the other, each over the sessions that it meets. Want of memory is no answer.
abbrev pub AreAnswered : WorldValue → SessionsValue → List Command → List Answer → SessionsValue → Type 0
AreAnswered start old [] [] new = new ≡ old
AreAnswered start old (command ∷ commands) (answer ∷ answers) new =
    (between : SessionsValue) × MayAnswer start old command answer between × (answer ≢ Err refusal.Memory) × AreAnswered start between commands answers new
AreAnswered _ _ _ _ _ = ⊥

-- What a session takes in one go: events one after the other, each as `take` gives one.
use Rattle.std.specs.Prelude.{ℕ, ◌≡◌, ◌⊎◌, ◌<◌, Bool, true, false, List, [], ◌∷◌, ◌++◌, length, Option, Some, None, Result, Ok, Err, IfOk, OnErr}
use Rattle.std.specs.List.{slice_get}
use Rattle.cpg_cred.specs.declared.refusals.Refusal.{Refusal}
use Rattle.cpg_record.specs.declared.events.Event.{Event}
use Rattle.cpg_record.specs.Events.{inbox}
use Rattle.cpg_record.specs.Places.{Begins}
use Rattle.cpg_board.specs.Seats.{records_of}
use Rattle.cpg_station.specs.Serving.{moved_on}
use Rattle.cpg_world_laws.specs.declared.events.WorldEvent.{WorldEvent}
use Rattle.cpg_world_laws.specs.declared.events.WorldEvent.TheVariants.{Take}
use Rattle.cpg_world_laws.specs.declared.replies.Reply.TheVariants.{Took}
use Rattle.cpg_world_laws.specs.Replies.{IsReply}
use Rattle.cpg_world_laws.specs.Worlds.{WorldValue, runs}
use Rattle.cpg_history.specs.Members.{Told}
use Rattle.cpg_daemon.specs.Sessions.{SessionValue, IsTaken}

-- a take of the session, as an event of the history
abbrev pub take_of : SessionValue → WorldEvent
take_of session = Take session.who.id.node session.who.id.conn

-- the world after all that the session has seen answers its take with none
abbrev pub AnswersNone : WorldValue → SessionValue → Type 0
AnswersNone start session = IsReply (runs start session.seen) (take_of session) (Ok (Took None))

-- There is no event for the session: none among the records that it has seen, and that world answers so.
pub record HasNone (start : WorldValue) (session : SessionValue) : Type 0 where
  pub records : slice_get (inbox (records_of session.seat) session.who.id) session.who.taken ≡ None
  pub history : AnswersNone start session

-- What a session has seen after a take. The answer is the reply of the world after some beginning of the history, which begins with all that the
-- session had seen, and the take has been seen too. But a none that repeats the last one adds nothing: the world after all that the session had
-- seen answers so already.
abbrev pub TakeTold : WorldValue → SessionValue → List WorldEvent → Option Event → Type 0
TakeTold start before after (Some event) = Told start before.seen (take_of before) (Ok (Took (Some event))) after
TakeTold start before after None = Told start before.seen (take_of before) (Ok (Took None)) after ⊎ (AnswersNone start before × (after ≡ before.seen))

-- One take of a session: all that `take` says of its answer, and of the session that it leaves.
pub record TakesOne (start : WorldValue) (before : SessionValue) (answer : Result (Option Event) Refusal) (after : SessionValue) : Type 0 where
  pub answers : IsTaken before after.seat answer
  pub history : IfOk answer (TakeTold start before after.seen)
  pub who : IfOk answer (λ event. after.who ≡ moved_on before.who event)
  pub err : OnErr answer ((after.who ≡ before.who) × (after.seen ≡ before.seen))
  pub seat : Begins before.seat after.seat

-- whether there was one event more; it was put behind those of a list
abbrev pub TakesNext : WorldValue → SessionValue → List Event → Bool → List Event → SessionValue → Type 0
TakesNext start before old true new after = (event : Event) × TakesOne start before (Ok (Some event)) after × (new ≡ old ++ event ∷ [])
TakesNext start before old false new after = TakesOne start before (Ok None) after × (new ≡ old)

-- these events were taken, one after the other, and no other
abbrev pub TakesEach : WorldValue → SessionValue → List Event → SessionValue → Type 0
TakesEach start before [] after = after ≡ before
TakesEach start before (event ∷ events) after = (next : SessionValue) × TakesOne start before (Ok (Some event)) next × TakesEach start next events after

-- So many events were taken, and stand behind those of a list.
pub record TakesOnto (start : WorldValue) (before : SessionValue) (old : List Event) (count : ℕ) (new : List Event) (after : SessionValue) : Type 0 where
  pub events : List Event
  pub each : TakesEach start before events after
  pub many : length events ≡ count
  pub list : new ≡ old ++ events

-- So many were taken, and then one take more answered that.
pub record TakesUntil (start : WorldValue) (before : SessionValue) (old : List Event) (count : ℕ) (answer : Result (Option Event) Refusal) (new : List Event) (after : SessionValue) : Type 0 where
  pub between : SessionValue
  pub taken : TakesOnto start before old count new between
  pub last : TakesOne start between answer after

-- What `take_many` answers: that as many were taken as were asked for; or fewer, after which there was no event; or a
-- refusal, before which some were taken, fewer than were asked for.
abbrev pub IsTakenMany : WorldValue → ℕ → SessionValue → List Event → Result ℕ Refusal → List Event → SessionValue → Type 0
IsTakenMany start most before old (Ok count) new after = ((count ≡ most) × TakesOnto start before old count new after) ⊎ ((count < most) × TakesUntil start before old count (Ok None) new after)
IsTakenMany start most before old (Err why) new after = (count : ℕ) × (count < most) × TakesUntil start before old count (Err why) new after

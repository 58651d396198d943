-- What a session is seen as, and what it is answered.
use Rattle.std.specs.Prelude.{ℕ, ◌≡◌, ◌<◌, List, [], length, Option, Result, Ok, Err}
use Rattle.std.specs.List.{slice_get}
use Rattle.cpg_cred.specs.Listed.{Listed}
use Rattle.cpg_cred.specs.declared.credentials.Cred.{Cred}
use Rattle.cpg_cred.specs.declared.refusals.Refusal.{Refusal}
use Rattle.cpg_cred.specs.declared.refusals.Refusal.TheVariants.{Memory, Access, ConnectionsFull, Behind, Stopped, Denied}
use Rattle.cpg_record.specs.declared.events.Event.{Event}
use Rattle.cpg_record.specs.Events.{inbox}
use Rattle.cpg_record.specs.Listings.{listing, AreGroups}
use Rattle.cpg_node.specs.declared.connections.Connection.{Connection}
use Rattle.cpg_board.specs.Seats.{SeatValue}
use Rattle.cpg_world_laws.specs.declared.events.WorldEvent.{WorldEvent}
use Rattle.cpg_world_laws.specs.declared.events.WorldEvent.TheVariants.{Disconnect}
use Rattle.cpg_world_laws.specs.declared.replies.Reply.TheVariants.{Closed}
use Rattle.cpg_world_laws.specs.Worlds.{WorldValue}
use Rattle.cpg_history.specs.Members.{Told}
use Rattle.cpg_station.specs.Admitting.{Accepts, IsAdmitted}
use Rattle.cpg_station.specs.Serving.{OverFront, asker_of}

-- A session: its connection, with how many events it took, the records that it has seen, and the beginning of the history that it has seen.
pub record SessionValue : Type 0 where
  pub who : Connection
  pub seat : SeatValue
  pub seen : List WorldEvent

-- the session of a process that was let in just now, which has seen nothing
abbrev pub IsNew : Listed → ℕ → ℕ → Cred → SessionValue → Type 0
IsNew list node pid cred session = IsAdmitted list node pid cred session.who × (session.seat ≡ [])

-- why no session is given
abbrev pub ConnectRefuses : Listed → Cred → Refusal → Type 0
ConnectRefuses list cred Access = ¬ Accepts list cred
ConnectRefuses list cred ConnectionsFull = Accepts list cred
ConnectRefuses list cred Memory = Accepts list cred
ConnectRefuses list cred Stopped = Unit {0}
ConnectRefuses list cred _ = ⊥

-- Why a session is not answered. Behind: the node has only that many records, fewer than the session had seen.
abbrev pub AnswersNot : SeatValue → Refusal → Type 0
AnswersNot before (Behind reached) = reached < length before
AnswersNot before Memory = Unit {0}
AnswersNot before Stopped = Unit {0}
AnswersNot before _ = ⊥

-- What `take` answers: the item of the session's inbox that follows those taken, if there is one.
abbrev pub IsTaken : SessionValue → SeatValue → Result (Option Event) Refusal → Type 0
IsTaken before seat (Ok event) = OverFront before.seat seat (λ front. event ≡ slice_get (inbox front before.who.id) before.who.taken)
IsTaken before seat (Err why) = AnswersNot before.seat why

-- What `list` answers: the listing, or the denial.
abbrev pub IsListed : SessionValue → List ℕ → SeatValue → Result (List (ℕ × ℕ)) Refusal → Type 0
IsListed before g seat (Ok list) = OverFront before.seat seat (λ front. listing front (asker_of before.who) g ≡ Ok list)
IsListed before g seat (Err (Denied by)) = OverFront before.seat seat (λ front. listing front (asker_of before.who) g ≡ Err by)
IsListed before g seat (Err why) = AnswersNot before.seat why

-- What `groups` answers: the names.
abbrev pub AreNamed : SessionValue → SeatValue → Result (List (List ℕ)) Refusal → Type 0
AreNamed before seat (Ok names) = OverFront before.seat seat (λ front. AreGroups front (asker_of before.who) names)
AreNamed before seat (Err why) = AnswersNot before.seat why

-- why a session isn't ended
abbrev pub IsEndRefusal : Refusal → Type 0
IsEndRefusal Memory = Unit {0}
IsEndRefusal Stopped = Unit {0}
IsEndRefusal _ = ⊥

-- the session's end came to the history, after all that the session had seen
abbrev pub IsClosed : WorldValue → SessionValue → Type 0
IsClosed start session = (seen : List WorldEvent) × Told start session.seen (Disconnect session.who.id.node session.who.id.conn) (Ok Closed) seen

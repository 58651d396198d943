-- What a station answers a session is what the session is to be answered, whatever the station was under its lock.
use Rattle.std.proofs.Common.{ℕ, List, Result, Ok, Err}
use Rattle.cpg_cred.specs.Listed.{Listed}
use Rattle.cpg_cred.specs.declared.credentials.Cred.{Cred}
use Rattle.cpg_cred.specs.declared.refusals.Refusal.{Refusal}
use Rattle.cpg_cred.specs.declared.refusals.Refusal.TheVariants as refusal
use Rattle.cpg_board.specs.Seats.{SeatValue}
use Rattle.cpg_station.specs.Admitting.{AdmitsNot}
use Rattle.cpg_station.specs.Serving.{GivesNot, IsListFor, IsGroupsFor}
use Rattle.cpg_station.specs.Stations.{StationValue}
use Rattle.cpg_world_laws.specs.declared.events.WorldEvent.{WorldEvent}
use Rattle.cpg_world_laws.specs.declared.events.WorldEvent.TheVariants.{Disconnect}
use Rattle.cpg_world_laws.specs.declared.replies.Reply.TheVariants.{Closed}
use Rattle.cpg_world_laws.specs.Worlds.{WorldValue}
use Rattle.cpg_history.specs.Members.{Told}
use Rattle.cpg_daemon.specs.Sessions.{SessionValue, ConnectRefuses, AnswersNot, IsListed, AreNamed, IsClosed}

-- an end that a front of the history has seen
pub closed_at : (start : WorldValue) (session : SessionValue) (seen : List WorldEvent) → Told start session.seen (Disconnect session.who.id.node session.who.id.conn) (Ok Closed) seen → IsClosed start session
closed_at start session seen told = (seen, told)

pub connect_refuses : (list : Listed) (node pid : ℕ) (cred : Cred) (old new : StationValue) (why : Refusal) → AdmitsNot list node pid cred old why new → ConnectRefuses list cred why
connect_refuses list node pid cred old new refusal.Stopped not = tt
connect_refuses list node pid cred old new refusal.Access not = not.0
connect_refuses list node pid cred old new refusal.ConnectionsFull not = not.0
connect_refuses list node pid cred old new refusal.Memory not = not.0
connect_refuses list node pid cred old new why not = absurd not

down : (s : StationValue) (before : SeatValue) (why : Refusal) → GivesNot s before why → AnswersNot before why
down s before refusal.Stopped is = tt
down s before (refusal.Behind reached) is = is.2
down s before refusal.Memory is = tt
down s before why is = absurd is

pub listed : (session : SessionValue) (g : List ℕ) (s : StationValue) (seat : SeatValue) (result : Result (List (ℕ × ℕ)) Refusal) → IsListFor session.who g session.seat s seat result → IsListed session g seat result
listed session g s seat (Ok list) is = is
listed session g s seat (Err (refusal.Denied by)) is = is
listed session g s seat (Err why) is = down s session.seat why is

pub named : (session : SessionValue) (s : StationValue) (seat : SeatValue) (result : Result (List (List ℕ)) Refusal) → IsGroupsFor session.who session.seat s seat result → AreNamed session seat result
named session s seat (Ok names) is = is
named session s seat (Err why) is = down s session.seat why is

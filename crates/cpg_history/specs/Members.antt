-- Nodes that stand for the nodes of a history's worlds, and frames that were sent in them.
use Rattle.std.specs.Prelude.{◌≡◌, ◌⊎◌, ℕ, suc, ◌+◌, Bool, true, false, List, [], ◌∷◌, ◌++◌, Option, Some, None, Result, Ok, Err, slice_get}
use Rattle.std.specs.List.{AllByRecursion}
use mathlib.Core.List.{IsPrefix}
use Rattle.cpg_cred.specs.declared.refusals.Refusal.{Refusal}
use Rattle.cpg_cred.specs.declared.refusals.Refusal.TheVariants.{Denied}
use Rattle.cpg_wire.specs.Reading.{frame_of}
use Rattle.cpg_ring.specs.States.{Frame, safe_mark}
use Rattle.cpg_ring.specs.Worlds.{item}
use Rattle.cpg_node.specs.Nodes.{NodeValue}
use Rattle.cpg_world_laws.specs.declared.events.WorldEvent.{WorldEvent}
use Rattle.cpg_world_laws.specs.Worlds.{WorldValue, runs}
use Rattle.cpg_world_laws.specs.Replies.{Answer, IsReply}
use Rattle.cpg_station.specs.Stations.{StationValue}
use Rattle.cpg_history.specs.declared.histories.Beginning.{Beginning}
use Rattle.cpg_board.specs.declared.words.View.{View}
use Rattle.cpg_history.specs.Histories.{first_world}
use Rattle.cpg_history.specs.Traces.{TraceValue, IsTraceOf, new_trace}

-- after these events the node of that number is x
abbrev pub IsAt : WorldValue → List WorldEvent → ℕ → NodeValue → Type 0
IsAt start seen n x = item (runs start seen).nodes n ≡ Some x

-- A station with its node's number, whether it stands in for one that was taken away, the beginning of the history that its pen has seen, and
-- what was recorded of its node's events.
pub record MemberValue : Type 0 where
  pub id : ℕ
  pub station : StationValue
  pub spare : Bool
  pub seen : List WorldEvent
  pub trace : TraceValue

abbrev pub member : ℕ → StationValue → Bool → List WorldEvent → TraceValue → MemberValue
member id s spare seen trace = record { id = id; station = s; spare = spare; seen = seen; trace = trace }

-- what each of these members has seen begins that
abbrev pub Began : List MemberValue → List WorldEvent → Type 0
Began members front = AllByRecursion (λ (m : MemberValue). IsPrefix m.seen front) members

-- each of these members has seen just that: its node is that node of the world after it, and it has recorded its node's events of it
abbrev pub HaveSeen : List MemberValue → List WorldEvent → Type 0
HaveSeen members front = AllByRecursion (λ (m : MemberValue). m.seen ≡ front) members

-- the pen adds the events of that node alone, which is x since all that the pen has seen
abbrev pub IsPenOf : WorldValue → View → ℕ → NodeValue → Type 0
IsPenOf start pen id x = (pen.from ≡ id) × (pen.to ≡ suc id) × IsAt start pen.seen id x

-- it is a new world
abbrev pub IsNewWorld : WorldValue → Type 0
IsNewWorld start = (b : Beginning) × (first_world b ≡ start)

-- The history begins with a new world. A spare is halted. Any other station's node is that node of the world after all that its pen has seen.
pub record IsMember (start : WorldValue) (id : ℕ) (s : StationValue) (spare : Bool) (pen : View) : Type 0 where
  pub begins : IsNewWorld start
  pub halts : spare ≡ true → s.halted ≡ true
  pub holds : spare ≡ false → IsPenOf start pen id s.node

-- A spare records nothing, and belongs to no node. Of any other station's node its events are recorded, which are counted then.
pub record HasTrace (counted : Bool) (start : WorldValue) (id : ℕ) (spare : Bool) (seen : List WorldEvent) (trace : TraceValue) : Type 0 where
  pub spared : spare ≡ true → trace ≡ new_trace false
  pub counts : trace.lost ≡ None → counted ≡ true
  pub follows : IsTraceOf start id seen trace

-- The event came to the history after all that was seen. The world that this led to answers it so, and now the event has been seen too.
pub record Told (start : WorldValue) (before : List WorldEvent) (e : WorldEvent) (a : Answer) (after : List WorldEvent) : Type 0 where
  pub log : List WorldEvent
  pub begins : IsPrefix before log
  pub reply : IsReply (runs start log) e a
  pub seen : after ≡ log ++ e ∷ []

-- a node answers with a listing, or with its denial
abbrev pub is_answer : Result (List (ℕ × ℕ)) Refusal → Bool
is_answer (Ok list) = true
is_answer (Err (Denied by)) = true
is_answer (Err why) = false

-- what a refused listing leaves seen: a denial is answered in the history as any other answer is, and any other refusal adds nothing
abbrev pub RefusalTold : WorldValue → List WorldEvent → WorldEvent → Refusal → List WorldEvent → Type 0
RefusalTold start before e (Denied by) after = Told start before e (Err (Denied by)) after
RefusalTold start before e why after = after ≡ before

-- The same of a member, whose node was still what it had been; and it is what it is in the world after the event.
pub record Replied (start : WorldValue) (before : MemberValue) (e : WorldEvent) (a : Answer) (after : MemberValue) : Type 0 where
  pub log : List WorldEvent
  pub begins : IsPrefix before.seen log
  pub was : IsAt start log before.id before.station.node
  pub reply : IsReply (runs start log) e a
  pub id : after.id ≡ before.id
  pub seen : after.seen ≡ log ++ e ∷ []
  pub now : IsAt start after.seen after.id after.station.node

-- the place is 0; or the node is there after a beginning of the history, and it is the node's safe mark then
abbrev pub IsSafeAt : WorldValue → ℕ → ℕ → Type 0
IsSafeAt start id place = (place ≡ 0) ⊎ ((seen : List WorldEvent) × (x : NodeValue) × IsAt start seen id x × (place ≡ safe_mark x.ring.state.arus))

-- the bytes spell the frame of that number, from 1, of those sent by the end of these events
pub record WasSent (start : WorldValue) (seen : List WorldEvent) (number : ℕ) (bytes : List ℕ) : Type 0 where
  pub frame : Frame
  pub reads : frame_of bytes ≡ Some frame
  pub sent : item (runs start seen).sent number ≡ Some frame

-- each of these was sent, the first with that number and the others behind it
abbrev pub WereSent : WorldValue → List WorldEvent → ℕ → List (List ℕ) → Type 0
WereSent start seen first frames = (i : ℕ) (bytes : List ℕ) → slice_get frames i ≡ Some bytes → WasSent start seen (first + i) bytes

-- A frame on its way: its bytes, and its number among those sent.
pub record ParcelValue : Type 0 where
  pub bytes : List ℕ
  pub number : ℕ

-- Frames on their way: their bytes, and the number of the first among those sent.
pub record ParcelsValue : Type 0 where
  pub frames : List (List ℕ)
  pub number : ℕ

-- how many there are, none or one
abbrev pub how_many : {X : Type 0} → Option X → ℕ
how_many None = 0
how_many (Some x) = 1

-- the list without its last item
abbrev pub before_last : {X : Type 0} → List X → List X
before_last [] = []
before_last (x ∷ []) = []
before_last (x ∷ y ∷ ys) = x ∷ before_last (y ∷ ys)

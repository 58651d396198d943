-- What is recorded of a history's events.
use Rattle.std.specs.Prelude.{◌≡◌, ◌⊎◌, ◌==◌, if◌then◌else◌, Bool, true, false, ℕ, suc, ◌+◌, ◌%◌, ◌^◌, List, [], ◌∷◌, ◌++◌, length, map, Option, Some, None}
use Rattle.std.specs.List.{AllByRecursion}
use mathlib.Core.List.{IsPrefix}
use Rattle.cpg_world_laws.specs.declared.events.WorldEvent.{WorldEvent}
use Rattle.cpg_world_laws.specs.declared.events.WorldEvent.TheVariants.{Frame}
use Rattle.cpg_world_laws.specs.Worlds.{WorldValue, node_in, runs}
use Rattle.cpg_history.specs.declared.traces.Recorded.{Recorded}

-- The event with that stamp came after `log`, and sent so many frames.
pub record WasAdded (start : WorldValue) (seen : List WorldEvent) (stamp sent : ℕ) (e : WorldEvent) : Type 0 where
  pub log : List WorldEvent
  pub stamped : stamp ≡ length log % 2 ^ 64
  pub here : IsPrefix (log ++ e ∷ []) seen
  pub count : length (runs start (log ++ e ∷ [])).sent ≡ length (runs start log).sent + sent

-- The frame of that number is the one of that index, from 0, of those sent by the event that has the stamp.
pub record HasNumber (start : WorldValue) (seen : List WorldEvent) (stamp index number : ℕ) : Type 0 where
  pub log : List WorldEvent
  pub stamped : stamp ≡ length log % 2 ^ 64
  pub before : IsPrefix log seen
  pub count : number ≡ suc (length (runs start log).sent) + index

-- What is written of an event that came after `log` is the event; but a frame that arrives is written by its index among those that the source sent.
abbrev pub IsWritten : WorldValue → List WorldEvent → ℕ → WorldEvent → WorldEvent → Type 0
IsWritten start log source (Frame node index) e = (number : ℕ) × HasNumber start log source index number × (e ≡ Frame node number)
IsWritten start log source written e = e ≡ written

-- What was recorded is an event that came to the history with that stamp.
pub record WasRecorded (start : WorldValue) (seen : List WorldEvent) (r : Recorded) : Type 0 where
  pub event : WorldEvent
  pub added : WasAdded start seen r.stamp r.sent event
  pub written : IsWritten start added.log r.source r.event event

abbrev pub AreRecorded : WorldValue → List WorldEvent → List Recorded → Type 0
AreRecorded start seen rs = AllByRecursion (WasRecorded start seen) rs

-- what is recorded of an event, if it is there
abbrev pub recorded_of : ℕ → ℕ → ℕ → WorldEvent → Recorded
recorded_of stamp sent source event = record { stamp = stamp; sent = sent; source = source; event = event }

-- What was recorded, and the stamp of the first event that could not be, if there is one.
pub record TraceValue : Type 0 where
  pub entries : List Recorded
  pub lost : Option ℕ

-- a trace that has recorded nothing yet, and does so where it was asked to
abbrev pub new_trace : Bool → TraceValue
new_trace true = record { entries = []; lost = None }
new_trace false = record { entries = []; lost = Some 0 }

-- what becomes of a trace that records, where an event with that stamp was added: it is recorded behind the others, or the trace is lost from it on
abbrev pub NotesOf : TraceValue → ℕ → ℕ → ℕ → Option WorldEvent → TraceValue → Type 0
NotesOf old stamp sent source None new = new ≡ record { entries = old.entries; lost = Some stamp }
NotesOf old stamp sent source (Some event) new =
    (new ≡ record { entries = old.entries ++ recorded_of stamp sent source event ∷ []; lost = None }) ⊎ (new ≡ record { entries = old.entries; lost = Some stamp })

-- the same by what was lost before: from there on a trace stays
abbrev pub NotesAfter : Option ℕ → TraceValue → ℕ → ℕ → ℕ → Option WorldEvent → TraceValue → Type 0
NotesAfter None old stamp sent source event new = NotesOf old stamp sent source event new
NotesAfter (Some at) old stamp sent source event new = new ≡ old

abbrev pub Notes : TraceValue → ℕ → ℕ → ℕ → Option WorldEvent → TraceValue → Type 0
Notes old stamp sent source event new = NotesAfter old.lost old stamp sent source event new

-- the stamps of a node's events among these, of which the first comes after so many others
abbrev pub stamps_of : ℕ → ℕ → List WorldEvent → List ℕ
stamps_of n before [] = []
stamps_of n before (e ∷ es) = if node_in e == n then before % 2 ^ 64 ∷ stamps_of n (suc before) es else stamps_of n (suc before) es

-- the stamps of what was recorded
abbrev pub recorded_stamps : TraceValue → List ℕ
recorded_stamps t = map (λ (r : Recorded). r.stamp) t.entries

-- What was recorded of the node's events among those that were seen: each is an event of the history; they are the first of the node's; and all
-- of them, where none was lost.
pub record IsTraceOf (start : WorldValue) (n : ℕ) (seen : List WorldEvent) (t : TraceValue) : Type 0 where
  pub recorded : AreRecorded start seen t.entries
  pub first : IsPrefix (recorded_stamps t) (stamps_of n 0 seen)
  pub whole : t.lost ≡ None → recorded_stamps t ≡ stamps_of n 0 seen

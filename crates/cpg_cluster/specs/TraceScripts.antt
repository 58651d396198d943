-- what was recorded, as a script of `step`
use Rattle.std.specs.Prelude.{Bool, true, false, codes, ℕ, ◌≡◌, ◌+◌, ◌%◌, ◌^◌, ◌==◌, ◌<◌, ◌≤◌, List, [], ◌∷◌, ◌++◌, take, length, map, slice_get, is_some, Some, suc, if◌then◌else◌}
use Rattle.std.specs.List.{AllByRecursion, flat_map, list_any}
use Rattle.std.specs.List.Sorted.{IsPermutation, IsNonDecreasingBy}
use Rattle.cpg_world_laws.specs.declared.events.WorldEvent.{WorldEvent}
use Rattle.cpg_world_laws.specs.declared.events.WorldEvent.TheVariants.{Frame}
use Rattle.cpg_world_laws.specs.Worlds.{WorldValue, node_in}
use Rattle.cpg_history.specs.declared.traces.Recorded.{Recorded}
use Rattle.cpg_history.specs.Members.{MemberValue}
use Rattle.cpg_history.specs.Traces.{IsTraceOf}
use Rattle.cpg_cluster.specs.TraceLines.{event_line}

-- the entries from that stamp on, as long as each has the next
abbrev pub counted : ℕ → List Recorded → List Recorded
counted stamp [] = []
counted stamp (r ∷ rs) = if r.stamp == stamp then r ∷ counted (suc stamp) rs else []

-- The script of entries: they are put in the order of their stamps, and end before the first stamp that none has.
pub record IsScript (entries script : List Recorded) : Type 0 where
  pub ordered : List Recorded
  pub same : IsPermutation entries ordered
  pub ascend : IsNonDecreasingBy (λ (r : Recorded). r.stamp) ordered
  pub front : script ≡ counted 0 ordered

-- how many frames they sent
abbrev pub sent_by : List Recorded → ℕ
sent_by [] = 0
sent_by (r ∷ rs) = r.sent + sent_by rs

-- The number of the first frame that the event with that stamp sent, in 64 bits: a new world has sent the first token, and each event before it what it
-- did.
abbrev pub first_number : List Recorded → ℕ → ℕ
first_number script stamp = (2 + sent_by (take stamp script)) % 2 ^ 64

-- the event of an entry: a frame has its number among all that were sent
abbrev pub numbered : List Recorded → ℕ → WorldEvent → WorldEvent
numbered script source (Frame node index) = Frame node ((first_number script source + index) % 2 ^ 64)
numbered script source event = event

-- a frame's number, from that of the first that its source sent, is among 64 bits as it is written
abbrev pub IsNumbered : WorldEvent → Type 0
IsNumbered (Frame node number) = number < 2 ^ 64
IsNumbered event = Unit {0}

-- the numbers of the first frames that the entries sent, and that of the next behind them
abbrev pub AreFirstNumbers : List Recorded → List ℕ → Type 0
AreFirstNumbers script numbers = (length numbers ≡ suc (length script)) × ((k : ℕ) → k ≤ length script → slice_get numbers k ≡ Some (first_number script k))

-- the events of a script
abbrev pub events_of : List Recorded → List WorldEvent
events_of script = map (λ (r : Recorded). numbered script r.source r.event) script

-- the lines of entries of a script
abbrev pub lines_of : List Recorded → List Recorded → List ℕ
lines_of script [] = []
lines_of script (r ∷ rs) = event_line (numbered script r.source r.event) ++ lines_of script rs

-- the lines of a script
abbrev pub script_text : List Recorded → List ℕ
script_text script = lines_of script script

-- the last line of a script that is not whole
abbrev pub end_text : Bool → List ℕ
end_text true = codes "# what came behind these is not here: memory was refused for it\n"
end_text false = []

-- what is written of a recording: a heading, the commands, and where it is cut a line that says so
abbrev pub trace_text : List ℕ → List Recorded → Bool → List ℕ
trace_text heading script cut = heading ++ script_text script ++ end_text cut

-- what these stations recorded, one after the other
abbrev pub lines_of_all : List MemberValue → List Recorded
lines_of_all members = flat_map (λ (m : MemberValue). m.trace.entries) members

-- whether one of them could not record all events of its node
abbrev pub is_cut : List MemberValue → Bool
is_cut members = list_any (λ (m : MemberValue). is_some m.trace.lost) members

-- what was recorded of each of these stations' nodes
abbrev pub HaveTraces : WorldValue → List WorldEvent → List MemberValue → Type 0
HaveTraces start seen members = AllByRecursion (λ (m : MemberValue). IsTraceOf start m.id seen m.trace) members

-- What stations recorded that had seen this of the history: the script of all their entries, and whether one of them lost an event.
pub record IsRecording (start : WorldValue) (seen : List WorldEvent) (members : List MemberValue) (script : List Recorded) (cut : Bool) : Type 0 where
  pub traces : HaveTraces start seen members
  pub script_is : IsScript (lines_of_all members) script
  pub cut_is : cut ≡ is_cut members

-- how many of these stations are of that node
abbrev pub members_of : ℕ → List MemberValue → ℕ
members_of n [] = 0
members_of n (m ∷ ms) = if n == m.id then suc (members_of n ms) else members_of n ms

-- of each event's node there is just one of these stations
abbrev pub HaveNodesOf : List MemberValue → List WorldEvent → Type 0
HaveNodesOf members events = AllByRecursion (λ (e : WorldEvent). members_of (node_in e) members ≡ 1) events

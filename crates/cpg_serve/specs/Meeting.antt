-- Each verdict answers the call that it is on.
use Rattle.std.specs.Prelude.{◌≡◌, ◌≤◌, ℕ, suc, ◌+◌, Bool, false, not, is_some, List, [], ◌∷◌, ◌++◌, map, length, take, Option, Some, None, if◌then◌else◌}
use Rattle.std.specs.List.{filter, flat_map, AllByRecursion}
use Rattle.cpg_entry.specs.declared.calls.Call.{Call}
use Rattle.cpg_record.specs.declared.events.Event.{Event}
use Rattle.cpg_record.specs.Events.{inbox}
use Rattle.cpg_ring.specs.Worlds.{item}
use Rattle.cpg_node.specs.Nodes.{NodeValue, inbox_of, records_of, conn_id}
use Rattle.cpg_node.specs.Calls.{call_refusal}
use Rattle.cpg_ask.specs.Asks.{Ask}
use Rattle.cpg_ask.specs.Spelling.{spelling}
use Rattle.cpg_serve.specs.declared.desks.Owed.{Owed}
use Rattle.cpg_serve.specs.Telling.{DeskValue, is_verdict, owed_after}
use Rattle.cpg_serve.specs.Asking.{at_of, call_of, owed_to}
use Rattle.cpg_serve.specs.Coming.{left_of}
use Rattle.cpg_cred.specs.declared.credentials.Cred.{Cred}
use Rattle.cpg_ring.specs.States.{IsSettings}
use Rattle.cpg_world_laws.specs.declared.events.WorldEvent.{WorldEvent}
use Rattle.cpg_world_laws.specs.Worlds.{WorldValue, runs, Reached}
use Rattle.cpg_world_laws.specs.Replies.{Answer, AreReplies}
use Rattle.cpg_serve.specs.Orders.{admitted_of}
use Rattle.cpg_serve.specs.Serving.{ServedValue, arrived}
use Rattle.cpg_serve.specs.Stories.{Note, Made, Answered, Happened, ask_in, event_in, Before, StoryAt}
use Rattle.cpg_serve.specs.Runs.{Did, Run, IsKeptBy, heard_by, written_by}
use Rattle.cpg_serve.specs.Verdicts.{verdict_in}

-- how many of the events are verdicts
abbrev pub verdicts : List Event → ℕ
verdicts events = length (flat_map verdict_in events)

-- the call is there, and a node takes it
abbrev pub is_taken : Option Call → Bool
is_taken None = false
is_taken (Some call) = not (is_some (call_refusal call))

-- the asks that are calls, and that a node takes: those that have a verdict
abbrev pub calls_among : List Ask → List Ask
calls_among asks = filter (λ ask. is_taken (call_of ask.want)) asks

-- what verdicts answered, one after another: each the oldest call that was owed one
abbrev pub answered_in : List Owed → List Note → List Owed
answered_in owed [] = []
answered_in owed (Made ask ∷ notes) = answered_in (owed ++ owed_to ask ∷ []) notes
answered_in owed (Answered places ask tell ∷ notes) = answered_in owed notes
answered_in owed (Happened event ∷ notes) = (if is_verdict event then take 1 owed else []) ++ answered_in (owed_after owed event) notes

-- a call that a note made, as it is owed
abbrev pub made_in : Note → List Owed
made_in (Made ask) = owed_to ask ∷ []
made_in _ = []

-- Of a client's earlier rings: how many of its calls they answered; and of this one, how many verdicts are among what
-- it began with.
pub record Counts : Type 0 where
  pub answered : ℕ
  pub begun : ℕ

-- of a client that came in this ring
abbrev pub no_counts : Counts
no_counts = record { answered = 0; begun = 0 }

pub record AreCounts (b : Counts) (before : Before) (conn : ℕ) (x : NodeValue) : Type 0 where
  pub answered : b.answered ≡ verdicts (flat_map event_in before.notes)
  pub begun : b.begun ≡ verdicts (inbox (take before.places (records_of x)) (conn_id x conn))
  pub calls : flat_map made_in before.notes ≡ map owed_to (calls_among (flat_map ask_in before.notes))

-- No more of the connection's entries were placed than it made calls: so it is at a node that hears only what its ring
-- sent.
abbrev pub IsHonest : Counts → ℕ → List Ask → ServedValue → Type 0
IsHonest b conn asks x = verdicts (inbox_of x.node conn) + b.answered ≤ length (calls_among asks) + b.begun

-- the same at each state of a run, with what the client asked until then
abbrev pub IsHonestRun : Counts → ℕ → List Ask → (x : ServedValue) → (dids : List Did) → (y : ServedValue) → Run x dids y → Type 0
IsHonestRun b conn asks x [] y run = Unit {0}
IsHonestRun b conn asks x (did ∷ dids) y run = IsHonest b conn asks x × ((more : List Ask) → heard_by conn did ≡ flat_map spelling more → IsHonestRun b conn (asks ++ more) run.0 dids y run.2)

-- so many calls are owed a verdict as have none
abbrev pub IsEven : Counts → ℕ → List Ask → ServedValue → Type 0
IsEven b conn asks x = (d : DeskValue) × (item x.desks conn ≡ Some d)
    × (length d.owed + verdicts (inbox_of x.node conn) + b.answered ≡ length (calls_among asks) + b.begun + verdicts (left_of conn (at_of x.node d)))

-- what the verdicts of these notes answered are the first of those calls, in order
abbrev pub AnswerCalls : List Note → List Ask → Type 0
AnswerCalls notes asks = answered_in [] notes ≡ take (verdicts (flat_map event_in notes)) (map owed_to (calls_among asks))

-- The verdicts that a client was told are the answers to its first calls, in order: the k-th to the k-th.
abbrev pub AnswersInOrder : Type 0
AnswersInOrder = (before : Before) (b : Counts) (conn : ℕ) (asks : List Ask) (written : List ℕ) (x : ServedValue) (k : StoryAt before conn asks written x) → AreCounts b before conn x.node → IsEven b conn asks x
    → AnswerCalls (before.notes ++ k.story.notes) asks

-- It stays so over any run, and begins so.
abbrev pub StaysEven : Type 0
StaysEven = (before : Before) (b : Counts) (conn : ℕ) (asks : List Ask) (written : List ℕ) (x y : ServedValue) (dids : List Did) (run : Run x dids y) → AllByRecursion (IsKeptBy conn) dids
    → StoryAt before conn asks written x → IsEven b conn asks x → IsHonestRun b conn asks x dids y run
    → (more : List Ask) × (flat_map (heard_by conn) dids ≡ flat_map spelling more) × StoryAt before conn (asks ++ more) (written ++ flat_map (written_by conn) dids) y × IsEven b conn (asks ++ more) y

-- A client that comes begins so.
abbrev pub EvenBegins : Type 0
EvenBegins = (pid : ℕ) (cred : Cred) (x : ServedValue) → length x.desks ≡ length x.node.clients → IsEven no_counts (suc (length x.desks)) [] (arrived x pid cred)

-- At a node of a world of nodes, where no more was admitted of the connection than calls that it made, no more of its
-- entries were placed.
abbrev pub HonestInAWorld : Type 0
HonestInAWorld = (w : WorldValue) (events : List WorldEvent) (answers : List Answer) → IsSettings w.settings → Reached w → AreReplies w events answers
    → (conn : ℕ) (asks : List Ask) (x : ServedValue) → item (runs w events).nodes x.node.ring.node ≡ Some x.node
    → length (admitted_of w events x.node.ring.node conn) ≤ length (calls_among asks) → IsHonest no_counts conn asks x

-- All that a client asked and was told: what its daemon did for it, one thing after another.
use Rattle.std.specs.Prelude.{◌≡◌, ◌⊎◌, ◌≤◌, ℕ, suc, List, [], ◌∷◌, ◌++◌, length, take, true, is_some, Option, Some, None, option_to_list}
use Rattle.std.specs.List.{flat_map, fold, slice_get, AllByRecursion}
use Rattle.cpg_cred.specs.declared.refusals.Refusal.{Refusal}
use Rattle.cpg_rules.specs.declared.rules.Asker.{Asker}
use Rattle.cpg_entry.specs.declared.calls.Call.{Call}
use Rattle.cpg_ring.specs.Worlds.{item}
use Rattle.cpg_record.specs.declared.events.Event.{Event}
use Rattle.cpg_record.specs.declared.records.Record.{Record}
use Rattle.cpg_record.specs.Events.{events, inbox}
use Rattle.cpg_node.specs.Nodes.{NodeValue, inbox_of, open_client, records_of, conn_id}
use Rattle.cpg_node.specs.Calls.{next_record, submitted, submit_refusal, call_refusal}
use Rattle.cpg_ask.specs.declared.greetings.Greeting.{Greeting}
use Rattle.cpg_ask.specs.Asks.{Ask}
use Rattle.cpg_ask.specs.Tells.{Tell, tell_bytes}
use Rattle.cpg_serve.specs.declared.desks.Owed.{Owed}
use Rattle.cpg_serve.specs.Telling.{DeskValue, event_tell, owed_after}
use Rattle.cpg_serve.specs.Answering.{asker_of, IsNamed, plain_tell}
use Rattle.cpg_serve.specs.Asking.{At, at_of, call_of, owed_to, refused_tell}
use Rattle.cpg_serve.specs.Coming.{left_of, IsCounted}
use Rattle.cpg_serve.specs.Serving.{ServedValue}

-- What was done for a client: a call was made, and its verdict is owed; an ask was answered at once, after so many
-- places were delivered; an event was told.
pub data Note : Type 0 where
  Made : Ask → Note
  Answered : ℕ → Ask → Tell → Note
  Happened : Event → Note

abbrev pub ask_in : Note → List Ask
ask_in (Made ask) = ask ∷ []
ask_in (Answered places ask tell) = ask ∷ []
ask_in (Happened event) = []

abbrev pub event_in : Note → List Event
event_in (Made ask) = []
event_in (Answered places ask tell) = []
event_in (Happened event) = event ∷ []

-- the calls that are owed a verdict after these notes
abbrev pub owed_by : List Owed → Note → List Owed
owed_by owed (Made ask) = owed ++ owed_to ask ∷ []
owed_by owed (Answered places ask tell) = owed
owed_by owed (Happened event) = owed_after owed event

abbrev pub owed_in : List Owed → List Note → List Owed
owed_in owed notes = fold owed_by owed notes

-- what a note tells, where that is owed
abbrev pub tell_by : List Owed → Note → List Tell
tell_by owed (Made ask) = []
tell_by owed (Answered places ask tell) = tell ∷ []
tell_by owed (Happened event) = option_to_list (event_tell (slice_get owed 0) event)

-- what notes tell: the answers at once, the verdicts on calls, each the answer to the oldest call that has none, and
-- the news
abbrev pub tells_in : List Owed → List Note → List Tell
tells_in owed [] = []
tells_in owed (note ∷ notes) = tell_by owed note ++ tells_in (owed_by owed note) notes

-- the answer at once to an ask that is no call, over records
abbrev pub IsPlain : Greeting → Option Asker → List Record → Ask → Tell → Type 0
IsPlain greeting asker records ask tell = (call_of ask.want ≡ None)
    × ((names : List (List ℕ)) × IsNamed records asker ask.want names × (tell ≡ plain_tell greeting asker records names ask.tag ask.want))

-- the answer at once to a call that no node takes, whatever it holds: why not
abbrev pub IsRefused : Ask → Tell → Type 0
IsRefused ask tell = (call : Call) × (why : Refusal) × (call_of ask.want ≡ Some call) × (call_refusal call ≡ Some why) × (tell ≡ refused_tell (owed_to ask) why)

-- a call is one that the ask asks for, and that a node takes; an answer at once is right over the places that were
-- delivered then
abbrev pub IsNote : Greeting → Option Asker → List Record → Note → Type 0
IsNote greeting asker records (Made ask) = (call : Call) × (call_of ask.want ≡ Some call) × (call_refusal call ≡ None)
IsNote greeting asker records (Answered places ask tell) = (places ≤ length records) × (IsPlain greeting asker (take places records) ask tell ⊎ IsRefused ask tell)
IsNote greeting asker records (Happened event) = Unit {0}

-- what was answered later was so over no fewer places
abbrev pub IsRising : ℕ → List Note → Type 0
IsRising least [] = Unit {0}
IsRising least (Made ask ∷ notes) = IsRising least notes
IsRising least (Answered places ask tell ∷ notes) = (least ≤ places) × IsRising places notes
IsRising least (Happened event ∷ notes) = IsRising least notes

-- Notes of one ring, of a client that came when so many of its places were delivered: each is right there, and their
-- events are all that the ring told the client since then, in order, but for what is left.
pub record IsToldIn (conn : ℕ) (places : ℕ) (greeting : Greeting) (x : NodeValue) (left : List Event) (notes : List Note) : Type 0 where
  pub each : AllByRecursion (IsNote greeting (asker_of x conn) (records_of x)) notes
  pub rising : IsRising places notes
  pub began : places ≤ length (records_of x)
  pub events : inbox (take places (records_of x)) (conn_id x conn) ++ (flat_map event_in notes ++ left) ≡ inbox_of x conn

-- What there was of a client before its ring: the notes of earlier rings, and with how many places this one began.
pub record Before : Type 0 where
  pub notes : List Note
  pub places : ℕ

-- of a client that came in this ring
abbrev pub nothing_before : Before
nothing_before = record { notes = []; places = 0 }

-- For as long as the client's connection is open: all that it was told are the spellings of what notes tell, whose asks
-- are all that it asked, in order; those of this ring have all that the ring told it, but for what is left.
pub record IsStory (before : Before) (conn : ℕ) (asks : List Ask) (written : List ℕ) (s : At) : Type 0 where
  pub notes : List Note
  pub now : IsToldIn conn before.places s.desk.greeting s.node (left_of conn s) notes
  pub asked : flat_map ask_in (before.notes ++ notes) ≡ asks
  pub owed : owed_in [] (before.notes ++ notes) ≡ s.desk.owed
  -- the connection is open, and took no more than its inbox has
  pub counted : IsCounted conn s.node
  pub alive : is_some (open_client s.node conn) ≡ true
  pub told : written ++ s.desk.out ≡ flat_map tell_bytes (tells_in [] (before.notes ++ notes))

-- the client of that connection has a desk, and that story, and is greeted as all are
pub record StoryAt (before : Before) (conn : ℕ) (asks : List Ask) (written : List ℕ) (x : ServedValue) : Type 0 where
  pub desk : DeskValue
  pub there : item x.desks conn ≡ Some desk
  pub greeting : desk.greeting ≡ x.greeting
  pub story : IsStory before conn asks written (at_of x.node desk)

-- what the next place tells the connection, if it is held
abbrev pub told_by : NodeValue → ℕ → Option Record → List Event
told_by x conn None = []
told_by x conn (Some r) = events (records_of x ++ r ∷ []) (suc (length (records_of x))) (conn_id x conn)

abbrev pub told_next : NodeValue → ℕ → List Event
told_next x conn = told_by x conn (next_record x)

-- the node after the calls that asks ask for, each by that connection, unless it is refused
abbrev pub unless_refused : Option Refusal → NodeValue → NodeValue → NodeValue
unless_refused None made x = made
unless_refused (Some why) made x = x

abbrev pub made_by : NodeValue → ℕ → Option Call → NodeValue
made_by x conn None = x
made_by x conn (Some call) = unless_refused (submit_refusal x conn call) (submitted x conn call) x

abbrev pub calls_made : ℕ → NodeValue → List Ask → NodeValue
calls_made conn x asks = fold (λ y ask. made_by y conn (call_of ask.want)) x asks

-- for that connection nothing happened at the node
pub record IsQuiet (conn : ℕ) (x y : NodeValue) : Type 0 where
  pub records : records_of y ≡ records_of x
  pub node : y.ring.node ≡ x.ring.node
  pub client : item y.clients conn ≡ item x.clients conn

-- What a call may answer where memory may be refused.
use Rattle.std.specs.Prelude.{◌≡◌, ◌⊎◌, ℕ, Bool, true, false, List, [], map, Option, Some, None, IsSome, Result, Ok, Err, option_map}
use Rattle.cpg_cred.specs.Listed.{Listed}
use Rattle.cpg_cred.specs.declared.refusals.Refusal.TheVariants as refusal
use Rattle.cpg_cred.specs.declared.refusals.Refused.{Refused}
use Rattle.cpg_record.specs.declared.events.Event.{Event}
use Rattle.cpg_record.specs.Listings.{AnswersListing, AreGroups}
use Rattle.cpg_entry.specs.Ranges.{IsFrame}
use Rattle.cpg_entry.specs.Widths.{FrameFits}
use Rattle.cpg_wire.specs.declared.codes.Version.TheVariants.{Two}
use Rattle.cpg_wire.specs.Spelling.{spelling}
use Rattle.cpg_entry.specs.declared.frames.Frame.TheVariants as frames
use Rattle.cpg_ring.specs.States.{Frame, Refusal, Token}
use Rattle.cpg_ring.specs.declared.settings.Settings.{Settings}
use Rattle.cpg_ring.specs.Rings.{IsRingNode}
use Rattle.cpg_node.specs.declared.connections.Client.{Client}
use Rattle.cpg_node.specs.declared.connections.Connection.{Connection}
use Rattle.cpg_node.specs.Nodes.{NodeValue, new_value, records_of, asker_by, open_client, conn_id}
use Rattle.cpg_node.specs.Calls.{frame_refusal, after_frame, answers_to, list_for, next_event}

-- why a node isn't made
abbrev pub IsUnmade : Settings → ℕ → Refusal → Type 0
IsUnmade s n refusal.Range = ¬ IsRingNode s n
IsUnmade s n refusal.Memory = IsRingNode s n
IsUnmade s n _ = ⊥

-- A new node where the settings allow one, else Range; what is refused comes back.
abbrev pub IsNodeMade : Settings → ℕ → Listed → Result NodeValue (Refused Listed) → Type 0
IsNodeMade s n list (Ok x) = IsRingNode s n × (x ≡ new_value s n list)
IsNodeMade s n list (Err why) = (why.back ≡ list) × IsUnmade s n why.refusal

-- a frame that has a spelling of version 2: it keeps the rules, and its numbers fit their types
abbrev pub CanBeSpelled : Frame → Type 0
CanBeSpelled f = IsFrame f × FrameFits f

-- frames as they are sent: each as its spelling of version 2
abbrev pub spelled : List Frame → List (List ℕ)
spelled frames = map (spelling Two) frames

-- What `frame` answers, and the node after it: Malformed exactly where nothing is spelled, else the first refusal that fits, or
-- what is sent; Memory only where no refusal fits. A refusal leaves the node as it was.
abbrev pub IsFrameAnswer : {X : Type 0} → (X → List (List ℕ)) → NodeValue → Option Frame → Result X Refusal → NodeValue → Type 0
IsFrameAnswer items x None answer new = (answer ≡ Err refusal.Malformed) × (new ≡ x)
IsFrameAnswer items x (Some f) (Ok bytes) new = (frame_refusal x f ≡ None) × (items bytes ≡ spelled (answers_to x f)) × (new ≡ after_frame x f)
IsFrameAnswer items x (Some f) (Err refusal.Memory) new = (frame_refusal x f ≡ None) × (new ≡ x)
IsFrameAnswer items x (Some f) (Err why) new = (frame_refusal x f ≡ Some why) × (new ≡ x)

-- What `turn` answers, and the node after it: false where the node sent no token; else true, or the first refusal that fits, or
-- Memory. A refusal leaves the node as it was.
abbrev pub IsTurnAnswer : NodeValue → Option Token → Result Bool Refusal → NodeValue → Type 0
IsTurnAnswer x None answer new = (answer ≡ Ok false) × (new ≡ x)
IsTurnAnswer x (Some t) (Ok passed) new = (passed ≡ true) × (frame_refusal x (frames.Token t) ≡ None) × (new ≡ after_frame x (frames.Token t))
IsTurnAnswer x (Some t) (Err why) new = ((why ≡ refusal.Memory) ⊎ (frame_refusal x (frames.Token t) ≡ Some why)) × (new ≡ x)

-- What `take` answers: NoConnection, or the next event; or Memory in the place of one that is there.
abbrev pub IsTakeAnswer : NodeValue → ℕ → Option Client → Result (Option Event) Refusal → Type 0
IsTakeAnswer x conn None answer = answer ≡ Err refusal.NoConnection
IsTakeAnswer x conn (Some c) (Ok event) = event ≡ next_event x conn c
IsTakeAnswer x conn (Some c) (Err why) = (why ≡ refusal.Memory) × IsSome (next_event x conn c)

-- What `list` answers: NoConnection, the denial, the listing; or Memory in its place.
abbrev pub IsListAnswer : NodeValue → List ℕ → Option Client → Result (List (ℕ × ℕ)) Refusal → Type 0
IsListAnswer x g None answer = answer ≡ Err refusal.NoConnection
IsListAnswer x g (Some c) answer = AnswersListing (list_for x c g) answer

-- What `groups` answers: NoConnection, the names; or Memory in the place of some.
abbrev pub IsGroupsAnswer : NodeValue → Option Client → Result (List (List ℕ)) Refusal → Type 0
IsGroupsAnswer x None answer = answer ≡ Err refusal.NoConnection
IsGroupsAnswer x (Some c) (Ok names) = AreGroups (records_of x) (asker_by x c) names
IsGroupsAnswer x (Some c) (Err why) = (why ≡ refusal.Memory) × ¬ AreGroups (records_of x) (asker_by x c) []

-- what is told of an open connection
abbrev pub connection_of : NodeValue → ℕ → Option Connection
connection_of x conn = option_map (λ c. record { id = conn_id x conn; pid = c.pid; cred = c.cred; taken = c.taken }) (open_client x conn)

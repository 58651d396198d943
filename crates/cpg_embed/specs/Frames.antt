-- What the calls that hear and hand over frames answer, and the endpoint after them.
use Rattle.std.specs.Prelude.{◌≡◌, ℕ, [], ◌∷◌, List, suc, length, nat_lt, nat_eq, Option, Some, None, ◌⊎◌, if◌then◌else◌}
use Rattle.cpg_cred.specs.declared.refusals.Refusal.{Refusal}
use Rattle.cpg_cred.specs.declared.refusals.Refusal.TheVariants as refusal
use Rattle.cpg_entry.specs.declared.frames.Frame.TheVariants as frames
use Rattle.cpg_ring.specs.States.{Frame, Token}
use Rattle.cpg_wire.specs.Reading.{frame_of}
use Rattle.cpg_wire.specs.Spelling.{spelling}
use Rattle.cpg_wire.specs.declared.codes.Version.TheVariants.{Two}
use Rattle.cpg_node.specs.Answers.{spelled}
use Rattle.cpg_node.specs.Calls.{frame_refusal, after_frame, answers_to, node_after_delivery}
use Rattle.cpg_cred.specs.Shown.{number}
use Rattle.cpg_embed.specs.Statuses.{IfElse, IsHanded}
use Rattle.cpg_embed.specs.Endpoints.{EndpointValue, at_node, with_frames}
use Rattle.cpg_embed.specs.declared.statuses.TheConstants.{OK, BUSY, NONE}

-- the endpoint whose node heard the frame: the frames of its answer, as they are sent, are to be handed over
abbrev pub after_hearing : EndpointValue → Frame → EndpointValue
after_hearing e f = with_frames (at_node e (after_frame e.node f)) (spelled (answers_to e.node f))

-- A frame is heard, or the first refusal that fits is answered.
abbrev pub IsHeardBy : EndpointValue → Frame → Option Refusal → ℕ → EndpointValue → Type 0
IsHeardBy e f (Some why) status new = (status ≡ number why) × (new ≡ e)
IsHeardBy e f None status new = (status ≡ OK) × (new ≡ after_hearing e f)

-- Malformed exactly where the bytes spell no frame. Memory may be refused while they are read, before anything else.
abbrev pub IsRead : EndpointValue → Option Frame → ℕ → EndpointValue → Type 0
IsRead e None status new = (status ≡ number refusal.Malformed) × (new ≡ e)
IsRead e (Some f) status new = ((status ≡ number refusal.Memory) × (new ≡ e)) ⊎ IsHeardBy e f (frame_refusal e.node f) status new

-- Busy while frames wait to be handed over, with nothing changed.
abbrev pub UnlessBusy : EndpointValue → ℕ → EndpointValue → Type 0 → Type 0
UnlessBusy e status new says = IfElse (nat_lt e.given (length e.made)) ((status ≡ BUSY) × (new ≡ e)) says

-- Frame.
abbrev pub IsFrameStatus : EndpointValue → List ℕ → ℕ → EndpointValue → Type 0
IsFrameStatus e bytes status new = UnlessBusy e status new (IsRead e (frame_of bytes) status new)

-- The last token is to be handed over again; nothing, where the node sent none.
abbrev pub IsResent : EndpointValue → Option Token → ℕ → EndpointValue → Type 0
IsResent e None status new = (status ≡ NONE) × (new ≡ e)
IsResent e (Some t) status new =
    ((status ≡ OK) × (new ≡ with_frames e (spelling Two (frames.Token t) ∷ []))) ⊎ ((status ≡ number refusal.Memory) × (new ≡ e))

-- Timer.
abbrev pub IsTimerStatus : EndpointValue → ℕ → EndpointValue → Type 0
IsTimerStatus e status new = UnlessBusy e status new (IsResent e e.node.ring.state.last_token status new)

-- A frame is heard whose answer goes nowhere, or the first refusal that fits is answered.
abbrev pub IsHeardAlone : EndpointValue → Frame → Option Refusal → ℕ → EndpointValue → Type 0
IsHeardAlone e f (Some why) status new = (status ≡ number why) × (new ≡ e)
IsHeardAlone e f None status new = (status ≡ OK) × (new ≡ with_frames (at_node e (after_frame e.node f)) [])

-- The last token is heard by the node that sent it, which is refused where the token is for another node; there is nothing to
-- hear, where the node sent none.
abbrev pub IsTurned : EndpointValue → Option Token → ℕ → EndpointValue → Type 0
IsTurned e None status new = (status ≡ NONE) × (new ≡ e)
IsTurned e (Some t) status new = ((status ≡ number refusal.Memory) × (new ≡ e)) ⊎ IsHeardAlone e (frames.Token t) (frame_refusal e.node (frames.Token t)) status new

-- Turn.
abbrev pub IsTurnStatus : EndpointValue → ℕ → EndpointValue → Type 0
IsTurnStatus e status new = UnlessBusy e status new (IsTurned e e.node.ring.state.last_token status new)

-- To whom a frame goes: 2, the next node, for the last of an answer, which is its token; 1, all other nodes, for those before it.
abbrev pub route_of : EndpointValue → ℕ
route_of e = if nat_eq (suc e.given) (length e.made) then 2 else 1

-- the endpoint that has handed one frame more over
abbrev pub with_one_given : EndpointValue → EndpointValue
with_one_given e = record e { given = suc e.given }

-- Next: the frame's length and to whom it goes are told, and it is handed over where it fits, once.
abbrev pub IsNextFrame : EndpointValue → Option (List ℕ) → List ℕ → ℕ → List ℕ → ℕ → ℕ → EndpointValue → Type 0
IsNextFrame e None buffer status filled len route new = (status ≡ NONE) × (filled ≡ buffer) × (new ≡ e)
IsNextFrame e (Some bytes) buffer status filled len route new =
    (len ≡ length bytes) × (route ≡ route_of e) × IsHanded bytes buffer status filled × ((status ≡ OK → new ≡ with_one_given e) × (¬ (status ≡ OK) → new ≡ e))

-- Deliver: the next place, or nothing where it is not there.
abbrev pub IsDelivered : EndpointValue → Option ℕ → ℕ → ℕ → EndpointValue → Type 0
IsDelivered e None status place new = (status ≡ NONE) × (new ≡ e)
IsDelivered e (Some next) status place new =
    ((status ≡ OK) × (place ≡ next) × (new ≡ at_node e (node_after_delivery e.node))) ⊎ ((status ≡ number refusal.Memory) × (new ≡ e))

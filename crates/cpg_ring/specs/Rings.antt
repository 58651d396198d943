-- A ring as its calls see it: a node of the ring with its settings, what refuses a call, and the node after it.
use Rattle.std.specs.Prelude.{ℕ, ◌≤◌, if◌then◌else◌, Option, Some, None}
use Rattle.cpg_cred.specs.declared.refusals.Refusal.TheVariants.{QueueFull}
use Rattle.cpg_ring.specs.declared.visit.Visit.{Visit}
use Rattle.cpg_ring.specs.States.{Packet, Token, Refusal, Settings, IsSettings, NodeState}
use Rattle.cpg_ring.specs.Visits.{VisitStep, token_refusal, visit_step, after_visit}
use Rattle.cpg_ring.specs.Moves.{data_refusal, is_full, new_node}

-- A node, with its ring's settings.
pub record RingNode : Type 0 where
  pub settings : Settings
  -- the node's number
  pub node : ℕ
  pub state : NodeState

-- the settings are in range, and the ring has such a node
abbrev pub IsRingNode : Settings → ℕ → Type 0
IsRingNode s n = IsSettings s × (n ≤ s.nodes)

-- a new node of that number
abbrev pub new_ring_node : Settings → ℕ → RingNode
new_ring_node s n = record { settings = s; node = n; state = new_node s n }

-- the ring in another state
abbrev pub with_state : RingNode → NodeState → RingNode
with_state x state = record { settings = x.settings; node = x.node; state = state }

-- why the ring refuses a token, if it does
abbrev pub refusal_of : RingNode → Token → Option Refusal
refusal_of x t = token_refusal x.settings x.node x.state t

-- what a visit of the token does at the ring
abbrev pub step_of : RingNode → Token → VisitStep
step_of x t = visit_step x.settings x.node x.state t

-- what it sends
abbrev pub visit_of : RingNode → Token → Visit
visit_of x t = record { packets = (step_of x t).packets; token = (step_of x t).token }

-- the ring after the visit
abbrev pub visited : RingNode → Token → RingNode
visited x t = with_state x (after_visit x.state t (step_of x t))

-- why the ring refuses data, if it does
abbrev pub data_refusal_of : RingNode → Packet → Option Refusal
data_refusal_of x p = data_refusal x.settings x.state p

-- why the ring refuses a call, if it does
abbrev pub full_refusal : RingNode → Option Refusal
full_refusal x = if is_full x.state then Some QueueFull else None

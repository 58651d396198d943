-- What else a node does: it hears data, takes entries in, and delivers places.
use Rattle.std.specs.Prelude.{ℕ, suc, ◌+◌, Bool, not, [], ◌∷◌, ◌++◌, Option, Some, None, if◌then◌else◌, nat_lt, nat_le, ◌==◌}
use Rattle.std.specs.FinMap.{get, insert, empty}
use Rattle.cpg_cred.specs.declared.refusals.Refusal.TheVariants.{Foreign, Implausible, Held, FarAhead}
use Rattle.cpg_ring.specs.declared.settings.TheConstants.{WINDOW, MOST_WAITING}
use Rattle.cpg_ring.specs.States.{Entry, Packet, Token, Refusal, Settings, NodeState, is_held, calls}

-- why a node refuses data of a ring for a place, if it does: the first that fits
abbrev pub place_refusal : Settings → NodeState → ℕ → ℕ → Option Refusal
place_refusal s r ring place =
    if not (ring == s.ring) then Some Foreign
    else if nat_lt s.places place then Some Implausible
    else if is_held r.held place then Some Held
    else if nat_lt (r.delivered + WINDOW) place then Some FarAhead
    else None

-- which its ring and its place alone decide
abbrev pub data_refusal : Settings → NodeState → Packet → Option Refusal
data_refusal s r p = place_refusal s r p.ring p.place

-- the node that holds the packet, too
abbrev pub after_data : NodeState → Packet → NodeState
after_data r p = record r { held = insert r.held p.place p.entry }

-- whether as many calls wait as may
abbrev pub is_full : NodeState → Bool
is_full r = nat_le MOST_WAITING (calls r.waiting)

-- the node where the entry waits, too, as the last
abbrev pub after_entry : NodeState → Entry → NodeState
after_entry r e = record r { waiting = r.waiting ++ e ∷ [] }

-- the entry that is delivered next, if it is held
abbrev pub next_entry : NodeState → Option Entry
next_entry r = get r.held (suc r.delivered)

-- the node that delivered one place more
abbrev pub after_delivery : NodeState → NodeState
after_delivery r = record r { delivered = suc r.delivered }

-- The first token: it counts as sent by the last node.
abbrev pub first_token : Settings → Token
first_token s = record { ring = s.ring; hop = 0; seq = 0; aru = 0; aru_id = None; rtr = [] }

-- a new node
abbrev pub new_node : Settings → ℕ → NodeState
new_node s n = record { last_hop = None; last_token = if n == s.nodes then Some (first_token s) else None; held = empty; delivered = 0; waiting = []; arus = [] }

-- One visit of the token (Totem's single ring; the burst, the window and the cut of the requests are our own).
use Rattle.std.specs.Prelude.{ℕ, zero, suc, ◌+◌, ◌-◌, ◌%◌, min, Bool, true, false, not, ◌&&◌, ◌||◌, List, [], ◌∷◌, ◌++◌, length, take, drop, Option, Some, None, if◌then◌else◌, nat_lt, nat_le, ◌==◌}
use Rattle.std.specs.List.{filter, filter_map, list_any}
use Rattle.std.specs.Option.{option_map}
use Rattle.std.specs.FinMap.{get, insert, keys}
use Rattle.cpg_cred.specs.declared.refusals.Refusal.TheVariants.{Foreign, NotMine, Stale, Implausible, RingEnd}
use Rattle.cpg_entry.specs.declared.ranges.TheConstants.{MOST_REQUESTS}
use Rattle.cpg_ring.specs.declared.settings.TheConstants.{BURST, WINDOW}
use Rattle.cpg_ring.specs.States.{Entry, Packet, Token, Refusal, Settings, HeldPlaces, NodeState, is_held}

-- the node that hop h is for
abbrev pub node_of : Settings → ℕ → ℕ
node_of s h = h % s.nodes + 1

-- whether that hop or a later one was accepted
abbrev pub is_past : ℕ → Option ℕ → Bool
is_past hop None = false
is_past hop (Some last) = nat_le hop last

-- whether no true run can bring a token of this seq: it is below a place held, or above the ring's places
abbrev pub is_implausible : Settings → NodeState → ℕ → Bool
is_implausible s r seq = list_any (nat_lt seq) (keys r.held) || nat_lt s.places seq

-- why node n refuses a token of a ring, a hop and a seq, if it does: the first that fits
abbrev pub hop_refusal : Settings → ℕ → NodeState → ℕ → ℕ → ℕ → Option Refusal
hop_refusal s n r ring hop seq =
    if not (ring == s.ring) then Some Foreign
    else if not (node_of s hop == n) then Some NotMine
    else if is_past hop r.last_hop then Some Stale
    else if is_implausible s r seq then Some Implausible
    else if nat_le s.hops hop then Some RingEnd
    else None

-- which these three numbers of it alone decide
abbrev pub token_refusal : Settings → ℕ → NodeState → Token → Option Refusal
token_refusal s n r t = hop_refusal s n r t.ring t.hop t.seq

-- the packet of what is held at a place
abbrev pub packet_at : Settings → HeldPlaces → ℕ → Option Packet
packet_at s held place = option_map (λ e. record { ring = s.ring; place = place; entry = e }) (get held place)

-- Step 1: the places asked for that are held are sent again.
abbrev pub served : Settings → HeldPlaces → List ℕ → List Packet
served s held asked = filter_map (packet_at s held) asked

-- Step 2: so many of the waiting entries take places.
abbrev pub burst_size : Settings → NodeState → ℕ → ℕ
burst_size s r seq = min BURST (min (length r.waiting) (min (s.places - seq) (r.delivered + WINDOW - seq)))

-- entries at the places after seq
abbrev pub placed : Settings → ℕ → List Entry → List Packet
placed s seq [] = []
placed s seq (e ∷ es) = record { ring = s.ring; place = suc seq; entry = e } ∷ placed s (suc seq) es

-- what is held once these packets are
abbrev pub hold_all : HeldPlaces → List Packet → HeldPlaces
hold_all held [] = held
hold_all held (p ∷ ps) = hold_all (insert held p.place p.entry) ps

-- the greatest number up to which all places are held, from one that is known, if no more than so many follow
abbrev pub held_through : HeldPlaces → ℕ → ℕ → ℕ
held_through held a zero = a
held_through held a (suc more) = if is_held held (suc a) then held_through held (suc a) more else a

-- Step 3: the greatest number, up to seq, with all places from 1 to it held.
abbrev pub reach : HeldPlaces → ℕ → ℕ
reach held seq = held_through held 0 seq

-- whether the aru has no owner, or node n is it
abbrev pub is_own_or_none : ℕ → Option ℕ → Bool
is_own_or_none n None = true
is_own_or_none n (Some id) = id == n

-- whether a node that holds all places up to a sets the aru
abbrev pub sets_aru : ℕ → ℕ → Token → Bool
sets_aru n a t = nat_lt a t.aru || is_own_or_none n t.aru_id

-- the aru that goes on
abbrev pub next_aru : ℕ → ℕ → Token → ℕ
next_aru n a t = if sets_aru n a t then a else t.aru

-- the owner of the aru that goes on: a node that holds all places up to seq leaves none
abbrev pub next_aru_id : ℕ → ℕ → ℕ → Token → Option ℕ
next_aru_id n a seq t = if sets_aru n a t then (if a == seq then None else Some n) else t.aru_id

-- 1, 2, .. n
abbrev pub up_to : ℕ → List ℕ
up_to zero = []
up_to (suc n) = up_to n ++ suc n ∷ []

-- whether a place is to be asked for: it is not held, and lies in the window or was asked for
abbrev pub is_wanted : HeldPlaces → ℕ → List ℕ → ℕ → Bool
is_wanted held delivered asked place = not (is_held held place) && (nat_le place (delivered + WINDOW) || list_any (λ p. p == place) asked)

-- Step 4: the 32 least places up to seq that are to be asked for.
abbrev pub next_requests : HeldPlaces → ℕ → ℕ → List ℕ → List ℕ
next_requests held delivered seq asked = take MOST_REQUESTS (filter (is_wanted held delivered asked) (up_to seq))

-- Step 5: the token that goes on, where these places are held.
abbrev pub next_token : ℕ → Token → ℕ → HeldPlaces → ℕ → Token
next_token n t seq held delivered = record {
  ring = t.ring;
  hop = suc t.hop;
  seq = seq;
  aru = next_aru n (reach held seq) t;
  aru_id = next_aru_id n (reach held seq) seq t;
  rtr = next_requests held delivered seq t.rtr;
}

-- What a visit sends, and what the node then holds and keeps waiting.
pub record VisitStep : Type 0 where
  pub packets : List Packet
  pub token : Token
  pub held : HeldPlaces
  pub rest : List Entry

-- the visit in which the entries `now` take places and the others wait on
abbrev pub visit_with : Settings → ℕ → NodeState → Token → List Entry → List Entry → VisitStep
visit_with s n r t now rest = record {
  packets = served s r.held t.rtr ++ placed s t.seq now;
  token = next_token n t (t.seq + length now) (hold_all r.held (placed s t.seq now)) r.delivered;
  held = hold_all r.held (placed s t.seq now);
  rest = rest;
}

-- the visit of a token that is accepted
abbrev pub visit_step : Settings → ℕ → NodeState → Token → VisitStep
visit_step s n r t = visit_with s n r t (take (burst_size s r t.seq) r.waiting) (drop (burst_size s r t.seq) r.waiting)

-- the node after an accepted visit
abbrev pub after_visit : NodeState → Token → VisitStep → NodeState
after_visit r t v = record {
  last_hop = Some t.hop;
  last_token = Some v.token;
  held = v.held;
  delivered = r.delivered;
  waiting = v.rest;
  arus = take 2 (v.token.aru ∷ r.arus);
}

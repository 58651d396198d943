-- A ring of one node: what its token does.
use Rattle.std.proofs.Common.{◌≡◌, ◌⊎◌, ◌<◌, ◌≤◌, ◌+◌, ◌-◌, ℕ, zero, suc, Bool, true, false, not, ◌||◌, is_some, List, [], ◌∷◌, ◌++◌, length, take, drop, Option, Some, None, refl, sym, ap, ◌∙◌, ⊎_elim, arith, length-append, true≢false, leb-true, ◌%◌, eq-eqb, if◌then◌else◌, ◌==◌, nat_lt, nat_le, le-ltb}
use Rattle.std.specs.FinMap.{get, get-empty, keys}
use Rattle.std.specs.Ordering.{nat_cmp}
use Rattle.std.specs.List.{filter_map, list_any}
use Rattle.std.proofs.lemmas.Bool.{cases_lt, lt-leb}
use Rattle.std.proofs.lemmas.Option.{none-some, same_Some}
use Rattle.cpg_cred.specs.declared.refusals.Refusal.{Refusal}
use Rattle.cpg_cred.specs.declared.refusals.Refusal.TheVariants.{Foreign, NotMine, Stale, Implausible, RingEnd}
use Rattle.cpg_entry.specs.declared.entries.Entry.{Entry}
use Rattle.cpg_entry.specs.declared.frames.Token.{Token}
use Rattle.cpg_ring.specs.States.{HeldPlaces, NodeState}
use Rattle.cpg_ring.specs.declared.settings.Settings.{Settings}
use Rattle.cpg_ring.specs.declared.settings.TheConstants.{BURST}
use Rattle.cpg_ring.specs.Laws.{AllHeld, NoneAbove}
use Rattle.cpg_ring.specs.Visits.{node_of, is_past, burst_size, hold_all, up_to}
use Rattle.cpg_ring.specs.Visits as visits
use Rattle.cpg_ring.specs.Moves.{after_delivery, first_token, next_entry}
use Rattle.cpg_ring.specs.Rings.{RingNode, new_ring_node, refusal_of, step_of, visited, with_state}
use Rattle.cpg_ring.specs.Worlds.{RingOutcome, deliver}
use Rattle.cpg_node.specs.Nodes.{delivered_entries}
use Rattle.cpg_world_laws.proofs.Growing.{delivered_are}
use Rattle.cpg_ring.proofs.Holding.{Burst, burst_holds}
use Rattle.cpg_ring.proofs.Bursts.{burst_keeps, burst_has}
use Rattle.cpg_ring.proofs.Keys.{above_none}
use Rattle.cpg_ring.proofs.Lists.{item_within}
use Rattle.cpg_serve.specs.Settling.{IsLone}

-- how many entries a turn places
abbrev pub burst_of : RingNode → Token → ℕ
burst_of x t = burst_size x.settings x.state t.seq

-- ---- the places that a turn gives out

now_held : (s : Settings) (held : HeldPlaces) (seq : ℕ) (now : List Entry) → AllHeld held seq → AllHeld (hold_all held (visits.placed s seq now)) (seq + length now)
now_held s held seq now all place low high = ⊎_elim
    (λ (new : seq < place). burst_has s held seq now place new high)
    (λ (old : place ≤ seq). burst_keeps s held seq now place (all place low old))
    (cases_lt seq place)

pub short_take : (xs : List Entry) (n : ℕ) → n ≤ length xs → length (take n xs) ≡ n
short_take xs zero h = refl
short_take [] (suc n) h = absurd (omega arith)
short_take (x ∷ xs) (suc n) h = ap suc (short_take xs n (omega arith))

pub split_at : (n : ℕ) (xs : List Entry) → take n xs ++ drop n xs ≡ xs
split_at zero xs = refl
split_at (suc n) [] = refl
split_at (suc n) (x ∷ xs) = ap (λ l. x ∷ l) (split_at n xs)

pub left_at : (n : ℕ) (xs : List Entry) → n ≤ length xs → length (drop n xs) + n ≡ length xs
left_at zero xs h = omega arith
left_at (suc n) [] h = absurd (omega arith)
left_at (suc n) (x ∷ xs) h = let e = left_at n xs (omega arith) in omega (arith, e)

-- no more than wait, and than the ring has places for
pub burst_most : (x : RingNode) (t : Token) → (burst_of x t ≤ length x.state.waiting) × (burst_of x t ≤ x.settings.places - t.seq) × (burst_of x t ≤ BURST)
burst_most x t = (omega arith, omega arith, omega arith)

-- where all is delivered and places are left, all that wait are placed, or as many as a turn may
pub burst_full : (x : RingNode) (t : Token) → x.state.delivered ≡ t.seq → burst_of x t < length x.state.waiting → burst_of x t < x.settings.places - t.seq → burst_of x t ≡ BURST
burst_full x t e some places = omega (arith, e, some, places)

pub lone_visit : (x : RingNode) (t : Token) (placed : List Entry) → IsLone x t placed → IsLone (visited x t) (step_of x t).token (placed ++ take (burst_of x t) x.state.waiting)
lone_visit x t placed h =
    let most = burst_most x t in
    let now : List Entry = take (burst_of x t) x.state.waiting in
    let count : length now ≡ burst_of x t = short_take x.state.waiting (burst_of x t) most.0 in
    let burst : Burst x.state.held (hold_all x.state.held (visits.placed x.settings t.seq now)) (placed ++ now) =
    burst_holds x.settings x.state.held placed now t.seq h.seq (record { at = h.agrees }) in
    record {
      one = h.one;
      node = h.node;
      last = refl;
      ring = h.ring;
      hop = next_hop t.hop;
      seq = length-append placed now ∙ ap (λ n. n + length now) h.seq;
      held = now_held x.settings x.state.held t.seq now h.held;
      agrees = burst.agrees.at;
      within = omega (arith, count, most.1, h.within);
      delivered = omega (arith, h.delivered);
    }
  where
    next_hop : (n : ℕ) → nat_le (suc n) n ≡ false
    next_hop n = lt-leb (suc n) n (omega arith)

-- the token is refused at the ring's last hop alone
pub lone_refused : (x : RingNode) (t : Token) (placed : List Entry) (why : Refusal) → IsLone x t placed → refusal_of x t ≡ Some why → (why ≡ RingEnd) × (x.settings.hops ≤ t.hop)
lone_refused x t placed why h e =
    by_tests (t.ring == x.settings.ring) (node_of x.settings t.hop == x.node) (is_past t.hop x.state.last_hop) (list_any (nat_lt t.seq) (keys x.state.held)) (nat_lt x.settings.places t.seq) (nat_le x.settings.hops t.hop)
    (eq-eqb t.ring x.settings.ring h.ring) (eq-eqb (node_of x.settings t.hop) x.node mine) h.hop (above_none x.state.held t.seq above) (le-ltb x.settings.places t.seq h.within) refl e
  where
    mine : node_of x.settings t.hop ≡ x.node
    mine = ap (λ n. t.hop % n + 1) h.one ∙ omega arith ∙ sym h.node

    above : NoneAbove x.state.held t.seq
    above place d = let w = item_within placed place d.0 (h.agrees place d.0 d.1) in omega (arith, w.1, h.seq)

    by_tests : (a b c d e f : Bool) → a ≡ true → b ≡ true → c ≡ false → d ≡ false → e ≡ false → nat_le x.settings.hops t.hop ≡ f
        → (if not a then Some Foreign else if not b then Some NotMine else if c then Some Stale else if d || e then Some Implausible else if f then Some RingEnd else None) ≡ Some why
        → (why ≡ RingEnd) × (x.settings.hops ≤ t.hop)
    by_tests true true false false false true _ _ _ _ _ g k = (sym (same_Some RingEnd why k), leb-true x.settings.hops t.hop g)
    by_tests true true false false false false _ _ _ _ _ g k = absurd (none-some why k)
    by_tests false b c d e f p _ _ _ _ g k = absurd (true≢false (sym p))
    by_tests true false c d e f _ p _ _ _ g k = absurd (true≢false (sym p))
    by_tests true true true d e f _ _ p _ _ g k = absurd (true≢false p)
    by_tests true true false true e f _ _ _ p _ g k = absurd (true≢false p)
    by_tests true true false false true f _ _ _ _ p g k = absurd (true≢false p)

-- ---- what keeps such a ring

-- a delivery, where the next place is held, or not
abbrev pub delivered_by : Bool → NodeState → RingOutcome
delivered_by held r = if held then (after_delivery r, []) else (r, [])

-- what waits, and how much is delivered, may be other
pub lone_kept : (x : RingNode) (t : Token) (placed waiting : List Entry) (delivered : ℕ) → delivered ≤ t.seq → IsLone x t placed → IsLone (with_state x (record x.state { waiting = waiting; delivered = delivered })) t placed
lone_kept x t placed waiting delivered few h =
    record { one = h.one; node = h.node; last = h.last; ring = h.ring; hop = h.hop; seq = h.seq; held = h.held; agrees = h.agrees; within = h.within; delivered = few }

pub lone_delivered : (x : RingNode) (t : Token) (placed : List Entry) → IsLone x t placed → IsLone (with_state x (deliver x.state).0) t placed
lone_delivered x t placed h = by_next (get x.state.held (suc x.state.delivered)) refl
  where
    by_next : (o : Option Entry) → get x.state.held (suc x.state.delivered) ≡ o → IsLone (with_state x (delivered_by (is_some o) x.state).0) t placed
    by_next None e = h
    by_next (Some entry) e =
        let w = item_within placed (suc x.state.delivered) entry (h.agrees (suc x.state.delivered) entry e) in
        lone_kept x t placed x.state.waiting (suc x.state.delivered) (omega (arith, w.1, h.seq)) h

-- where nothing is to be delivered, all that has a place was
pub all_delivered : (x : RingNode) (t : Token) (placed : List Entry) → IsLone x t placed → next_entry x.state ≡ None → x.state.delivered ≡ t.seq
all_delivered x t placed h none = ⊎_elim
    (λ (less : x.state.delivered < t.seq). let d = h.held (suc x.state.delivered) (omega arith) less in absurd (none-some d.0 (sym none ∙ d.1)))
    (λ (more : t.seq ≤ x.state.delivered). omega (arith, more, h.delivered))
    (cases_lt x.state.delivered t.seq)

-- and these are the entries delivered
pub delivered_is : (x : RingNode) (t : Token) (placed : List Entry) → IsLone x t placed → next_entry x.state ≡ None → delivered_entries x.state ≡ placed
delivered_is x t placed h none =
    let all : x.state.delivered ≡ t.seq = all_delivered x t placed h none in
    let are = delivered_are x.state.held placed t.seq h.held h.agrees in
    ap (λ d. filter_map (get x.state.held) (up_to d)) all ∙ are.1 ∙ ap (λ n. take n placed) (sym h.seq) ∙ take_all placed
  where
    take_all : (xs : List Entry) → take (length xs) xs ≡ xs
    take_all [] = refl
    take_all (y ∷ ys) = ap (λ l. y ∷ l) (take_all ys)

-- a new ring of one node is such a ring
pub lone_new : (s : Settings) → s.nodes ≡ 1 → IsLone (new_ring_node s 1) (first_token s) []
lone_new s one = record {
  one = one;
  node = refl;
  last = rw one refl;
  ring = refl;
  hop = refl;
  seq = refl;
  held = λ place low high. absurd (omega arith);
  agrees = λ place e is. absurd (none-some e (sym (get-empty nat_cmp place) ∙ is));
  within = omega arith;
  delivered = omega arith;
}

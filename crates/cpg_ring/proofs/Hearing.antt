-- Every node can hear and deliver all that is agreed.
use Rattle.std.proofs.Common.{sum_by, ◌≡◌, ◌≢◌, ℕ, zero, suc, ◌+◌, ◌<◌, ◌≤◌, Bool, true, false, not, List, [], ◌∷◌, ◌++◌, length, Option, Some, None, Contains, All, refl, sym, ap, ◌∙◌, subst, ⊎_elim, arith, slice_get, if◌then◌else◌, ◌==◌, nat_lt, is_some, append-nil, eq-eqb, le-ltb}
use Rattle.std.proofs.lemmas.Option.{get_or_from_slice_get, slice_get_within, none-some, same_Some, slice_get-get_or}
use Rattle.std.proofs.lemmas.Bool.{cases_eq, cases_lt}
use Rattle.std.proofs.lemmas.List.Sums.{sum_by-set}
use Rattle.std.proofs.lemmas.List.Elements.{All-nil, All-append, All-from_recursion}
use Rattle.cpg_entry.specs.declared.frames.Frame.TheVariants as frame
use Rattle.cpg_cred.specs.declared.refusals.Refusal.TheVariants.{Foreign, Held, FarAhead, Implausible}
use Rattle.cpg_ring.specs.States.{Entry, Packet, Frame, Settings, NodeState, Holds, is_held}
use Rattle.cpg_ring.specs.Moves.{data_refusal, after_delivery}
use Rattle.cpg_ring.specs.Worlds.{World, Event, Arrive, Deliver, RingOutcome, item, with_item, receive, receive_data, deliver, moved, happens, run, agreed}
use Rattle.cpg_ring.specs.Claims.{waiting_at}
use Rattle.cpg_ring.specs.Progress.{all_waiting, IsHearing, CatchesUp}
use Rattle.cpg_ring.proofs.Lists.{item_there, item_within, item_with_same, item_with_other, length-with_item}
use Rattle.cpg_ring.proofs.Holding.{put_same}
use Rattle.cpg_ring.proofs.Bursts.{put_holds}
use Rattle.cpg_ring.proofs.Agreed.{agreed_is}
use Rattle.cpg_ring.proofs.Tours.{held_within}
use Rattle.cpg_ring.proofs.Steps.{Good, all_kept}

-- later events after early ones
pub run_append : (s : Settings) (w : World) (early late : List Event) → run s w (early ++ late) ≡ run s (run s w early) late
run_append s w [] late = refl
run_append s w (e ∷ early) late = run_append s (happens s w e) early late

-- node n is as given, and nothing more is sent
abbrev pub put : World → ℕ → NodeState → World
put w n r = record { nodes = with_item w.nodes n r; sent = w.sent }

moves_to : (w : World) (n : ℕ) (r new : NodeState) (move : NodeState → RingOutcome) → item w.nodes n ≡ Some r → (move r).0 ≡ new → (move r).1 ≡ [] → moved w n (item w.nodes n) move ≡ put w n new
moves_to w n r new move is state frames = ap (λ o. moved w n o move) is ∙ (λ i. record { nodes = with_item w.nodes n (state i); sent = (ap (λ f. w.sent ++ f) frames ∙ append-nil w.sent) i })

-- What hearing and delivering leave: all that was sent and that waits is as before, and no node delivered less.
pub record Later (r q : NodeState) : Type 0 where
  pub waiting : q.waiting ≡ r.waiting
  pub last_hop : q.last_hop ≡ r.last_hop
  pub delivered : r.delivered ≤ q.delivered
  pub held : (place : ℕ) → Holds r.held place → Holds q.held place

pub record Heard (w v : World) : Type 0 where
  pub waits : all_waiting v ≡ all_waiting w
  pub sent : v.sent ≡ w.sent
  pub count : length v.nodes ≡ length w.nodes
  pub nodes : (n : ℕ) (r : NodeState) → item w.nodes n ≡ Some r → (q : NodeState) × (item v.nodes n ≡ Some q) × Later r q

pub later_same : (r : NodeState) → Later r r
later_same r = record { waiting = refl; last_hop = refl; delivered = omega arith; held = λ place h. h }

pub later_then : (r q p : NodeState) → Later r q → Later q p → Later r p
later_then r q p a b = record { waiting = b.waiting ∙ a.waiting; last_hop = b.last_hop ∙ a.last_hop; delivered = let x = a.delivered in let y = b.delivered in omega arith; held = λ place h. b.held place (a.held place h) }

-- one node's waiting entries, among all
pub waits_with : (nodes : List NodeState) (n : ℕ) (r q : NodeState) → item nodes n ≡ Some r → sum_by (λ (x : NodeState). length x.waiting) (with_item nodes n q) + length r.waiting ≡ sum_by (λ (x : NodeState). length x.waiting) nodes + length q.waiting
waits_with nodes zero r q e = absurd (none-some r e)
waits_with nodes (suc i) r q e =
    let same = ap (λ (x : NodeState). length x.waiting) (get_or_from_slice_get nodes i r r e) in
    let sums = sum_by-set (λ (x : NodeState). length x.waiting) nodes i q r (slice_get_within nodes i r e) in
    omega arith

pub heard_same : (w : World) → Heard w w
heard_same w = record { waits = refl; sent = refl; count = refl; nodes = λ n r is. (r, is, later_same r) }

pub heard_then : (w v u : World) → Heard w v → Heard v u → Heard w u
heard_then w v u a b = record {
  waits = b.waits ∙ a.waits;
  sent = b.sent ∙ a.sent;
  count = b.count ∙ a.count;
  nodes = λ n r is. let q = a.nodes n r is in let p = b.nodes n q.0 q.1 in (p.0, p.1, later_then r q.0 p.0 q.2 p.2);
}

heard_put : (w : World) (n : ℕ) (r q : NodeState) → item w.nodes n ≡ Some r → Later r q → Heard w (put w n q)
heard_put w n r q is l = record {
  waits = let e = waits_with w.nodes n r q is in let same = ap (λ (x : List Entry). length x) l.waiting in omega arith;
  sent = refl;
  count = length-with_item w.nodes n q;
  nodes = λ m x at. ⊎_elim
      (λ (same : m ≡ n). (q, ap (item (with_item w.nodes n q)) same ∙ item_with_same w.nodes n q r is, subst (λ y. Later y q) (same_Some r x (sym is ∙ (sym (ap (item w.nodes) same) ∙ at))) l))
      (λ (apart : m ≢ n). (x, item_with_other w.nodes n m q apart ∙ at, later_same x))
      (cases_eq m n);
}

-- a frame with this place was sent
pub record Sent (s : Settings) (sent : List Frame) (place : ℕ) : Type 0 where
  pub k : ℕ
  pub packet : Packet
  pub is : item sent k ≡ Some (frame.Packet packet)
  pub place_is : packet.place ≡ place
  pub ring : packet.ring ≡ s.ring
  pub room : place ≤ s.places

pub found : {X : Type 0} (xs : List X) (x : X) → Contains xs x → (k : ℕ) × (slice_get xs k ≡ Some x)
found xs x c = (c.0, slice_get-get_or xs c.0 x c.1 ∙ ap Some c.2)

pub was_sent : (s : Settings) (w : World) → Good s w → (place : ℕ) → 1 ≤ place → place ≤ length (agreed w.sent) → Sent s w.sent place
was_sent s w g place low high =
    let list : agreed w.sent ≡ g.list = agreed_is s w g.list g.tokens g.newest g.inv in
    let same = ap (λ l. length l) list in
    let e = item_there g.list place low (omega arith) in
    let f = found w.sent _ (g.inv.entries place e.0 e.1) in
    let count = g.inv.count in
    let room = g.inv.room in
    record { k = suc f.0; packet = record { ring = s.ring; place = place; entry = e.0 }; is = f.1; place_is = refl; ring = refl; room = omega arith }

pub no_more : (s : Settings) (w : World) → Good s w → (n : ℕ) (r : NodeState) → item w.nodes n ≡ Some r → r.delivered ≤ length (agreed w.sent)
no_more s w g n r is =
    let list : agreed w.sent ≡ g.list = agreed_is s w g.list g.tokens g.newest g.inv in
    let same = ap (λ l. length l) list in
    let f = g.inv.nodes n r is in
    let within : r.delivered ≤ length g.list = held_within r.held g.list f.held r.delivered f.delivered in
    omega arith

-- the next place is refused only where it is held
next_refusal : (s : Settings) (r : NodeState) (p : Packet) → p.ring ≡ s.ring → p.place ≤ s.places → p.place ≡ suc r.delivered → data_refusal s r p ≡ (if is_held r.held p.place then Some Held else None)
next_refusal s r p ring room next = by_tests (p.ring == s.ring) (nat_lt s.places p.place) (is_held r.held p.place) (nat_lt (r.delivered + 64) p.place) (eq-eqb p.ring s.ring ring) (le-ltb s.places p.place room) (le-ltb (r.delivered + 64) p.place (omega arith))
  where
    by_tests : (a b c d : Bool) → a ≡ true → b ≡ false → d ≡ false → (if not a then Some Foreign else if b then Some Implausible else if c then Some Held else if d then Some FarAhead else None) ≡ (if c then Some Held else None)
    by_tests a b c d x y z = rw (x, y, z) refl

-- what a node is once it heard its next place
record Has (r q : NodeState) (place : ℕ) : Type 0 where
  later : Later r q
  same : q.delivered ≡ r.delivered
  has : is_held q.held place ≡ true

hears : (s : Settings) (r : NodeState) (p : Packet) → (b : Bool) → is_held r.held p.place ≡ b → Has r (receive_data r p (if b then Some Held else None)).0 p.place × ((receive_data r p (if b then Some Held else None)).1 ≡ [])
hears s r p true is = (record { later = later_same r; same = refl; has = is }, refl)
hears s r p false is = (record { later = record { waiting = refl; last_hop = refl; delivered = omega arith; held = put_holds r.held p.place p.entry }; same = refl; has = ap is_some (put_same r.held p.place p.entry) }, refl)

-- Events that are all of one kind, and what they lead to.
pub record Leads (s : Settings) (Kind : Event → Type 0) (w : World) (Goal : World → Type 0) : Type 0 where
  pub events : List Event
  pub kind : All Kind events
  pub heard : Heard w (run s w events)
  pub goal : Goal (run s w events)

pub leads_now : (s : Settings) (Kind : Event → Type 0) (w : World) (Goal : World → Type 0) → Goal w → Leads s Kind w Goal
leads_now s Kind w Goal h = record { events = []; kind = All-nil Kind; heard = heard_same w; goal = h }

pub leads_then : (s : Settings) (Kind : Event → Type 0) (w : World) (Middle Goal : World → Type 0) → Good s w → Leads s Kind w Middle → ((v : World) → Good s v → Heard w v → Middle v → Leads s Kind v Goal) → Leads s Kind w Goal
leads_then s Kind w Middle Goal g a more =
    let v = run s w a.events in
    let b = more v (all_kept s w a.events g) a.heard a.goal in
    let joined : run s w (a.events ++ b.events) ≡ run s v b.events = run_append s w a.events b.events in
    record {
      events = a.events ++ b.events;
      kind = All-append Kind a.events b.events a.kind b.kind;
      heard = subst (Heard w) (sym joined) (heard_then w v (run s v b.events) a.heard b.heard);
      goal = subst Goal (sym joined) b.goal;
    }

-- node n delivered so many places, or more
abbrev pub Delivered : ℕ → ℕ → World → Type 0
Delivered n d w = (r : NodeState) × (item w.nodes n ≡ Some r) × (d ≤ r.delivered)

pub delivered_later : (n d : ℕ) (w v : World) → Heard w v → Delivered n d w → Delivered n d v
delivered_later n d w v h x = let q = h.nodes n x.0 x.1 in let l = q.2.delivered in let m = x.2 in (q.0, q.1, omega arith)

-- the next place arrives, and is delivered
pub one_place : (s : Settings) (Kind : Event → Type 0) (w : World) (n : ℕ) (r : NodeState) (f : Sent s w.sent (suc r.delivered)) → item w.nodes n ≡ Some r → Kind (Arrive n f.k) → Kind (Deliver n) → Leads s Kind w (Delivered n (suc r.delivered))
one_place s Kind w n r f is arrives delivers =
    let p = f.packet in
    let place = f.place_is in
    let room : p.place ≤ s.places = let l = f.room in omega arith in
    let h = hears s r p (is_held r.held p.place) refl in
    let q = (receive_data r p (if is_held r.held p.place then Some Held else None)).0 in
    let got : receive s n (item w.sent f.k) r ≡ receive_data r p (if is_held r.held p.place then Some Held else None) = ap (λ o. receive s n o r) f.is ∙ ap (receive_data r p) (next_refusal s r p f.ring room place) in
    let first : happens s w (Arrive n f.k) ≡ put w n q = moves_to w n r q (receive s n (item w.sent f.k)) is (ap (λ (m : RingOutcome). m.0) got) (ap (λ (m : RingOutcome). m.1) got ∙ h.1) in
    let there : item (put w n q).nodes n ≡ Some q = item_with_same w.nodes n q r is in
    let held : is_held q.held (suc q.delivered) ≡ true = ap (λ d. is_held q.held (suc d)) h.0.same ∙ (ap (is_held q.held) (sym place) ∙ h.0.has) in
    let gives : deliver q ≡ (after_delivery q, []) = ap (λ b. if b then (after_delivery q, []) else (q, [])) held in
    let second : happens s (put w n q) (Deliver n) ≡ put (put w n q) n (after_delivery q) = moves_to (put w n q) n q (after_delivery q) deliver there (ap (λ (m : RingOutcome). m.0) gives) (ap (λ (m : RingOutcome). m.1) gives) in
    let whole : run s w (Arrive n f.k ∷ Deliver n ∷ []) ≡ put (put w n q) n (after_delivery q) = ap (λ v. happens s v (Deliver n)) first ∙ second in
    let one : Heard w (put w n q) = heard_put w n r q is h.0.later in
    let two : Heard (put w n q) (put (put w n q) n (after_delivery q)) = heard_put (put w n q) n q (after_delivery q) there (record { waiting = refl; last_hop = refl; delivered = omega arith; held = λ place h. h }) in
    let same = h.0.same in
    let goal : Delivered n (suc r.delivered) (put (put w n q) n (after_delivery q)) = (after_delivery q, item_with_same (put w n q).nodes n (after_delivery q) q there, omega arith) in
    record {
      events = Arrive n f.k ∷ Deliver n ∷ [];
      kind = both arrives delivers;
      heard = subst (Heard w) (sym whole) (heard_then w (put w n q) _ one two);
      goal = subst (Delivered n (suc r.delivered)) (sym whole) goal;
    }
  where
    both : {a b : Event} → Kind a → Kind b → All Kind (a ∷ b ∷ [])
    both {a} {b} x y = All-from_recursion Kind (a ∷ b ∷ []) (x, (y, tt))

-- the next place is held, and is delivered
pub held_place : (s : Settings) (Kind : Event → Type 0) (w : World) (n : ℕ) (r : NodeState) → item w.nodes n ≡ Some r → Holds r.held (suc r.delivered) → Kind (Deliver n) → Leads s Kind w (Delivered n (suc r.delivered))
held_place s Kind w n r is held delivers =
    let gives : deliver r ≡ (after_delivery r, []) = ap (λ b. if b then (after_delivery r, []) else (r, [])) (ap is_some held.1) in
    let whole : run s w (Deliver n ∷ []) ≡ put w n (after_delivery r) = moves_to w n r (after_delivery r) deliver is (ap (λ (m : RingOutcome). m.0) gives) (ap (λ (m : RingOutcome). m.1) gives) in
    let goal : Delivered n (suc r.delivered) (put w n (after_delivery r)) = (after_delivery r, item_with_same w.nodes n (after_delivery r) r is, omega arith) in
    record {
      events = Deliver n ∷ [];
      kind = All-from_recursion Kind (Deliver n ∷ []) (delivers, tt);
      heard = subst (Heard w) (sym whole) (heard_put w n r (after_delivery r) is (record { waiting = refl; last_hop = refl; delivered = omega arith; held = λ place h. h }));
      goal = subst (Delivered n (suc r.delivered)) (sym whole) goal;
    }

-- so many further places
node_catches : (s : Settings) (more : ℕ) (w : World) (n : ℕ) (r : NodeState) → Good s w → item w.nodes n ≡ Some r → length (agreed w.sent) ≤ r.delivered + more → Leads s IsHearing w (Delivered n (length (agreed w.sent)))
node_catches s zero w n r g is l = leads_now s IsHearing w _ (r, is, omega arith)
node_catches s (suc more) w n r g is l = ⊎_elim
    (λ (less : r.delivered < length (agreed w.sent)). leads_then s IsHearing w (Delivered n (suc r.delivered)) (Delivered n (length (agreed w.sent))) g
    (one_place s IsHearing w n r (was_sent s w g (suc r.delivered) (omega arith) less) is tt tt)
    (λ v good heard x.
    let same : length (agreed v.sent) ≡ length (agreed w.sent) = ap (λ f. length (agreed f)) heard.sent in
    let d = x.2 in
    subst (λ t. Leads s IsHearing v (Delivered n t)) same (node_catches s more v n x.0 good x.1 (omega arith))))
    (λ (all : length (agreed w.sent) ≤ r.delivered). leads_now s IsHearing w _ (r, is, all))
    (cases_lt r.delivered (length (agreed w.sent)))

-- nodes 1 to so many
abbrev pub UpTo : ℕ → ℕ → World → Type 0
UpTo j d w = (n : ℕ) → 1 ≤ n → n ≤ j → Delivered n d w

all_catch : (s : Settings) (j : ℕ) (w : World) → Good s w → j ≤ length w.nodes → Leads s IsHearing w (UpTo j (length (agreed w.sent)))
all_catch s zero w g l = leads_now s IsHearing w _ (λ n low high. absurd (omega arith))
all_catch s (suc j) w g l = leads_then s IsHearing w (UpTo j (length (agreed w.sent))) (UpTo (suc j) (length (agreed w.sent))) g
    (all_catch s j w g (omega arith))
    (λ v good heard up.
    let same : length (agreed v.sent) ≡ length (agreed w.sent) = ap (λ f. length (agreed f)) heard.sent in
    let count = heard.count in
    let r = item_there v.nodes (suc j) (omega arith) (omega arith) in
    let one = subst (λ t. Leads s IsHearing v (Delivered (suc j) t)) same (node_catches s (length (agreed v.sent)) v (suc j) r.0 good r.1 (omega arith)) in
    record {
      events = one.events;
      kind = one.kind;
      heard = one.heard;
      goal = λ n low high. ⊎_elim
          (λ (here : n ≡ suc j). subst (λ m. Delivered m (length (agreed w.sent)) (run s v one.events)) (sym here) one.goal)
          (λ (apart : n ≢ suc j). delivered_later n (length (agreed w.sent)) v (run s v one.events) one.heard (up n low (omega arith)))
          (cases_eq n (suc j));
    })

waits_on : (w v : World) → Heard w v → (n : ℕ) → waiting_at (item v.nodes n) ≡ waiting_at (item w.nodes n)
waits_on w v h n = by_value (item w.nodes n) refl
  where
    absent : item w.nodes n ≡ None → item v.nodes n ≡ None
    absent none = by_item (item v.nodes n) refl
      where
        by_item : (o : Option NodeState) → item v.nodes n ≡ o → item v.nodes n ≡ None
        by_item None is = is
        by_item (Some q) is = let b = item_within v.nodes n q is in let c = h.count in let r = item_there w.nodes n b.0 (omega arith) in absurd (none-some r.0 (sym none ∙ r.1))

    by_value : (o : Option NodeState) → item w.nodes n ≡ o → waiting_at (item v.nodes n) ≡ waiting_at (item w.nodes n)
    by_value None is = ap waiting_at (absent is) ∙ ap waiting_at (sym is)
    by_value (Some r) is = let q = h.nodes n r is in ap waiting_at q.1 ∙ (q.2.waiting ∙ ap waiting_at (sym is))

pub catches_up : (s : Settings) (w : World) → Good s w → CatchesUp s w
catches_up s w g =
    let a = all_catch s (length w.nodes) w g (omega arith) in
    let v = run s w a.events in
    let good = all_kept s w a.events g in
    record {
      events = a.events;
      hearing = a.kind;
      sent = a.heard.sent;
      waiting = waits_on w v a.heard;
      delivered = λ n r is.
          let b = item_within v.nodes n r is in
          let c = a.heard.count in
          let x = a.goal n b.0 (omega arith) in
          let same : x.0 ≡ r = same_Some x.0 r (sym x.1 ∙ is) in
          let low : length (agreed w.sent) ≤ r.delivered = subst (λ (q : NodeState). length (agreed w.sent) ≤ q.delivered) same x.2 in
          let high = no_more s v good n r is in
          let sent : length (agreed v.sent) ≡ length (agreed w.sent) = ap (λ f. length (agreed f)) a.heard.sent in
          omega arith;
    }

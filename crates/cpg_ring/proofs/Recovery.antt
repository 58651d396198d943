-- From every world that is reached the ring recovers, though no frame sent so far arrives any more.
use Rattle.std.proofs.Common.{min, sum_by, ◌≡◌, ◌≢◌, ◌⊎◌, ℕ, zero, suc, ◌+◌, ◌*◌, ◌<◌, ◌≤◌, List, [], ◌∷◌, length, Option, Some, None, Contains, refl, sym, ap, ◌∙◌, subst, inl, inr, ⊎_elim, arith, ◌-◌}
use Rattle.std.specs.FinMap.{get}
use Rattle.std.proofs.Math.Nat.{suc-mul}
use Rattle.std.proofs.lemmas.List.{nil_from_length}
use Rattle.std.proofs.lemmas.List.Sums.{sum_by-cons}
use Rattle.std.proofs.lemmas.Option.{none-some, same_Some}
use Rattle.std.proofs.lemmas.Bool.{cases_eq, cases_lt}
use Rattle.cpg_entry.specs.declared.frames.Frame.TheVariants as frame
use Rattle.cpg_ring.specs.States.{Entry, Settings, HeldPlaces, Holds, NodeState}
use Rattle.cpg_ring.specs.Visits.{node_of}
use Rattle.cpg_ring.specs.Worlds.{agreed, World, Arrive, item, run}
use Rattle.cpg_ring.specs.Progress.{AllDelivered, NoneWaits, IsAfterLoss, HasHops, DeliveredTo, Recovers, all_waiting, wanted_places, hops_for}
use Rattle.cpg_ring.proofs.Lists.{item_there, item_within, contains_item}
use Rattle.cpg_ring.proofs.Steps.{Good}
use Rattle.cpg_ring.proofs.Hearing.{waits_with, Sent, Leads, leads_now, leads_then, Delivered, delivered_later, UpTo, one_place, held_place, was_sent, no_more}
use Rattle.cpg_ring.proofs.Stores.{Stores}
use Rattle.cpg_ring.proofs.Hops.{total, total_is, Again, Alive, hop_of, alive_heard, newest_sent, Reaches, reaches_now, reaches_then, reaches_map, after_event, begins_again, next_visit, Fresh, Hopped, hops}

-- every node delivered so many places, and the newest token's hop is no later
record Level (s : Settings) (lost last top d : ℕ) (w : World) : Type 0 where
  alive : Alive s lost w
  hop : hop_of alive ≤ top
  whole : wanted_places w ≡ last
  low : (n : ℕ) (r : NodeState) → item w.nodes n ≡ Some r → d ≤ r.delivered

pub same_node : (w : World) (n : ℕ) (r q : NodeState) → item w.nodes n ≡ Some r → item w.nodes n ≡ Some q → r ≡ q
same_node w n r q a b = same_Some r q (sym a ∙ b)

abbrev level_after : (s : Settings) (lost last top d : ℕ) (w v : World) (l : Level s lost last top d w) (h : Hopped s lost w v l.alive) → hop_of l.alive < top → Level s lost last top d v
level_after s lost last top d w v l h less = record {
  alive = h.alive;
  hop = let e = h.hop in omega arith;
  whole = h.whole ∙ l.whole;
  low = λ n r at. ⊎_elim
      (λ (same : n ≡ node_of s (hop_of l.alive)).
      let here : h.q ≡ r = same_node v n h.q r (ap (item v.nodes) same ∙ h.now) at in
      let e = h.delivered in
      let low = l.low (node_of s (hop_of l.alive)) h.r h.before in
      subst (λ (q : NodeState). d ≤ q.delivered) here (omega arith))
      (λ (apart : n ≢ node_of s (hop_of l.alive)). l.low n r (sym (h.others n apart) ∙ at))
      (cases_eq n (node_of s (hop_of l.alive)));
}

-- node m does not hold the place after d; it holds that place
abbrev Lacks : ℕ → ℕ → World → Type 0
Lacks m d w = (r : NodeState) × (item w.nodes m ≡ Some r) × (get r.held (suc d) ≡ None)

abbrev HoldsAt : ℕ → ℕ → World → Type 0
HoldsAt m place w = (r : NodeState) × (item w.nodes m ≡ Some r) × Holds r.held place

lacks_after : (s : Settings) (lost : ℕ) (w v : World) (a : Alive s lost w) (h : Hopped s lost w v a) (m d : ℕ) → suc d ≤ total w → Lacks m d w → Lacks m d v
lacks_after s lost w v a h m d le x = ⊎_elim
    (λ (same : m ≡ node_of s (hop_of a)).
    let here : x.0 ≡ h.r = same_node w m x.0 h.r x.1 (ap (item w.nodes) same ∙ h.before) in
    (h.q, ap (item v.nodes) same ∙ h.now, h.held (suc d) le ∙ (ap (λ (q : NodeState). get q.held (suc d)) (sym here) ∙ x.2)))
    (λ (apart : m ≢ node_of s (hop_of a)). (x.0, h.others m apart ∙ x.1, x.2))
    (cases_eq m (node_of s (hop_of a)))

holds_after : (s : Settings) (lost : ℕ) (w v : World) (a : Alive s lost w) (h : Hopped s lost w v a) (m place : ℕ) → place ≤ total w → HoldsAt m place w → HoldsAt m place v
holds_after s lost w v a h m place le x = ⊎_elim
    (λ (same : m ≡ node_of s (hop_of a)).
    let here : x.0 ≡ h.r = same_node w m x.0 h.r x.1 (ap (item w.nodes) same ∙ h.before) in
    (h.q, ap (item v.nodes) same ∙ h.now, (x.2.0, h.held place le ∙ (ap (λ (q : NodeState). get q.held place) (sym here) ∙ x.2.1))))
    (λ (apart : m ≢ node_of s (hop_of a)). (x.0, h.others m apart ∙ x.1, x.2))
    (cases_eq m (node_of s (hop_of a)))

pub holds_or_lacks : (held : HeldPlaces) (place : ℕ) → Holds held place ⊎ (get held place ≡ None)
holds_or_lacks held place = by_value (get held place) refl
  where
    by_value : (o : Option Entry) → get held place ≡ o → Holds held place ⊎ (get held place ≡ None)
    by_value None is = inr is
    by_value (Some e) is = inl (e, is)

-- the next place is asked for
record Asked (s : Settings) (lost last top d : ℕ) (w : World) : Type 0 where
  level : Level s lost last top d w
  more : suc d ≤ total w
  asked : Contains level.alive.good.newest.rtr (suc d)

-- each node holds the next place, or it was sent after the first so many frames
record Available (s : Settings) (lost last top d : ℕ) (w : World) : Type 0 where
  level : Level s lost last top d w
  gets : (n : ℕ) (r : NodeState) → item w.nodes n ≡ Some r → Holds r.held (suc d) ⊎ Fresh s lost w (suc d)

-- a visited node that lacks the next place asks for it
abbrev asks : (s : Settings) (lost last top d : ℕ) (w v : World) (l : Level s lost last top d w) (h : Hopped s lost w v l.alive) → hop_of l.alive < top → suc d ≤ total w → get h.r.held (suc d) ≡ None → Asked s lost last top d v
asks s lost last top d w v l h less le lacks =
    let n : ℕ = node_of s (hop_of l.alive) in
    let low = l.low n h.r h.before in
    let more = h.more in
    record {
      level = level_after s lost last top d w v l h less;
      more = omega arith;
      asked = h.asked d (λ place a b. (l.alive.good.inv.nodes n h.r h.before).delivered place a (omega arith)) lacks (omega arith) le;
    }

none_sum : (nodes : List NodeState) → ((n : ℕ) (r : NodeState) → item nodes n ≡ Some r → r.waiting ≡ []) → sum_by (λ (r : NodeState). length r.waiting) nodes ≡ 0
none_sum [] h = refl
none_sum (x ∷ nodes) h =
    let first = ap (λ (l : List Entry). length l) (h 1 x refl) in
    let rest = none_sum nodes (behind h) in
    let sum = sum_by-cons (λ (r : NodeState). length r.waiting) x nodes in
    omega arith
  where
    behind : ((n : ℕ) (r : NodeState) → item (x ∷ nodes) n ≡ Some r → r.waiting ≡ []) → (n : ℕ) (r : NodeState) → item nodes n ≡ Some r → r.waiting ≡ []
    behind h zero r e = absurd (none-some r e)
    behind h (suc i) r e = h (suc (suc i)) r e

none_waits : (w : World) → all_waiting w ≡ 0 → NoneWaits w
none_waits w none n r is =
    let waits = waits_with w.nodes n r (record r { waiting = [] }) is in
    nil_from_length r.waiting (omega arith)

module _ (s : Settings) (lost last : ℕ) (some : 1 ≤ s.nodes) where
  -- the visits up to that of a node that lacks the next place
  ask_loop : (top d x : ℕ) (w : World) (l : Level s lost last top d w) (m : ℕ) → top ≤ s.hops → suc d ≤ total w → node_of s (hop_of l.alive + x) ≡ m → Lacks m d w → hop_of l.alive + x < top → Reaches s lost w (Asked s lost last top d)
  ask_loop top d zero w l m room le at lacks less =
      let h = hops s lost w l.alive some (omega arith) in
      let here : hop_of l.alive + 0 ≡ hop_of l.alive = omega arith in
      let node : node_of s (hop_of l.alive) ≡ m = ap (node_of s) (sym here) ∙ at in
      let same : lacks.0 ≡ h.2.r = same_node w m lacks.0 h.2.r lacks.1 (ap (item w.nodes) (sym node) ∙ h.2.before) in
      after_event s lost w h.0 (Arrive (node_of s (hop_of l.alive)) l.alive.k) (Asked s lost last top d) l.alive.later h.1
      (reaches_now s lost h.0 (Asked s lost last top d) (asks s lost last top d w h.0 l h.2 (omega arith) le (ap (λ (q : NodeState). get q.held (suc d)) (sym same) ∙ lacks.2)))
  ask_loop top d (suc x) w l m room le at lacks less =
      let h = hops s lost w l.alive some (omega arith) in
      let hop = h.2.hop in
      let more = h.2.more in
      let l' : Level s lost last top d h.0 = level_after s lost last top d w h.0 l h.2 (omega arith) in
      let here : hop_of h.2.alive + x ≡ hop_of l.alive + suc x = omega arith in
      after_event s lost w h.0 (Arrive (node_of s (hop_of l.alive)) l.alive.k) (Asked s lost last top d) l.alive.later h.1
      (ask_loop top d x h.0 l' m room (omega arith) (ap (node_of s) here ∙ at) (lacks_after s lost w h.0 l.alive h.2 m d le lacks) (omega arith))

  -- the visits up to that of a node that holds what is asked for
  serve_loop : (top d x : ℕ) (w : World) (a : Asked s lost last top d w) (m : ℕ) → top ≤ s.hops → node_of s (hop_of a.level.alive + x) ≡ m → HoldsAt m (suc d) w → hop_of a.level.alive + x < top → Reaches s lost w (Available s lost last top d)
  serve_loop top d zero w a m room at holds less =
      let l = a.level in
      let h = hops s lost w l.alive some (omega arith) in
      let here : hop_of l.alive + 0 ≡ hop_of l.alive = omega arith in
      let node : node_of s (hop_of l.alive) ≡ m = ap (node_of s) (sym here) ∙ at in
      let same : holds.0 ≡ h.2.r = same_node w m holds.0 h.2.r holds.1 (ap (item w.nodes) (sym node) ∙ h.2.before) in
      let fresh = h.2.served (suc d) a.asked (subst (λ (q : NodeState). Holds q.held (suc d)) same holds.2) in
      after_event s lost w h.0 (Arrive (node_of s (hop_of l.alive)) l.alive.k) (Available s lost last top d) l.alive.later h.1
      (reaches_now s lost h.0 (Available s lost last top d) (record { level = level_after s lost last top d w h.0 l h.2 (omega arith); gets = λ n r is. inr fresh }))
  serve_loop top d (suc x) w a m room at holds less =
      let l = a.level in
      let h = hops s lost w l.alive some (omega arith) in
      let hop = h.2.hop in
      let here : hop_of h.2.alive + x ≡ hop_of l.alive + suc x = omega arith in
      after_event s lost w h.0 (Arrive (node_of s (hop_of l.alive)) l.alive.k) (Available s lost last top d) l.alive.later h.1
      (⊎_elim
      (λ held. let fresh = h.2.served (suc d) a.asked held in reaches_now s lost h.0 (Available s lost last top d) (record { level = level_after s lost last top d w h.0 l h.2 (omega arith); gets = λ n r is. inr fresh }))
      (λ lacks. serve_loop top d x h.0 (asks s lost last top d w h.0 l h.2 (omega arith) a.more lacks) m room (ap (node_of s) here ∙ at) (holds_after s lost w h.0 l.alive h.2 m (suc d) a.more holds) (omega arith))
      (holds_or_lacks h.2.r.held (suc d)))

  -- a node that lacks the place, if there is one
  find_lacks : (d : ℕ) (w : World) (j : ℕ) → j ≤ length w.nodes → ((n : ℕ) (r : NodeState) → 1 ≤ n → n ≤ j → item w.nodes n ≡ Some r → Holds r.held (suc d)) ⊎ ((m : ℕ) × (1 ≤ m) × (m ≤ j) × Lacks m d w)
  find_lacks d w zero l = inl (λ n r low high at. absurd (omega arith))
  find_lacks d w (suc j) l =
      let r = item_there w.nodes (suc j) (omega arith) l in
      ⊎_elim
      (λ all. ⊎_elim
      (λ held. inl (λ n q low high at. ⊎_elim
      (λ (same : n ≡ suc j). subst (λ (y : NodeState). Holds y.held (suc d)) (same_node w n r.0 q (ap (item w.nodes) same ∙ r.1) at) held)
      (λ (apart : n ≢ suc j). all n q low (omega arith) at)
      (cases_eq n (suc j))))
      (λ none. inr (suc j, omega arith, omega arith, (r.0, r.1, none)))
      (holds_or_lacks r.0.held (suc d)))
      (λ m. let a = m.2 in inr (m.0, m.1, omega arith, m.3))
      (find_lacks d w j (omega arith))

  available : (top higher d : ℕ) (w : World) (l : Level s lost last top d w) → suc d ≤ total w → top + (s.nodes + s.nodes) ≤ higher → higher ≤ s.hops → Reaches s lost w (Available s lost last higher d)
  available top higher d w l le le' room =
      let count = l.alive.good.tours.nodes in
      let hop = l.hop in
      ⊎_elim
      (λ all. reaches_now s lost w (Available s lost last higher d) (record {
        level = record { alive = l.alive; hop = omega arith; whole = l.whole; low = l.low };
        gets = λ n r at. let b = item_within w.nodes n r at in inl (all n r b.0 b.1 at);
      }))
      (λ m.
      let high = m.2 in
      let x = next_visit s (hop_of l.alive) m.0 m.1 (omega arith) in
      let near = x.1 in
      let l₁ : Level s lost last (top + s.nodes) d w = record { alive = l.alive; hop = omega arith; whole = l.whole; low = l.low } in
      reaches_then s lost w (Asked s lost last (top + s.nodes) d) (Available s lost last higher d)
      (ask_loop (top + s.nodes) d x.0 w l₁ m.0 (omega arith) le x.2 m.3 (omega arith))
      (λ v a.
      let g = a.level.alive.good in
      let f = was_sent s v g (suc d) (omega arith) a.more in
      let kept = a.level.alive.stores.frames (frame.Packet f.packet) (contains_item v.sent f.k (frame.Packet f.packet) f.is) in
      let within = item_within v.nodes kept.0 kept.1 kept.2 in
      let count = g.tours.nodes in
      let y = next_visit s (hop_of a.level.alive) kept.0 within.0 (omega arith) in
      let near = y.1 in
      let hop = a.level.hop in
      let a₁ : Asked s lost last higher d v = record { level = record { alive = a.level.alive; hop = omega arith; whole = a.level.whole; low = a.level.low }; more = a.more; asked = a.asked } in
      serve_loop higher d y.0 v a₁ kept.0 room y.2 (kept.1, kept.2, subst (λ p. Holds kept.1.held p) f.place_is kept.3) (omega arith)))
      (find_lacks d w (length w.nodes) (omega arith))

  -- one node delivers the next place
  node_spread : (d : ℕ) (w : World) (n : ℕ) (r : NodeState) → item w.nodes n ≡ Some r → d ≤ r.delivered → Holds r.held (suc d) ⊎ Fresh s lost w (suc d) → Leads s (IsAfterLoss lost) w (Delivered n (suc d))
  node_spread d w n r is low gets = ⊎_elim
      (λ (less : d < r.delivered). leads_now s (IsAfterLoss lost) w (Delivered n (suc d)) (r, is, less))
      (λ (ge : r.delivered ≤ d).
      let same : r.delivered ≡ d = omega arith in
      subst (λ e. Leads s (IsAfterLoss lost) w (Delivered n (suc e))) same (⊎_elim
      (λ held. held_place s (IsAfterLoss lost) w n r is (subst (λ e. Holds r.held (suc e)) (sym same) held) tt)
      (λ fresh. let f : Fresh s lost w (suc r.delivered) = subst (λ e. Fresh s lost w (suc e)) (sym same) fresh in one_place s (IsAfterLoss lost) w n r f.0 is f.1 tt)
      gets))
      (cases_lt d r.delivered)

  spread_to : (top d j : ℕ) (w : World) (a : Available s lost last top d w) → j ≤ length w.nodes → Leads s (IsAfterLoss lost) w (UpTo j (suc d))
  spread_to top d zero w a l = leads_now s (IsAfterLoss lost) w _ (λ n low high. absurd (omega arith))
  spread_to top d (suc j) w a l = leads_then s (IsAfterLoss lost) w (UpTo j (suc d)) (UpTo (suc j) (suc d)) a.level.alive.good
      (spread_to top d j w a (omega arith))
      (λ v good heard up.
      let r = item_there w.nodes (suc j) (omega arith) l in
      let q = heard.nodes (suc j) r.0 r.1 in
      let low = a.level.low (suc j) r.0 r.1 in
      let later = q.2.delivered in
      let one = node_spread d v (suc j) q.0 q.1 (omega arith) (⊎_elim
      (λ held. inl (q.2.held (suc d) held))
      (λ (fresh : Fresh s lost w (suc d)). inr (subst (λ F. (f : Sent s F (suc d)) × (lost < f.k)) (sym heard.sent) fresh))
      (a.gets (suc j) r.0 r.1)) in
      record {
        events = one.events;
        kind = one.kind;
        heard = one.heard;
        goal = λ n low high. ⊎_elim
            (λ (here : n ≡ suc j). subst (λ m. Delivered m (suc d) (run s v one.events)) (sym here) one.goal)
            (λ (apart : n ≢ suc j). delivered_later n (suc d) v (run s v one.events) one.heard (up n low (omega arith)))
            (cases_eq n (suc j));
      })

  spread : (top d : ℕ) (w : World) → Available s lost last top d w → Reaches s lost w (Level s lost last top (suc d))
  spread top d w a =
      let b = spread_to top d (length w.nodes) w a (omega arith) in
      let v = run s w b.events in
      let alive = alive_heard s lost w b.events a.level.alive b.heard in
      record {
        events = b.events;
        later = b.kind;
        goal = record {
          alive = alive.0;
          hop = let e = alive.1 in let h = a.level.hop in omega arith;
          whole = let e : total v ≡ total w = ap (λ f. length (agreed f)) b.heard.sent in let k = b.heard.waits in let h = a.level.whole in omega arith;
          low = λ n r is.
              let at = item_within v.nodes n r is in
              let c = b.heard.count in
              let x = b.goal n at.0 (omega arith) in
              subst (λ (q : NodeState). suc d ≤ q.delivered) (same_node v n x.0 r x.1 is) x.2;
        };
      }

  further_place : (top higher d : ℕ) (w : World) (l : Level s lost last top d w) → suc d ≤ total w → top + (s.nodes + s.nodes) ≤ higher → higher ≤ s.hops → Reaches s lost w (Level s lost last higher (suc d))
  further_place top higher d w l le le' room = reaches_then s lost w (Available s lost last higher d) (Level s lost last higher (suc d)) (available top higher d w l le le' room) (spread higher d)

  -- an entry waits at node m
  abbrev Waits : ℕ → World → Type 0
  Waits m w = (r : NodeState) × (e : Entry) × (rest : List Entry) × (item w.nodes m ≡ Some r) × (r.waiting ≡ e ∷ rest)

  find_waits : (w : World) (j : ℕ) → j ≤ length w.nodes → ((n : ℕ) (r : NodeState) → 1 ≤ n → n ≤ j → item w.nodes n ≡ Some r → r.waiting ≡ []) ⊎ ((m : ℕ) × (1 ≤ m) × (m ≤ j) × Waits m w)
  find_waits w zero l = inl (λ n r low high at. absurd (omega arith))
  find_waits w (suc j) l =
      let r = item_there w.nodes (suc j) (omega arith) l in
      ⊎_elim
      (λ all. by_list r.0 r.1 all r.0.waiting refl)
      (λ m. let a = m.2 in inr (m.0, m.1, omega arith, m.3))
      (find_waits w j (omega arith))
    where
      by_list : (r : NodeState) → item w.nodes (suc j) ≡ Some r → ((n : ℕ) (q : NodeState) → 1 ≤ n → n ≤ j → item w.nodes n ≡ Some q → q.waiting ≡ []) → (x : List Entry) → r.waiting ≡ x → ((n : ℕ) (q : NodeState) → 1 ≤ n → n ≤ suc j → item w.nodes n ≡ Some q → q.waiting ≡ []) ⊎ ((m : ℕ) × (1 ≤ m) × (m ≤ suc j) × Waits m w)
      by_list r is all [] e = inl (λ n q low high at. ⊎_elim
          (λ (same : n ≡ suc j). ap (λ (y : NodeState). y.waiting) (same_node w n q r at (ap (item w.nodes) same ∙ is)) ∙ e)
          (λ (apart : n ≢ suc j). all n q low (omega arith) at)
          (cases_eq n (suc j)))
      by_list r is all (x ∷ rest) e = inr (suc j, omega arith, omega arith, (r, x, rest, is, e))

  -- a waiting entry takes a place where all was delivered
  rises : (top d : ℕ) (w v : World) (l : Level s lost last top d w) (h : Hopped s lost w v l.alive) (m : ℕ) → total w ≡ d → total w < s.places → m ≡ node_of s (hop_of l.alive) → Waits m w → suc d ≤ total v
  rises top d w v l h m all places same waits =
      let low = l.low (node_of s (hop_of l.alive)) h.r h.before in
      let here : waits.0 ≡ h.r = same_node w m waits.0 h.r waits.3 (ap (item w.nodes) same ∙ h.before) in
      let rose = h.raises waits.1 waits.2 (ap (λ (q : NodeState). q.waiting) (sym here) ∙ waits.4) places (omega arith) in
      omega arith

  -- the visits up to one in which an entry takes a place
  abbrev Risen : ℕ → ℕ → World → Type 0
  Risen top d v = Level s lost last top d v × (suc d ≤ total v)

  raise_loop : (top d x : ℕ) (w : World) (l : Level s lost last top d w) (m : ℕ) → top ≤ s.hops → total w ≡ d → total w < s.places → node_of s (hop_of l.alive + x) ≡ m → Waits m w → hop_of l.alive + x < top → Reaches s lost w (Risen top d)
  raise_loop top d zero w l m room all places at waits less =
      let h = hops s lost w l.alive some (omega arith) in
      let here : hop_of l.alive ≡ hop_of l.alive + 0 = omega arith in
      after_event s lost w h.0 (Arrive (node_of s (hop_of l.alive)) l.alive.k) (Risen top d) l.alive.later h.1
      (reaches_now s lost h.0 (Risen top d) (level_after s lost last top d w h.0 l h.2 (omega arith), rises top d w h.0 l h.2 m all places (sym at ∙ ap (node_of s) (sym here)) waits))
  raise_loop top d (suc x) w l m room all places at waits less =
      let h = hops s lost w l.alive some (omega arith) in
      let hop = h.2.hop in
      let more = h.2.more in
      let l' : Level s lost last top d h.0 = level_after s lost last top d w h.0 l h.2 (omega arith) in
      let here : hop_of h.2.alive + x ≡ hop_of l.alive + suc x = omega arith in
      after_event s lost w h.0 (Arrive (node_of s (hop_of l.alive)) l.alive.k) (Risen top d) l.alive.later h.1
      (⊎_elim
      (λ (rose : total w < total h.0). reaches_now s lost h.0 (Risen top d) (l', omega arith))
      (λ (stayed : total h.0 ≤ total w). ⊎_elim
      (λ (same : m ≡ node_of s (hop_of l.alive)). reaches_now s lost h.0 (Risen top d) (l', rises top d w h.0 l h.2 m all places same waits))
      (λ (apart : m ≢ node_of s (hop_of l.alive)). raise_loop top d x h.0 l' m room (omega arith) (omega arith) (ap (node_of s) here ∙ at) (waits.0, waits.1, waits.2, h.2.others m apart ∙ waits.3, waits.4) (omega arith))
      (cases_eq m (node_of s (hop_of l.alive))))
      (cases_lt (total w) (total h.0)))

  -- all is delivered, and nothing waits or the ring is full
  record Done (w : World) : Type 0 where
    delivered : AllDelivered w
    whole : wanted_places w ≡ last
    within : total w ≤ s.places
    waiting : (all_waiting w ≡ 0) ⊎ (total w ≡ s.places)

  fits : (w : World) (g : Good s w) → total w ≤ s.places
  fits w g = let t = total_is s w g in let room = g.inv.room in omega arith

  level_within : (top d : ℕ) (w : World) → Level s lost last top d w → d ≤ total w
  level_within top d w l =
      let count = l.alive.good.tours.nodes in
      let r = item_there w.nodes 1 (omega arith) (omega arith) in
      let low = l.low 1 r.0 r.1 in
      let high = no_more s w l.alive.good 1 r.0 r.1 in
      omega arith

  all_delivered : (top d : ℕ) (w : World) → Level s lost last top d w → total w ≤ d → AllDelivered w
  all_delivered top d w l le n r at = let low = l.low n r at in let high = no_more s w l.alive.good n r at in omega arith

  -- one place more is delivered everywhere, or nothing is left to do
  one_more : (top higher d : ℕ) (w : World) (l : Level s lost last top d w) → top + 3 * s.nodes ≤ higher → higher ≤ s.hops → Reaches s lost w (λ v. Done v ⊎ Level s lost last higher (suc d) v)
  one_more top higher d w l le room = ⊎_elim
      (λ (less : d < total w). reaches_map s lost w (Level s lost last higher (suc d)) (λ v. Done v ⊎ Level s lost last higher (suc d) v) (λ v x. inr x) (further_place top higher d w l less (omega arith) room))
      (λ (ge : total w ≤ d).
      let all : total w ≡ d = let h = level_within top d w l in omega arith in
      let full = fits w l.alive.good in
      let count = l.alive.good.tours.nodes in
      let done : ((all_waiting w ≡ 0) ⊎ (total w ≡ s.places)) → Reaches s lost w (λ v. Done v ⊎ Level s lost last higher (suc d) v) = λ x. reaches_now s lost w (λ v. Done v ⊎ Level s lost last higher (suc d) v) (inl (record { delivered = all_delivered top d w l ge; whole = l.whole; within = full; waiting = x })) in
      ⊎_elim
      (λ (places : total w < s.places). ⊎_elim
      (λ none. done (inl (none_sum w.nodes (λ n r at. let b = item_within w.nodes n r at in none n r b.0 b.1 at))))
      (λ m.
      let high = m.2 in
      let x = next_visit s (hop_of l.alive) m.0 m.1 (omega arith) in
      let near = x.1 in
      let hop = l.hop in
      let l₁ : Level s lost last (top + s.nodes) d w = record { alive = l.alive; hop = omega arith; whole = l.whole; low = l.low } in
      reaches_then s lost w (Risen (top + s.nodes) d) (λ v. Done v ⊎ Level s lost last higher (suc d) v)
      (raise_loop (top + s.nodes) d x.0 w l₁ m.0 (omega arith) all places x.2 m.3 (omega arith))
      (λ v y. reaches_map s lost v (Level s lost last higher (suc d)) (λ u. Done u ⊎ Level s lost last higher (suc d) u) (λ u z. inr z) (further_place (top + s.nodes) higher d v y.0 y.1 (omega arith) room)))
      (find_waits w (length w.nodes) (omega arith)))
      (λ (g : s.places ≤ total w). done (inr (omega arith)))
      (cases_lt (total w) s.places))
      (cases_lt d (total w))

  each_place : (more top d : ℕ) (w : World) (l : Level s lost last top d w) → min s.places last ≤ d + more → top + more * (3 * s.nodes) ≤ s.hops → Reaches s lost w Done
  each_place zero top d w l le room =
      let within = level_within top d w l in
      let whole = l.whole in
      let full = fits w l.alive.good in
      let ended : (all_waiting w ≡ 0) ⊎ (total w ≡ s.places) = ⊎_elim
      (λ (less : total w < s.places). inl (omega arith))
      (λ (ge : s.places ≤ total w). inr (omega arith))
      (cases_lt (total w) s.places) in
      reaches_now s lost w Done record { delivered = all_delivered top d w l (omega arith); whole = l.whole; within = full; waiting = ended }
  each_place (suc more) top d w l le room =
      let e : suc more * (3 * s.nodes) ≡ more * (3 * s.nodes) + 3 * s.nodes = suc-mul more (3 * s.nodes) in
      reaches_then s lost w (λ v. Done v ⊎ Level s lost last (top + 3 * s.nodes) (suc d) v) Done
      (one_more top (top + 3 * s.nodes) d w l (omega arith) (omega arith))
      (λ v x. ⊎_elim
      (λ done. reaches_now s lost v Done done)
      (λ next. each_place more (top + 3 * s.nodes) (suc d) v next (omega arith) (omega arith))
      x)

pub recovers : (s : Settings) (w : World) (d : ℕ) → 1 ≤ s.nodes → Good s w → Stores w → DeliveredTo w d → HasHops s w (hops_for s w d) → Recovers s w
recovers s w d some g x low room =
    let left : g.newest.hop + (min s.places (wanted_places w) - d) * (3 * s.nodes) ≤ s.hops = room g.newest (newest_sent s w g) in
    let all = reaches_then s (length w.sent) w (Again s w g) (Done s (length w.sent) (wanted_places w) some) (begins_again s w g x)
    (λ v a. each_place s (length w.sent) (wanted_places w) some (min s.places (wanted_places w) - d) g.newest.hop d v
    (record { alive = a.alive; hop = let e = a.hop in omega arith; whole = a.whole; low = λ n r at. low n r (a.nodes n r at) }) (omega arith) left) in
    let v = run s w all.events in
    let end = all.goal in
    let whole = end.whole in
    let within = end.within in
    record {
      events = all.events;
      after_loss = all.later;
      delivered = end.delivered;
      placed = ⊎_elim (λ (none : all_waiting v ≡ 0). omega arith) (λ (full : total v ≡ s.places). omega arith) end.waiting;
      waiting = λ fits. none_waits v (⊎_elim (λ (none : all_waiting v ≡ 0). none) (λ (full : total v ≡ s.places). omega arith) end.waiting);
    }

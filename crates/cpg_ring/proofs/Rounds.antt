-- What a good turn brings about.
use Rattle.std.proofs.Common.{◌≡◌, ◌≢◌, ◌⊎◌, ℕ, suc, ◌+◌, ◌<◌, ◌≤◌, List, [], ◌∷◌, ◌++◌, length, drop, Some, Contains, refl, sym, ap, ◌∙◌, subst, inl, inr, ⊎_elim, arith, append_assoc}
use Rattle.std.proofs.lemmas.Option.{none-some}
use Rattle.std.proofs.lemmas.Bool.{cases_eq, cases_lt}
use Rattle.std.proofs.lemmas.List.Elements.{Contains-append_left, Contains-append_right}
use Rattle.cpg_entry.specs.declared.frames.Frame.TheVariants as frame
use Rattle.cpg_ring.specs.States.{Packet, Token, Frame, Settings, Holds, NodeState}
use Rattle.cpg_ring.specs.Visits.{node_of}
use Rattle.cpg_ring.specs.Worlds.{World, item, run}
use Rattle.cpg_ring.specs.Progress.{AllDelivered, DeliveredTo}
use Rattle.cpg_ring.specs.Fairness.{GoodTurn}
use Rattle.cpg_ring.proofs.Lists.{item_there, item_within}
use Rattle.cpg_ring.proofs.Steps.{Good, all_kept}
use Rattle.cpg_ring.proofs.Stores.{most_hop}
use Rattle.cpg_ring.proofs.Hearing.{no_more}
use Rattle.cpg_ring.proofs.Hops.{total, total_is, newest_sent}
use Rattle.cpg_ring.proofs.Recovery.{same_node, holds_or_lacks}
use Rattle.cpg_ring.proofs.Walks.{Quiet, Visit, Turned, quiet_newest, one_visit}

-- every node holds the place
abbrev pub AllHold : ℕ → World → Type 0
AllHold place w = (n : ℕ) (r : NodeState) → item w.nodes n ≡ Some r → Holds r.held place

-- node n holds the place
abbrev pub HoldsAt : ℕ → ℕ → World → Type 0
HoldsAt n place w = (r : NodeState) × (item w.nodes n ≡ Some r) × Holds r.held place

-- what a node delivered and holds it keeps
pub record Keeps (r q : NodeState) : Type 0 where
  pub delivered : r.delivered ≤ q.delivered
  pub held : (place : ℕ) → Holds r.held place → Holds q.held place

-- and so does each node
pub record AllKeep (w v : World) : Type 0 where
  pub at : (n : ℕ) (r : NodeState) → item w.nodes n ≡ Some r → (q : NodeState) × (item v.nodes n ≡ Some q) × Keeps r q

pub keep_same : (w : World) → AllKeep w w
keep_same w = record { at = λ n r is. (r, is, record { delivered = omega arith; held = λ place h. h }) }

pub keep_then : (w v u : World) → AllKeep w v → AllKeep v u → AllKeep w u
keep_then w v u a b = record {
  at = λ n r is.
      let q = a.at n r is in
      let p = b.at n q.0 q.1 in
      let x = q.2.delivered in
      let y = p.2.delivered in
      (p.0, p.1, record { delivered = omega arith; held = λ place h. p.2.held place (q.2.held place h) });
}

quiet_keeps : (w v : World) → Quiet w v → AllKeep w v
quiet_keeps w v h = record { at = λ n r is. let q = h.nodes n r is in (q.0, q.1, record { delivered = q.2.delivered; held = q.2.held }) }

visit_keeps : (s : Settings) (w v : World) (g : Good s w) → Visit s w v g → AllKeep w v
visit_keeps s w v g t = record {
  at = λ n r is. ⊎_elim
      (λ (same : n ≡ t.node).
      let here : r ≡ t.r = same_node w n r t.r is (ap (item w.nodes) same ∙ t.before) in
      let e = t.delivered in
      (t.q, ap (item v.nodes) same ∙ t.now, subst (λ x. Keeps x t.q) (sym here) record { delivered = omega arith; held = t.held }))
      (λ (apart : n ≢ t.node). (r, t.others n apart ∙ is, record { delivered = omega arith; held = λ place h. h }))
      (cases_eq n t.node);
}

pub holds_later : (n place : ℕ) (w v : World) → AllKeep w v → HoldsAt n place w → HoldsAt n place v
holds_later n place w v k h = let q = k.at n h.0 h.1 in (q.0, q.1, q.2.held place h.2)

-- a node that is there at the end was there at the beginning
pub was_there : (s : Settings) (w v : World) → Good s w → Good s v → (n : ℕ) (q : NodeState) → item v.nodes n ≡ Some q → (r : NodeState) × (item w.nodes n ≡ Some r)
was_there s w v g h n q is = let b = item_within v.nodes n q is in let x = g.tours.nodes in let y = h.tours.nodes in item_there w.nodes n b.0 (omega arith)

pub all_hold_later : (s : Settings) (place : ℕ) (w v : World) → Good s w → Good s v → AllKeep w v → AllHold place w → AllHold place v
all_hold_later s place w v g h k all n q is =
    let r = was_there s w v g h n q is in
    let p = k.at n r.0 r.1 in
    subst (λ (x : NodeState). Holds x.held place) (same_node v n p.0 q p.1 is) (p.2.held place (all n r.0 r.1))

pub delivered_later : (s : Settings) (w v : World) (done : ℕ) → Good s w → Good s v → AllKeep w v → DeliveredTo w done → DeliveredTo v done
delivered_later s w v done g h k low n q is =
    let r = was_there s w v g h n q is in
    let p = k.at n r.0 r.1 in
    let a = low n r.0 r.1 in
    let b = p.2.delivered in
    subst (λ (x : NodeState). done ≤ x.delivered) (same_node v n p.0 q p.1 is) (omega arith)

pub drop_front : {X : Type 0} (xs ys : List X) → drop (length xs) (xs ++ ys) ≡ ys
drop_front [] ys = refl
drop_front (x ∷ xs) ys = drop_front xs ys

-- a node that holds no place after those that it delivered delivered all that it holds without a gap
pub none_next : (r : NodeState) (done : ℕ) → ¬ Holds r.held (suc r.delivered) → ((place : ℕ) → 1 ≤ place → place ≤ done → Holds r.held place) → done ≤ r.delivered
none_next r done none all = ⊎_elim
    (λ (less : r.delivered < done). absurd (none (all (suc r.delivered) (omega arith) less)))
    (λ (le : done ≤ r.delivered). le)
    (cases_lt r.delivered done)

-- how the visit of a good turn leaves a place: it is asked for, or it was held and is sent if it was asked for
pub record Missed (s : Settings) (w v : World) (g : Good s w) (h : Good s v) (place : ℕ) : Type 0 where
  pub asked : Contains h.newest.rtr place
  pub lacked : ¬ HoldsAt (node_of s g.newest.hop) place w

pub record Had (s : Settings) (w v : World) (g : Good s w) (place : ℕ) : Type 0 where
  pub holds : HoldsAt (node_of s g.newest.hop) place v
  pub serves : Contains g.newest.rtr place → AllHold place v

-- the visit of a good turn, its beginning and its end
pub record Turn (s : Settings) (w v : World) (g : Good s w) (h : Good s v) : Type 0 where
  pub turn : GoodTurn s w v
  pub turned : Turned s w v
  pub hop : h.newest.hop ≡ suc g.newest.hop

pub turn_of : (s : Settings) (w v : World) (g : Good s w) → GoodTurn s w v → (h : Good s v) × Turn s w v g h
turn_of s w v g t =
    let h = subst (Good s) t.leads (all_kept s w t.events g) in
    let hop = t.good.hop g.newest h.newest (newest_sent s w g, λ u c. most_hop s w g u c) (newest_sent s v h, λ u c. most_hop s v h u c) in (
      h,
      record {
        turn = t;
        turned = turned t.leads h hop;
        hop = hop;
      },
    )
  where
    turned : {v : World} → run s w t.events ≡ v → (h : Good s v) → h.newest.hop ≡ suc g.newest.hop → Turned s w v
    turned {v} is h hop = by_end is
      where
        by_end : run s w t.events ≡ v → Turned s w v
        by_end is = subst (λ u. (k : Good s u) → k.newest.hop ≡ suc g.newest.hop → Turned s w u) is (λ k e. one_visit s w t.events g k e) h hop

module _ (s : Settings) (w v : World) (g : Good s w) (h : Good s v) (t : Turn s w v g h) where
  abbrev visit : Visit s t.turned.x t.turned.y t.turned.good
  visit = t.turned.visit

  pub turn_keeps : AllKeep w v
  turn_keeps = keep_then w t.turned.x v (quiet_keeps w t.turned.x t.turned.early) (keep_then t.turned.x t.turned.y v (visit_keeps s t.turned.x t.turned.y t.turned.good visit) (quiet_keeps t.turned.y v t.turned.late))

  pub early_is : t.turned.good.newest ≡ g.newest
  early_is = quiet_newest s w t.turned.x g t.turned.good t.turned.early

  pub late_is : h.newest ≡ visit.good.newest
  late_is = quiet_newest s t.turned.y v visit.good h t.turned.late

  sent_now : drop (length w.sent) v.sent ≡ t.turned.early.frames ++ (visit.frames ++ t.turned.late.frames)
  sent_now =
      ap (drop (length w.sent))
      (t.turned.late.sent
      ∙ (ap (λ l. l ++ t.turned.late.frames) (visit.sent ∙ ap (λ l. l ++ visit.frames) t.turned.early.sent)
      ∙ (append_assoc (w.sent ++ t.turned.early.frames) visit.frames t.turned.late.frames
      ∙ append_assoc w.sent t.turned.early.frames (visit.frames ++ t.turned.late.frames))))
      ∙ drop_front w.sent (t.turned.early.frames ++ (visit.frames ++ t.turned.late.frames))

  in_sent : (f : Frame) → Contains visit.frames f → Contains (drop (length w.sent) v.sent) f
  in_sent f c = subst (λ l. Contains l f) (sym sent_now) (Contains-append_right t.turned.early.frames (visit.frames ++ t.turned.late.frames) f (Contains-append_left visit.frames t.turned.late.frames f c))

  -- what the visit sends all nodes hold
  sent_holds : (done place : ℕ) → DeliveredTo w done → place ≤ done + 64 → (p : Packet) × Contains visit.frames (frame.Packet p) × (p.place ≡ place) → AllHold place v
  sent_holds done place low near (p, c, same) n q is =
      let r = was_there s w v g h n q is in
      let a = low n r.0 r.1 in
      subst (Holds q.held) same (t.turn.good.held p n r.0 q (in_sent (frame.Packet p) c) r.1 is (omega arith))

  -- the places given out in the turn
  pub new_holds : (done place : ℕ) → DeliveredTo w done → total w < place → place ≤ total v → place ≤ done + 64 → AllHold place v
  new_holds done place low after within near =
      let a = total_is s w g in
      let b = total_is s v h in
      let c = ap (λ (u : Token). u.seq) early_is in
      let d = ap (λ (u : Token). u.seq) late_is in
      sent_holds done place low near (visit.placed place (omega arith) (omega arith))

  pub few_new : (total w ≤ total v) × (total v ≤ total w + 8)
  few_new =
      let a = total_is s w g in
      let b = total_is s v h in
      let c = ap (λ (u : Token). u.seq) early_is in
      let d = ap (λ (u : Token). u.seq) late_is in
      let e = visit.seq in
      (omega arith, omega arith)

  pub mine : visit.node ≡ node_of s g.newest.hop
  mine = sym visit.mine ∙ ap (λ (u : Token). node_of s u.hop) early_is

  -- what the node held at the beginning it holds when it is visited
  held_at_visit : (place : ℕ) → HoldsAt (node_of s g.newest.hop) place w → Holds visit.r.held place
  held_at_visit place (r, is, held) =
      let q = t.turned.early.nodes (node_of s g.newest.hop) r is in
      subst (λ (x : NodeState). Holds x.held place) (same_node t.turned.x (node_of s g.newest.hop) q.0 visit.r q.1 (ap (item t.turned.x.nodes) (sym mine) ∙ visit.before)) (q.2.held place held)

  pub low_at_visit : (done : ℕ) → DeliveredTo w done → done ≤ visit.r.delivered
  low_at_visit done low =
      let r = was_there s w t.turned.x g t.turned.good visit.node visit.r visit.before in
      let q = t.turned.early.nodes visit.node r.0 r.1 in
      let a = low visit.node r.0 r.1 in
      let b = q.2.delivered in
      subst (λ (x : NodeState). done ≤ x.delivered) (same_node t.turned.x visit.node q.0 visit.r q.1 visit.before) (omega arith)

  held_after_visit : (place : ℕ) → Holds visit.r.held place → HoldsAt (node_of s g.newest.hop) place v
  held_after_visit place held =
      let q = t.turned.late.nodes visit.node visit.q visit.now in
      (q.0, ap (item v.nodes) (sym mine) ∙ q.1, q.2.held place (visit.held place held))

  pub outcome : (done place : ℕ) → DeliveredTo w done → 1 ≤ place → place ≤ total w → place ≤ done + 32 → Missed s w v g h place ⊎ Had s w v g place
  outcome done place low first within near = ⊎_elim
      (λ held. inr record {
        holds = held_after_visit place held;
        serves = λ asked. sent_holds done place low (omega arith) (visit.served place (subst (λ (u : Token). Contains u.rtr place) (sym early_is) asked) held);
      })
      (λ lacks.
      let a = total_is s w g in
      let c = ap (λ (u : Token). u.seq) early_is in
      let d = low_at_visit done low in
      inl record {
        asked = subst (λ (u : Token). Contains u.rtr place) (sym late_is) (visit.asked done place (λ p x y. (t.turned.good.inv.nodes visit.node visit.r visit.before).delivered p x (omega arith)) lacks first near (omega arith) (omega arith));
        lacked = λ held. let k = held_at_visit place held in absurd (none-some k.0 (sym lacks ∙ k.1));
      })
      (holds_or_lacks visit.r.held place)

  -- at the end of the turn a node delivered all that it holds without a gap
  pub delivers_all : (done : ℕ) → ((place : ℕ) → 1 ≤ place → place ≤ done → AllHold place v) → DeliveredTo v done
  delivers_all done all n q is = none_next q done (t.turn.good.delivered n q is) (λ place low high. all place low high n q is)

-- where all is delivered, a good turn leaves it so
pub stays_settled : (s : Settings) (w v : World) → Good s w → AllDelivered w → GoodTurn s w v → AllDelivered v
stays_settled s w v g all turn =
    let h = (turn_of s w v g turn).0 in
    let t = (turn_of s w v g turn).1 in
    let low : DeliveredTo w (total w) = λ n r is. let e = all n r is in omega arith in
    let few = (few_new s w v g h t).1 in
    let done : DeliveredTo v (total v) = delivers_all s w v g h t (total v) (λ place first last. ⊎_elim
    (λ (new : total w < place). new_holds s w v g h t (total w) place low new last (omega arith))
    (λ (old : place ≤ total w). all_hold_later s place w v g h (turn_keeps s w v g h t) (λ n r is. (g.inv.nodes n r is).delivered place first (let l = low n r is in omega arith)))
    (cases_lt (total w) place)) in
    λ n q is. let a = done n q is in let b = no_more s v h n q is in omega arith

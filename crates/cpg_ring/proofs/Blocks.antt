-- A round of good turns and one more brings 32 places to every node.
use Rattle.std.proofs.Common.{◌≡◌, ◌⊎◌, ℕ, zero, suc, ◌+◌, ◌*◌, ◌-◌, ◌/◌, ◌<◌, ◌≤◌, min, Some, Contains, refl, sym, ap, ◌∙◌, subst, inl, inr, ⊎_elim, arith}
use Rattle.std.proofs.Math.Nat.{suc-mul}
use Rattle.std.proofs.lemmas.Bool.{cases_lt}
use Rattle.cpg_entry.specs.declared.frames.Frame.TheVariants as frame
use Rattle.cpg_ring.specs.States.{Settings, Holds, NodeState}
use Rattle.cpg_ring.specs.Visits.{node_of}
use Rattle.cpg_ring.specs.Worlds.{World, item}
use Rattle.cpg_ring.specs.Progress.{AllDelivered, DeliveredTo}
use Rattle.cpg_ring.specs.Fairness.{Fair, turns_for}
use Rattle.cpg_ring.proofs.Lists.{item_within, contains_item}
use Rattle.cpg_ring.proofs.Tours.{next_round}
use Rattle.cpg_ring.proofs.Steps.{Good}
use Rattle.cpg_ring.proofs.Stores.{Stores, all_stores}
use Rattle.cpg_ring.proofs.Hearing.{was_sent}
use Rattle.cpg_ring.proofs.Hops.{total, next_visit}
use Rattle.cpg_ring.proofs.Recovery.{same_node}
use Rattle.cpg_ring.proofs.Rounds.{AllHold, HoldsAt, AllKeep, Missed, Had, Turn, keep_same, keep_then, holds_later, all_hold_later, delivered_later, none_next, turn_of, turn_keeps, new_holds, few_new, outcome, stays_settled}

module _ (s : Settings) where
  pub fair_good : (k : ℕ) (w v : World) → Good s w → Fair s k w v → Good s v
  fair_good zero w v g is = subst (Good s) is g
  fair_good (suc k) w v g (x, turn, rest) = fair_good k x v (turn_of s w x g turn).0 rest

  pub fair_keeps : (k : ℕ) (w v : World) → Good s w → Fair s k w v → AllKeep w v
  fair_keeps zero w v g is = subst (AllKeep w) is (keep_same w)
  fair_keeps (suc k) w v g (x, turn, rest) =
      let t = turn_of s w x g turn in
      keep_then w x v (turn_keeps s w x g t.0 t.1) (fair_keeps k x v t.0 rest)

  pub fair_more : (k : ℕ) (w v : World) → Good s w → Fair s k w v → total w ≤ total v
  fair_more zero w v g is = subst (λ u. total w ≤ total u) is (omega arith)
  fair_more (suc k) w v g (x, turn, rest) =
      let t = turn_of s w x g turn in
      let a = (few_new s w x g t.0 t.1).0 in
      let b = fair_more k x v t.0 rest in
      omega arith

  pub fair_stores : (k : ℕ) (w v : World) → Good s w → Stores w → Fair s k w v → Stores v
  fair_stores zero w v g x is = subst Stores is x
  fair_stores (suc k) w v g x (u, turn, rest) = fair_stores k u v (turn_of s w u g turn).0 (subst Stores turn.leads (all_stores s w turn.events g x)) rest

  pub fair_settled : (k : ℕ) (w v : World) → Good s w → AllDelivered w → Fair s k w v → AllDelivered v
  fair_settled zero w v g all is = subst AllDelivered is all
  fair_settled (suc k) w v g all (x, turn, rest) = fair_settled k x v (turn_of s w x g turn).0 (stays_settled s w x g all turn) rest

  -- at the end of the last turn no node holds its next place
  fair_none : (k : ℕ) (w v : World) → Fair s (suc k) w v → (n : ℕ) (q : NodeState) → item v.nodes n ≡ Some q → ¬ Holds q.held (suc q.delivered)
  fair_none zero w v (x, turn, is) n q at = turn.good.delivered n q (ap (λ (u : World). item u.nodes n) is ∙ at)
  fair_none (suc k) w v (x, turn, rest) n q at = fair_none k x v rest n q at

  -- the first so many turns, and the others
  pub fair_split : (first k : ℕ) (w v : World) → first ≤ k → Fair s k w v → (x : World) × Fair s first w x × Fair s (k - first) x v
  fair_split zero k w v l fair = (w, refl, let same : k ≡ k - 0 = omega arith in subst (λ j. Fair s j w v) same fair)
  fair_split (suc first) zero w v l fair = absurd (omega arith)
  fair_split (suc first) (suc k) w v l (x, turn, rest) =
      let b = fair_split first k x v (omega arith) rest in
      let same : k - first ≡ suc k - suc first = omega arith in
      (b.0, (x, turn, b.1), subst (λ j. Fair s j b.0 v) same b.2)

  module _ (done place : ℕ) (first : 1 ≤ place) (near : place ≤ done + 32) where
    -- what is asked for is sent again when a node is visited that holds it
    served_within : (k x m : ℕ) (w v : World) (g : Good s w) → Fair s k w v → DeliveredTo w done → place ≤ total w → Contains g.newest.rtr place → node_of s (g.newest.hop + x) ≡ m → x < k → HoldsAt m place w → AllHold place v
    served_within zero x m w v g fair low there asked at less holds = absurd (omega arith)
    served_within (suc k) zero m w v g (u, turn, rest) low there asked at less holds =
        let h = (turn_of s w u g turn).0 in
        let t = (turn_of s w u g turn).1 in
        let same : g.newest.hop + 0 ≡ g.newest.hop = omega arith in
        ⊎_elim
        (λ (missed : Missed s w u g h place). absurd (missed.lacked (subst (λ n. HoldsAt n place w) (sym at ∙ ap (node_of s) same) holds)))
        (λ (had : Had s w u g place). all_hold_later s place u v h (fair_good k u v h rest) (fair_keeps k u v h rest) (had.serves asked))
        (outcome s w u g h t done place low first there near)
    served_within (suc k) (suc x) m w v g (u, turn, rest) low there asked at less holds =
        let h = (turn_of s w u g turn).0 in
        let t = (turn_of s w u g turn).1 in
        let keeps = turn_keeps s w u g h t in
        let hop = t.hop in
        let same : h.newest.hop + x ≡ g.newest.hop + suc x = omega arith in
        let more = (few_new s w u g h t).0 in
        ⊎_elim
        (λ (missed : Missed s w u g h place). served_within k x m u v h rest (delivered_later s w u done g h keeps low) (omega arith) missed.asked (ap (node_of s) same ∙ at) (omega arith) (holds_later m place w u keeps holds))
        (λ (had : Had s w u g place). all_hold_later s place u v h (fair_good k u v h rest) (fair_keeps k u v h rest) (had.serves asked))
        (outcome s w u g h t done place low first there near)

    -- what holds of the first hop and of those after it
    with_first : (count hop next : ℕ) (v : World) → next ≡ suc hop → HoldsAt (node_of s hop) place v → ((x : ℕ) → x < count → HoldsAt (node_of s (next + x)) place v) → (x : ℕ) → x < suc count → HoldsAt (node_of s (hop + x)) place v
    with_first count hop next v is here others zero less = let same : hop ≡ hop + 0 = omega arith in subst (λ y. HoldsAt (node_of s y) place v) same here
    with_first count hop next v is here others (suc x) less = let same : next + x ≡ hop + suc x = omega arith in subst (λ y. HoldsAt (node_of s y) place v) same (others x (omega arith))

    -- each visited node holds the place, or all do at the end
    scan : (j m : ℕ) (w v : World) (g : Good s w) → Fair s (suc j) w v → DeliveredTo w done → place ≤ total w → node_of s (g.newest.hop + j) ≡ m → HoldsAt m place w → AllHold place v ⊎ ((x : ℕ) → x < suc j → HoldsAt (node_of s (g.newest.hop + x)) place v)
    scan zero m w v g (u, turn, rest) low there at holds =
        let h = (turn_of s w u g turn).0 in
        let t = (turn_of s w u g turn).1 in
        let same : g.newest.hop + 0 ≡ g.newest.hop = omega arith in
        ⊎_elim
        (λ (missed : Missed s w u g h place). absurd (missed.lacked (subst (λ n. HoldsAt n place w) (sym at ∙ ap (node_of s) same) holds)))
        (λ (had : Had s w u g place). inr (λ x less.
        let here : g.newest.hop ≡ g.newest.hop + x = omega arith in
        subst (λ y. HoldsAt (node_of s y) place v) here (holds_later (node_of s g.newest.hop) place u v (fair_keeps zero u v h rest) had.holds)))
        (outcome s w u g h t done place low first there near)
    scan (suc j) m w v g (u, turn, rest) low there at holds =
        let h = (turn_of s w u g turn).0 in
        let t = (turn_of s w u g turn).1 in
        let keeps = turn_keeps s w u g h t in
        let hop = t.hop in
        let more = (few_new s w u g h t).0 in
        let low' = delivered_later s w u done g h keeps low in
        let same : h.newest.hop + j ≡ g.newest.hop + suc j = omega arith in
        let holds' = holds_later m place w u keeps holds in
        ⊎_elim
        (λ (missed : Missed s w u g h place). inl (served_within (suc j) j m u v h rest low' (omega arith) missed.asked (ap (node_of s) same ∙ at) (omega arith) holds'))
        (λ (had : Had s w u g place). ⊎_elim
        (λ all. inl all)
        (λ (others : (x : ℕ) → x < suc j → HoldsAt (node_of s (h.newest.hop + x)) place v). inr (with_first (suc j) g.newest.hop h.newest.hop v hop (holds_later (node_of s g.newest.hop) place u v (fair_keeps (suc j) u v h rest) had.holds) others))
        (scan j m u v h rest low' (omega arith) (ap (node_of s) same ∙ at) holds'))
        (outcome s w u g h t done place low first there near)

    -- a round and one turn more, and all hold the place
    block_place : (w v : World) (g : Good s w) → 1 ≤ s.nodes → Stores w → Fair s (suc s.nodes) w v → DeliveredTo w done → place ≤ total w → AllHold place v
    block_place w v g some stores (u, turn, rest) low there = by_turn (turn_of s w u g turn)
      where
        by_turn : (h : Good s u) × Turn s w u g h → AllHold place v
        by_turn (h, t) = ⊎_elim
            (λ (missed : Missed s w u g h place).
            let f = was_sent s w g place first there in
            let kept = stores.frames (frame.Packet f.packet) (contains_item w.sent f.k (frame.Packet f.packet) f.is) in
            let within = item_within w.nodes kept.0 kept.1 kept.2 in
            let count = g.tours.nodes in
            let holds : HoldsAt kept.0 place w = (kept.1, kept.2, subst (λ p. Holds kept.1.held p) f.place_is kept.3) in
            let y = next_visit s h.newest.hop kept.0 within.0 (omega arith) in
            served_within s.nodes y.0 kept.0 u v h rest low' there' missed.asked y.2 y.1 (holds_later kept.0 place w u keeps holds))
            (λ (had : Had s w u g place).
            let j : ℕ = s.nodes - 1 in
            let long : s.nodes ≡ suc j = omega arith in
            let hop = t.hop in
            let around : node_of s (h.newest.hop + j) ≡ node_of s g.newest.hop = round_is (h.newest.hop + j) (omega arith) in
            ⊎_elim
            (λ all. all)
            (λ (visited : (x : ℕ) → x < suc j → HoldsAt (node_of s (h.newest.hop + x)) place v). λ n q is.
            let within = item_within v.nodes n q is in
            let count = (fair_good s.nodes u v h rest).tours.nodes in
            let y = next_visit s h.newest.hop n within.0 (omega arith) in
            let near = y.1 in
            let got = subst (λ m. HoldsAt m place v) y.2 (visited y.0 (omega arith)) in
            subst (λ (x : NodeState). Holds x.held place) (same_node v n got.0 q got.1 is) got.2)
            (scan j (node_of s g.newest.hop) u v h (subst (λ k. Fair s k u v) long rest) low' there' around had.holds))
            (outcome s w u g h t done place low first there near)
          where
            keeps : AllKeep w u
            keeps = turn_keeps s w u g h t

            low' : DeliveredTo u done
            low' = delivered_later s w u done g h keeps low

            there' : place ≤ total u
            there' = let more = (few_new s w u g h t).0 in omega arith

            round_is : (y : ℕ) → y ≡ g.newest.hop + s.nodes → node_of s y ≡ node_of s g.newest.hop
            round_is y is = ap (node_of s) is ∙ next_round s g.newest.hop

  -- what is given out in these turns near what all delivered all hold
  placed_hold : (k : ℕ) (w v : World) (g : Good s w) (done place : ℕ) → Fair s k w v → DeliveredTo w done → total w < place → place ≤ total v → place ≤ done + 64 → AllHold place v
  placed_hold zero w v g done place is low after there near = let same = ap total is in absurd (omega arith)
  placed_hold (suc k) w v g done place (u, turn, rest) low after there near =
      let t = turn_of s w u g turn in
      ⊎_elim
      (λ (later : total u < place). placed_hold k u v t.0 done place rest (delivered_later s w u done g t.0 (turn_keeps s w u g t.0 t.1) low) later there near)
      (λ (now : place ≤ total u). all_hold_later s place u v t.0 (fair_good k u v t.0 rest) (fair_keeps k u v t.0 rest) (new_holds s w u g t.0 t.1 done place low after now near))
      (cases_lt (total u) place)

  -- A block: 32 places more are delivered everywhere, or all that is agreed.
  pub block : (w v : World) (g : Good s w) (done : ℕ) → 1 ≤ s.nodes → Stores w → Fair s (suc s.nodes) w v → DeliveredTo w done → DeliveredTo v (min (done + 32) (total v))
  block w v g done some stores fair low n q is = none_next q (min (done + 32) (total v)) (fair_none s.nodes w v fair n q is) (λ place first last. each place first last n q is)
    where
      old : (place : ℕ) → 1 ≤ place → place ≤ done → AllHold place v
      old place first last = all_hold_later s place w v g (fair_good (suc s.nodes) w v g fair) (fair_keeps (suc s.nodes) w v g fair) (λ n r is. let l = low n r is in (g.inv.nodes n r is).delivered place first (omega arith))

      each : (place : ℕ) → 1 ≤ place → place ≤ min (done + 32) (total v) → AllHold place v
      each place first last = ⊎_elim
          (λ (new : total w < place). placed_hold (suc s.nodes) w v g done place fair low new (omega arith) (omega arith))
          (λ (there : place ≤ total w). block_place done place first (omega arith) w v g some stores fair low there)
          (cases_lt (total w) place)

  settle_loop : (b turns : ℕ) (w v : World) (g : Good s w) (done goal : ℕ) → 1 ≤ s.nodes → Stores w → DeliveredTo w done → goal ≤ total w → goal ≤ done + 32 * b → b * suc s.nodes ≤ turns → Fair s turns w v → DeliveredTo v goal
  settle_loop zero turns w v g done goal some stores low there near l fair =
      λ n q is. let d = delivered_later s w v done g (fair_good turns w v g fair) (fair_keeps turns w v g fair) low n q is in omega arith
  settle_loop (suc b) turns w v g done goal some stores low there near l fair =
      let e : suc b * suc s.nodes ≡ b * suc s.nodes + suc s.nodes = suc-mul b (suc s.nodes) in
      let x = fair_split (suc s.nodes) turns w v (omega arith) fair in
      let more = fair_more (suc s.nodes) w x.0 g x.1 in
      settle_loop b (turns - suc s.nodes) x.0 v (fair_good (suc s.nodes) w x.0 g x.1) (min (done + 32) (total x.0)) goal some (fair_stores (suc s.nodes) w x.0 g stores x.1) (block w x.0 g done some stores x.1 low) (omega arith) (omega arith) (omega arith) x.2

  pub settles : (w v : World) (g : Good s w) (done turns : ℕ) → 1 ≤ s.nodes → Stores w → DeliveredTo w done → turns_for s (total w - done) ≤ turns → Fair s turns w v → DeliveredTo v (total w)
  settles w v g done turns some stores low l fair = settle_loop ((total w - done + 31) / 32) turns w v g done (total w) some stores low (omega arith) (omega arith) l fair

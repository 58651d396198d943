-- How long an entry waits for its place: every node gives places to 8 of its entries a round.
use Rattle.std.proofs.Common.{◌≡◌, ◌⊎◌, ℕ, zero, suc, ◌+◌, ◌*◌, ◌-◌, ◌/◌, ◌<◌, ◌≤◌, min, List, [], ◌++◌, length, take, drop, Some, sym, ap, ◌∙◌, subst, inl, inr, ⊎_elim, arith, length-append, ◌==◌, append-nil, append_assoc, take-append-drop}
use Rattle.std.proofs.Math.Nat.{suc-mul}
use Rattle.std.proofs.lemmas.Bool.{cases_lt}
use Rattle.std.proofs.lemmas.List.{take-append-le}
use Rattle.std.proofs.lemmas.List.Elements.{filter-append}
use Rattle.cpg_ring.specs.States.{Entry, Token, Frame, Settings, NodeState}
use Rattle.cpg_ring.specs.Visits.{node_of, burst_size}
use Rattle.cpg_ring.specs.Worlds.{World, item, agreed}
use Rattle.cpg_ring.specs.Claims.{by_node, waiting_at, ring_entries, admitted}
use Rattle.cpg_ring.specs.Progress.{AllDelivered, DeliveredTo}
use Rattle.cpg_ring.specs.Fairness.{Bounded, GoodTurn, Fair, Placed, TookPlaces, turns_for, rounds_for}
use Rattle.cpg_ring.proofs.Lists.{item_within}
use Rattle.cpg_ring.proofs.Agreed.{agreed_is}
use Rattle.cpg_ring.proofs.Growth.{agreed_grows}
use Rattle.cpg_ring.proofs.Steps.{Good, all_turns}
use Rattle.cpg_ring.proofs.Stores.{Stores}
use Rattle.cpg_ring.proofs.Hearing.{no_more}
use Rattle.cpg_ring.proofs.Hops.{total, total_is, next_visit}
use Rattle.cpg_ring.proofs.Recovery.{same_node}
use Rattle.cpg_ring.proofs.Rounds.{Turn, turn_of, drop_front, stays_settled, was_there, early_is, late_is, mine, low_at_visit}
use Rattle.cpg_ring.proofs.Blocks.{fair_good, fair_more, fair_settled, fair_stores, fair_split, block, settles}

-- how many of node n's entries have places
abbrev count : World → ℕ → ℕ
count w n = length (by_node n (agreed w.sent))

-- and how many were admitted there
abbrev known : World → ℕ → ℕ
known w n = length (ring_entries w n)

known_is : (w : World) (n : ℕ) (r : NodeState) → item w.nodes n ≡ Some r → known w n ≡ count w n + length r.waiting
known_is w n r is = ap (λ o. length (by_node n (agreed w.sent) ++ waiting_at o)) is ∙ length-append (by_node n (agreed w.sent)) r.waiting

-- more frames leave no node fewer places
count_grows : (w v : World) (n : ℕ) (frames : List Frame) → v.sent ≡ w.sent ++ frames → count w n ≤ count v n
count_grows w v n frames is =
    let more = agreed_grows w.sent frames in
    let same : agreed v.sent ≡ agreed w.sent ++ more.0 = ap agreed is ∙ more.1 in
    let split = ap (λ l. length (by_node n l)) same ∙ ap (λ (l : List Entry). length l) (filter-append (λ e. e.node == n) (agreed w.sent) more.0) in
    let sum = length-append (by_node n (agreed w.sent)) (by_node n more.0) in
    omega arith

known_grows : (s : Settings) (w v : World) (g : Good s w) (n : ℕ) → GoodTurn s w v → known w n ≤ known v n
known_grows s w v g n turn =
    let all = ap (λ (l : List Entry). length l) (ap (λ (u : World). ring_entries u n) (sym turn.leads) ∙ all_turns s w turn.events g n) in
    let sum = length-append (ring_entries w n) (admitted s w n turn.events) in
    omega arith

-- what was sent and admitted, and what came to it
record Onward (w v : World) (n : ℕ) : Type 0 where
  frames : List Frame
  sent : v.sent ≡ w.sent ++ frames
  more : List Entry
  entries : ring_entries v n ≡ ring_entries w n ++ more

onward_then : (w v u : World) (n : ℕ) → Onward w v n → Onward v u n → Onward w u n
onward_then w v u n a b = record {
  frames = a.frames ++ b.frames;
  sent = b.sent ∙ (ap (λ l. l ++ b.frames) a.sent ∙ append_assoc w.sent a.frames b.frames);
  more = a.more ++ b.more;
  entries = b.entries ∙ (ap (λ l. l ++ b.more) a.entries ∙ append_assoc (ring_entries w n) a.more b.more);
}

turn_onward : (s : Settings) (w v : World) (g : Good s w) (n : ℕ) → GoodTurn s w v → Onward w v n
turn_onward s w v g n turn =
    let t = (turn_of s w v g turn).1.turned in
    record {
      frames = t.early.frames ++ (t.visit.frames ++ t.late.frames);
      sent = t.late.sent
          ∙ (ap (λ l. l ++ t.late.frames) (t.visit.sent ∙ ap (λ l. l ++ t.visit.frames) t.early.sent)
          ∙ (append_assoc (w.sent ++ t.early.frames) t.visit.frames t.late.frames
          ∙ append_assoc w.sent t.early.frames (t.visit.frames ++ t.late.frames)));
      more = admitted s w n turn.events;
      entries = ap (λ (u : World). ring_entries u n) (sym turn.leads) ∙ all_turns s w turn.events g n;
    }

fair_onward : (s : Settings) (k : ℕ) (w v : World) (g : Good s w) (n : ℕ) → Fair s k w v → Onward w v n
fair_onward s zero w v g n is = subst (λ u. Onward w u n) is record { frames = []; sent = sym (append-nil w.sent); more = []; entries = sym (append-nil (ring_entries w n)) }
fair_onward s (suc k) w v g n (x, turn, rest) = onward_then w x v n (turn_onward s w x g n turn) (fair_onward s k x v (turn_of s w x g turn).0 n rest)

-- where so many entries more have places, they are the first that waited
same_rest : (front xs ys : List Entry) → front ++ xs ≡ front ++ ys → xs ≡ ys
same_rest front xs ys same = sym (drop_front front xs) ∙ (ap (drop (length front)) same ∙ drop_front front ys)

first_placed : (w v : World) (n k : ℕ) (r : NodeState) → Onward w v n → item w.nodes n ≡ Some r → k ≤ length r.waiting → count w n + k ≤ count v n → Placed w v n (take k r.waiting)
first_placed w v n k r on is less enough =
    let grown = agreed_grows w.sent on.frames in
    let own : List Entry = by_node n (agreed w.sent) in
    let new : List Entry = by_node n grown.0 in
    let left : List Entry = waiting_at (item v.nodes n) in
    let split : by_node n (agreed v.sent) ≡ own ++ new = ap (by_node n) (ap agreed on.sent ∙ grown.1) ∙ filter-append (λ e. e.node == n) (agreed w.sent) grown.0 in
    let long = ap (λ (l : List Entry). length l) split in
    let sum = length-append own new in
    let fits : k ≤ length new = omega arith in
    let same : new ++ left ≡ r.waiting ++ on.more = same_rest own (new ++ left) (r.waiting ++ on.more)
    (sym (append_assoc own new left)
    ∙ (ap (λ l. l ++ left) (sym split)
    ∙ (on.entries
    ∙ (ap (λ o. (own ++ waiting_at o) ++ on.more) is
    ∙ append_assoc own r.waiting on.more)))) in
    let first : take k new ≡ take k r.waiting = sym (take-append-le k new left fits) ∙ (ap (take k) same ∙ take-append-le k r.waiting on.more less) in
    (drop k new, split ∙ ap (λ l. own ++ l) (sym (take-append-drop k new) ∙ ap (λ l. l ++ drop k new) first))

fits : (s : Settings) (w : World) → Good s w → total w ≤ s.places
fits s w g = let t = total_is s w g in let room = g.inv.room in omega arith

module _ (s : Settings) where
  turn_counts : (w v : World) (g : Good s w) (n : ℕ) → GoodTurn s w v → count w n ≤ count v n
  turn_counts w v g n turn =
      let h = (turn_of s w v g turn).0 in
      let t = (turn_of s w v g turn).1.turned in
      let a = count_grows w t.x n t.early.frames t.early.sent in
      let b = count_grows t.x t.y n t.visit.frames t.visit.sent in
      let c = count_grows t.y v n t.late.frames t.late.sent in
      omega arith

  fair_counts : (k : ℕ) (w v : World) (g : Good s w) (n : ℕ) → Fair s k w v → (count w n ≤ count v n) × (known w n ≤ known v n)
  fair_counts zero w v g n is = subst (λ u. (count w n ≤ count u n) × (known w n ≤ known u n)) is (omega arith, omega arith)
  fair_counts (suc k) w v g n (x, turn, rest) =
      let a = turn_counts w x g n turn in
      let b = known_grows s w x g n turn in
      let c = fair_counts k x v (turn_of s w x g turn).0 n rest in
      let d = c.0 in
      let e = c.1 in
      (omega arith, omega arith)

  -- where all is delivered, the visited node gives places to 8 entries, or to all that wait, or to as many as the ring has places
  turn_takes : (w v : World) (g : Good s w) (h : Good s v) (t : Turn s w v g h) (r : NodeState) → AllDelivered w → item w.nodes (node_of s g.newest.hop) ≡ Some r → (count w (node_of s g.newest.hop) + min 8 (length r.waiting) ≤ count v (node_of s g.newest.hop)) ⊎ (total v ≡ s.places)
  turn_takes w v g h t r all is =
      let u = t.turned in
      let n : ℕ = node_of s g.newest.hop in
      let node : u.visit.node ≡ n = mine s w v g h t in
      let first = count_grows w u.x n u.early.frames u.early.sent in
      let last = count_grows u.y v n u.late.frames u.late.sent in
      let at_x : count u.x u.visit.node ≡ length (by_node u.visit.node u.good.list) = ap (λ l. length (by_node u.visit.node l)) (agreed_is s u.x u.good.list u.good.tokens u.good.newest u.good.inv) in
      let at_y : count u.y u.visit.node ≡ length (by_node u.visit.node u.visit.good.list) = ap (λ l. length (by_node u.visit.node l)) (agreed_is s u.y u.visit.good.list u.visit.good.tokens u.visit.good.newest u.visit.good.inv) in
      let takes : count u.y u.visit.node ≡ count u.x u.visit.node + burst_size s u.visit.r u.good.newest.seq = let e = u.visit.takes in omega arith in
      let takes_n : count u.y n ≡ count u.x n + burst_size s u.visit.r u.good.newest.seq = subst (λ m. count u.y m ≡ count u.x m + burst_size s u.visit.r u.good.newest.seq) node takes in
      let later = u.early.nodes n r is in
      let here : later.0 ≡ u.visit.r = same_node u.x n later.0 u.visit.r later.1 (ap (item u.x.nodes) (sym node) ∙ u.visit.before) in
      let waits : length r.waiting ≤ length u.visit.r.waiting = subst (λ (x : NodeState). length r.waiting ≤ length x.waiting) here later.2.waiting in
      let low : total w ≤ u.visit.r.delivered = low_at_visit s w v g h t (total w) (λ m q at. let e = all m q at in omega arith) in
      let a = total_is s w g in
      let b = total_is s v h in
      let c = ap (λ (y : Token). y.seq) (early_is s w v g h t) in
      let d = ap (λ (y : Token). y.seq) (late_is s w v g h t) in
      let e = u.visit.seq in
      let room = fits s v h in
      ⊎_elim
      (λ (short : s.places - total w < min 8 (length r.waiting)). inr (omega arith))
      (λ (enough : min 8 (length r.waiting) ≤ s.places - total w). inl (omega arith))
      (cases_lt (s.places - total w) (min 8 (length r.waiting)))

  -- within a round node n is visited, and comes 8 entries nearer to its goal
  round : (k x : ℕ) (w v : World) (g : Good s w) (n goal j : ℕ) → Fair s k w v → x < k → node_of s (g.newest.hop + x) ≡ n → 1 ≤ s.nodes → AllDelivered w → goal ≤ known w n → goal ≤ count w n + 8 * suc j → (goal ≤ count v n + 8 * j) ⊎ (total v ≡ s.places)
  round zero x w v g n goal j fair less at some all own near = absurd (omega arith)
  round (suc k) zero w v g n goal j (u, turn, rest) less at some all own near =
      let h = (turn_of s w u g turn).0 in
      let t = (turn_of s w u g turn).1 in
      let same : g.newest.hop + 0 ≡ g.newest.hop = omega arith in
      let here : node_of s g.newest.hop ≡ n = ap (node_of s) (sym same) ∙ at in
      let r = was_there s w t.turned.x g t.turned.good t.turned.visit.node t.turned.visit.r t.turned.visit.before in
      let is : item w.nodes (node_of s g.newest.hop) ≡ Some r.0 = ap (item w.nodes) (sym (mine s w u g h t)) ∙ r.1 in
      let own_is = known_is w n r.0 (ap (item w.nodes) (sym here) ∙ is) in
      let later = (fair_counts k u v h n rest).0 in
      let full = fits s v (fair_good s k u v h rest) in
      let more = fair_more s k u v h rest in
      ⊎_elim
      (λ taken. let got : count w n + min 8 (length r.0.waiting) ≤ count u n = subst (λ m. count w m + min 8 (length r.0.waiting) ≤ count u m) here taken in inl (omega arith))
      (λ (ended : total u ≡ s.places). inr (omega arith))
      (turn_takes w u g h t r.0 all is)
  round (suc k) (suc x) w v g n goal j (u, turn, rest) less at some all own near =
      let h = (turn_of s w u g turn).0 in
      let t = (turn_of s w u g turn).1 in
      let hop = t.hop in
      let same : h.newest.hop + x ≡ g.newest.hop + suc x = omega arith in
      let a = turn_counts w u g n turn in
      let b = known_grows s w u g n turn in
      round k x u v h n goal j rest (omega arith) (ap (node_of s) same ∙ at) some (stays_settled s w u g all turn) (omega arith) (omega arith)

  rounds : (j turns : ℕ) (w v : World) (g : Good s w) (n goal : ℕ) → Fair s turns w v → j * s.nodes ≤ turns → 1 ≤ s.nodes → 1 ≤ n → n ≤ s.nodes → AllDelivered w → goal ≤ known w n → goal ≤ count w n + 8 * j → (goal ≤ count v n) ⊎ (total v ≡ s.places)
  rounds zero turns w v g n goal fair l some low high all own near = let a = (fair_counts turns w v g n fair).0 in inl (omega arith)
  rounds (suc j) turns w v g n goal fair l some low high all own near =
      let e : suc j * s.nodes ≡ j * s.nodes + s.nodes = suc-mul j s.nodes in
      let x = fair_split s s.nodes turns w v (omega arith) fair in
      let h = fair_good s s.nodes w x.0 g x.1 in
      let y = next_visit s g.newest.hop n low high in
      let more = fair_more s (turns - s.nodes) x.0 v h x.2 in
      let full = fits s v (fair_good s (turns - s.nodes) x.0 v h x.2) in
      let b = (fair_counts s.nodes w x.0 g n x.1).1 in
      ⊎_elim
      (λ (nearer : goal ≤ count x.0 n + 8 * j). rounds j (turns - s.nodes) x.0 v h n goal x.2 (omega arith) some low high (fair_settled s s.nodes w x.0 g all x.1) (omega arith) nearer)
      (λ (ended : total x.0 ≡ s.places). inr (omega arith))
      (round s.nodes y.0 w x.0 g n goal j x.1 y.1 y.2 some all own near)

  named : (w v : World) (g : Good s w) (n before turns : ℕ) (r : NodeState) → item w.nodes n ≡ Some r → before < length r.waiting → Fair s turns w v → (count w n + suc before ≤ count v n) ⊎ (total v ≡ s.places) → Placed w v n (take (suc before) r.waiting) ⊎ (total v ≡ s.places)
  named w v g n before turns r is less fair end = ⊎_elim (λ enough. inl (first_placed w v n (suc before) r (fair_onward s turns w v g n fair) is less enough)) inr end

  waits_settled : (w v : World) (g : Good s w) (n before turns : ℕ) (r : NodeState) → 1 ≤ s.nodes → item w.nodes n ≡ Some r → before < length r.waiting → AllDelivered w → rounds_for s before ≤ turns → Fair s turns w v → TookPlaces s w v n (take (suc before) r.waiting)
  waits_settled w v g n before turns r some is less all l fair =
      let within = item_within w.nodes n r is in
      let nodes = g.tours.nodes in
      let own = known_is w n r is in
      record {
        placed = named w v g n before turns r is less fair (rounds (suc (before / 8)) turns w v g n (count w n + suc before) fair l some within.0 (omega arith) all (omega arith) (omega arith));
        delivered = fair_settled s turns w v g all fair;
      }

  -- blocks until all is delivered, and then rounds
  wait_loop : (b turns : ℕ) (w v : World) (g : Good s w) (n goal j done : ℕ) → Fair s turns w v → b * suc s.nodes + j * s.nodes ≤ turns → 1 ≤ s.nodes → Stores w → 1 ≤ n → n ≤ s.nodes → DeliveredTo w done → total v ≤ done + 32 * b → goal ≤ known w n → goal ≤ count w n + 8 * j → ((goal ≤ count v n) ⊎ (total v ≡ s.places)) × AllDelivered v
  wait_loop zero turns w v g n goal j done fair l some stores low high delivered reach own near =
      let more = fair_more s turns w v g fair in
      let all : AllDelivered w = λ m q at. let a = delivered m q at in let b = no_more s w g m q at in omega arith in
      (rounds j turns w v g n goal fair (omega arith) some low high all own near, fair_settled s turns w v g all fair)
  wait_loop (suc b) turns w v g n goal j done fair l some stores low high delivered reach own near =
      let e : suc b * suc s.nodes ≡ b * suc s.nodes + suc s.nodes = suc-mul b (suc s.nodes) in
      let x = fair_split s (suc s.nodes) turns w v (omega arith) fair in
      let h = fair_good s (suc s.nodes) w x.0 g x.1 in
      let a = (fair_counts (suc s.nodes) w x.0 g n x.1).0 in
      let c = (fair_counts (suc s.nodes) w x.0 g n x.1).1 in
      let rose = block s w x.0 g done some stores x.1 delivered in
      ⊎_elim
      (λ (caught : total x.0 < done + 32).
      let all : AllDelivered x.0 = λ m q at. let y = rose m q at in let z = no_more s x.0 h m q at in omega arith in
      (rounds j (turns - suc s.nodes) x.0 v h n goal x.2 (omega arith) some low high all (omega arith) (omega arith), fair_settled s (turns - suc s.nodes) x.0 v h all x.2))
      (λ (behind : done + 32 ≤ total x.0). wait_loop b (turns - suc s.nodes) x.0 v h n goal j (done + 32) x.2 (omega arith) some (fair_stores s (suc s.nodes) w x.0 g stores x.1) low high (λ m q at. let y = rose m q at in omega arith) (omega arith) (omega arith) (omega arith))
      (cases_lt (total x.0) (done + 32))

  waits : (w v : World) (g : Good s w) (n before done turns : ℕ) (r : NodeState) → 1 ≤ s.nodes → Stores w → item w.nodes n ≡ Some r → before < length r.waiting → DeliveredTo w done → turns_for s (total v - done) + rounds_for s before ≤ turns → Fair s turns w v → TookPlaces s w v n (take (suc before) r.waiting)
  waits w v g n before done turns r some stores is less delivered l fair =
      let within = item_within w.nodes n r is in
      let nodes = g.tours.nodes in
      let own = known_is w n r is in
      let end = wait_loop ((total v - done + 31) / 32) turns w v g n (count w n + suc before) (suc (before / 8)) done fair l some stores within.0 (omega arith) delivered (omega arith) (omega arith) (omega arith) in
      record { placed = named w v g n before turns r is less fair end.0; delivered = end.1 }

  -- what so many good turns bring about
  pub bounded : (w v : World) (g : Good s w) (turns : ℕ) → 1 ≤ s.nodes → Stores w → Fair s turns w v → Bounded s w v turns
  bounded w v g turns some stores fair = record {
    settles = λ done low l. settles s w v g done turns some stores low l fair;
    stays_settled = λ all. fair_settled s turns w v g all fair;
    waits_settled = λ n before r is less all l. waits_settled w v g n before turns r some is less all l fair;
    waits = λ n before done r is less low l. waits w v g n before done turns r some stores is less low l fair;
  }

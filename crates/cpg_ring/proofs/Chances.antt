-- A good turn is possible: the newest token arrives, and then all that was sent.
use Rattle.std.proofs.Common.{◌≡◌, ℕ, zero, suc, ◌<◌, ◌≤◌, List, [], ◌∷◌, length, drop, Contains, sym, ap, ◌∙◌, subst, arith}
use Rattle.std.proofs.lemmas.List.Elements.{All-append, All-from_recursion}
use Rattle.cpg_entry.specs.declared.frames.Frame.TheVariants as frame
use Rattle.cpg_ring.specs.States.{Packet, Token, Frame, Settings}
use Rattle.cpg_ring.specs.Visits.{node_of}
use Rattle.cpg_ring.specs.Worlds.{World, Event, Arrive, run, agreed}
use Rattle.cpg_ring.specs.Progress.{AllDelivered, IsHearing}
use Rattle.cpg_ring.specs.Fairness.{IsNewest, GoodHop, HasTurn}
use Rattle.cpg_ring.proofs.Lists.{item_within}
use Rattle.cpg_ring.proofs.Agreed.{agreed_is}
use Rattle.cpg_ring.proofs.Steps.{Good, all_kept}
use Rattle.cpg_ring.proofs.Stores.{Stores, most_hop}
use Rattle.cpg_ring.proofs.Hearing.{found, catches_up}
use Rattle.cpg_ring.proofs.Hops.{Alive, hops, newest_sent, same_newest}

-- the newest token of a world is one
newest_is : (s : Settings) (w : World) (g : Good s w) (t : Token) → IsNewest w t → t.hop ≡ g.newest.hop
newest_is s w g t new = let a = most_hop s w g t new.0 in let b = new.1 g.newest (newest_sent s w g) in omega arith

contains_drop : (k : ℕ) (xs : List Frame) (x : Frame) → Contains (drop k xs) x → Contains xs x
contains_drop zero xs x c = c
contains_drop (suc k) [] x c = c
contains_drop (suc k) (y ∷ xs) x c = let d = contains_drop k xs x c in let l = d.1 in (suc d.0, omega arith, d.2)

-- what is sent lies among the agreed places
placed_within : (s : Settings) (w : World) (g : Good s w) (p : Packet) → Contains w.sent (frame.Packet p) → (1 ≤ p.place) × (p.place ≤ length (agreed w.sent))
placed_within s w g p c =
    let at = item_within g.list p.place p.entry (g.inv.frames (frame.Packet p) c).1 in
    let same = ap (λ l. length l) (agreed_is s w g.list g.tokens g.newest g.inv) in
    (at.0, omega arith)

-- where all is delivered nothing is missed
hop_to : (s : Settings) (w v : World) (g : Good s w) (h : Good s v) → h.newest.hop ≡ suc g.newest.hop → AllDelivered v → GoodHop w v
hop_to s w v g h hop all = record {
  hop = λ t u a b. newest_is s v h u b ∙ (hop ∙ ap suc (sym (newest_is s w g t a)));
  held = λ p n r q c before is near.
      let at = placed_within s v h p (contains_drop (length w.sent) v.sent (frame.Packet p) c) in
      let d = all n q is in
      let l = at.1 in
      (h.inv.nodes n q is).delivered p.place at.0 (omega arith);
  delivered = λ n q is next.
      let d = all n q is in
      let at = (h.inv.nodes n q is).held.at (suc q.delivered) next.0 next.1 in
      let within = item_within h.list (suc q.delivered) next.0 at in
      let same = ap (λ l. length l) (agreed_is s v h.list h.tokens h.newest h.inv) in
      let high = within.1 in
      absurd (omega arith);
}

-- below the last hop the newest token arrives, and then all that is agreed
pub has_turn : (s : Settings) (w : World) (g : Good s w) → 1 ≤ s.nodes → Stores w → (t : Token) → IsNewest w t → t.hop < s.hops → HasTurn s w
has_turn s w g some stores t new room =
    let at = newest_is s w g t new in
    let f = found w.sent (frame.Token g.newest) (newest_sent s w g) in
    let a : Alive s 0 w = record { good = g; stores = stores; k = suc f.0; later = omega arith; is = f.1 } in
    let next = hops s 0 w a some (omega arith) in
    let c = catches_up s next.0 next.2.alive.good in
    let first : Event = Arrive (node_of s g.newest.hop) (suc f.0) in
    let v : World = run s next.0 c.events in
    let h : Good s v = all_kept s next.0 c.events next.2.alive.good in
    let leads : run s w (first ∷ c.events) ≡ v = ap (λ u. run s u c.events) next.1 in
    let same : h.newest ≡ next.2.alive.good.newest = same_newest s next.0 v next.2.alive.good h
    (λ u x. subst (λ l. Contains l (frame.Token u)) (sym c.sent) x)
    (λ u x. subst (λ l. Contains l (frame.Token u)) c.sent x) in
    let hop : h.newest.hop ≡ suc g.newest.hop = ap (λ (u : Token). u.hop) same ∙ next.2.hop in
    record {
      events = first ∷ c.events;
      hearing = All-append IsHearing (first ∷ []) c.events (All-from_recursion IsHearing (first ∷ []) (tt, tt)) c.hearing;
      good = subst (GoodHop w) (sym leads) (hop_to s w v g h hop c.delivered);
    }

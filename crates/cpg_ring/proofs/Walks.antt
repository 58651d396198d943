-- What a list of events brings about whose token makes one hop: before and after its one visit nothing new is sent.
use Rattle.std.proofs.Common.{◌≡◌, ◌≢◌, ◌⊎◌, ℕ, suc, ◌+◌, ◌<◌, ◌≤◌, min, Bool, true, false, List, [], ◌∷◌, ◌++◌, length, map, take, drop, Option, Some, None, Contains, All, refl, sym, ap, ◌∙◌, subst, inl, inr, ⊎_elim, arith, if◌then◌else◌, append-nil, append_assoc, length-take, length-append, ◌==◌}
use Rattle.std.specs.FinMap.{get}
use Rattle.std.proofs.lemmas.Option.{same_Some}
use Rattle.std.proofs.lemmas.Bool.{cases_eq}
use Rattle.std.proofs.lemmas.List.Elements.{All-take, All-drop, filter-append, recursion_from_All, Contains-append_left, Contains-append_right, Contains-append_cases}
use Rattle.cpg_entry.specs.declared.frames.Frame.TheVariants as frame
use Rattle.cpg_ring.specs.States.{Entry, Packet, Token, Frame, Refusal, Settings, Holds, NodeState, is_held}
use Rattle.cpg_ring.specs.Visits.{VisitStep, node_of, token_refusal, burst_size, served, placed, visit_step, after_visit}
use Rattle.cpg_ring.specs.Moves.{data_refusal, is_full, after_entry, after_delivery}
use Rattle.cpg_ring.specs.Laws.{AllHeld}
use Rattle.cpg_ring.specs.Worlds.{World, Event, Enqueue, EnqueueEnd, Arrive, Timer, Deliver, RingOutcome, item, with_item, enqueue, enqueue_end, accept, receive, receive_token, receive_data, send_again, deliver, moved, happens, run}
use Rattle.cpg_ring.specs.Claims.{by_node}
use Rattle.cpg_ring.proofs.Lists.{item_with_same, item_with_other, contains_none, contains_one, contains_item}
use Rattle.cpg_ring.proofs.Invariant.{Inv, after}
use Rattle.cpg_ring.proofs.Refusals.{accepted_is_newest}
use Rattle.cpg_ring.proofs.Visits.{visited, contains_map}
use Rattle.cpg_ring.proofs.Amounts.{placed_keeps}
use Rattle.cpg_ring.proofs.Bursts.{put_holds, burst_keeps}
use Rattle.cpg_ring.proofs.Tours.{tours_visit}
use Rattle.cpg_ring.proofs.Steps.{Good, kept, all_own}
use Rattle.cpg_ring.proofs.Hops.{served_has, same_newest}
use Rattle.cpg_ring.proofs.Requests.{near_asked}

-- a node that lost nothing
pub record Grown (r q : NodeState) : Type 0 where
  pub delivered : r.delivered ≤ q.delivered
  pub held : (place : ℕ) → Holds r.held place → Holds q.held place
  pub waiting : length r.waiting ≤ length q.waiting

-- Frames that were sent are at most sent again, and no node loses anything.
pub record Quiet (w v : World) : Type 0 where
  pub frames : List Frame
  pub sent : v.sent ≡ w.sent ++ frames
  pub again : (f : Frame) → Contains frames f → Contains w.sent f
  pub nodes : (n : ℕ) (r : NodeState) → item w.nodes n ≡ Some r → (q : NodeState) × (item v.nodes n ≡ Some q) × Grown r q

grown_same : (r : NodeState) → Grown r r
grown_same r = record { delivered = omega arith; held = λ place h. h; waiting = omega arith }

pub quiet_same : (w : World) → Quiet w w
quiet_same w = record { frames = []; sent = sym (append-nil w.sent); again = λ f c. absurd (contains_none f c); nodes = λ n r is. (r, is, grown_same r) }

pub quiet_sent : (w v : World) → Quiet w v → (f : Frame) → Contains v.sent f → Contains w.sent f
quiet_sent w v h f c = ⊎_elim (λ old. old) (h.again f) (Contains-append_cases w.sent h.frames f (subst (λ l. Contains l f) h.sent c))

pub quiet_old : (w v : World) → Quiet w v → (f : Frame) → Contains w.sent f → Contains v.sent f
quiet_old w v h f c = subst (λ l. Contains l f) (sym h.sent) (Contains-append_left w.sent h.frames f c)

grown_then : (r q p : NodeState) → Grown r q → Grown q p → Grown r p
grown_then r q p a b =
    let d = a.delivered in
    let e = b.delivered in
    let x = a.waiting in
    let y = b.waiting in
    record { delivered = omega arith; held = λ place h. b.held place (a.held place h); waiting = omega arith }

pub quiet_then : (w v u : World) → Quiet w v → Quiet v u → Quiet w u
quiet_then w v u a b = record {
  frames = a.frames ++ b.frames;
  sent = b.sent ∙ (ap (λ l. l ++ b.frames) a.sent ∙ append_assoc w.sent a.frames b.frames);
  again = λ f c. ⊎_elim (a.again f) (λ new. quiet_sent w v a f (b.again f new)) (Contains-append_cases a.frames b.frames f c);
  nodes = λ n r is. let q = a.nodes n r is in let p = b.nodes n q.0 q.1 in (p.0, p.1, grown_then r q.0 p.0 q.2 p.2);
}

quiet_put : (w : World) (n : ℕ) (r new : NodeState) (frames : List Frame) → item w.nodes n ≡ Some r → Grown r new → ((f : Frame) → Contains frames f → Contains w.sent f) → Quiet w (after w n new frames)
quiet_put w n r new frames is grown again = record {
  frames = frames;
  sent = refl;
  again = again;
  nodes = λ m q at. ⊎_elim
      (λ (same : m ≡ n). (new, ap (item (with_item w.nodes n new)) same ∙ item_with_same w.nodes n new r is, subst (λ x. Grown x new) (same_Some r q (sym is ∙ (sym (ap (item w.nodes) same) ∙ at))) grown))
      (λ (apart : m ≢ n). (q, item_with_other w.nodes n m new apart ∙ at, grown_same q))
      (cases_eq m n);
}

-- the newest token is accepted at node n
pub record Visit (s : Settings) (w v : World) (g : Good s w) : Type 0 where
  pub good : Good s v
  pub node : ℕ
  pub mine : node_of s g.newest.hop ≡ node
  pub r : NodeState
  pub q : NodeState
  pub before : item w.nodes node ≡ Some r
  pub now : item v.nodes node ≡ Some q
  pub others : (m : ℕ) → m ≢ node → item v.nodes m ≡ item w.nodes m
  pub hop : good.newest.hop ≡ suc g.newest.hop
  pub seq : good.newest.seq ≡ g.newest.seq + burst_size s r g.newest.seq
  pub takes : length (by_node node good.list) ≡ length (by_node node g.list) + burst_size s r g.newest.seq
  pub delivered : q.delivered ≡ r.delivered
  pub held : (place : ℕ) → Holds r.held place → Holds q.held place
  pub frames : List Frame
  pub sent : v.sent ≡ w.sent ++ frames
  pub served : (place : ℕ) → Contains g.newest.rtr place → Holds r.held place → (p : Packet) × Contains frames (frame.Packet p) × (p.place ≡ place)
  pub placed : (place : ℕ) → g.newest.seq < place → place ≤ good.newest.seq → (p : Packet) × Contains frames (frame.Packet p) × (p.place ≡ place)
  pub asked : (done place : ℕ) → AllHeld r.held done → get r.held place ≡ None → 1 ≤ place → place ≤ done + 32 → place ≤ r.delivered + 64 → place ≤ g.newest.seq → Contains good.newest.rtr place

visits : (s : Settings) (w : World) (g : Good s w) (n : ℕ) (r : NodeState) → item w.nodes n ≡ Some r → node_of s g.newest.hop ≡ n → let step = visit_step s n r g.newest in Visit s w (after w n (after_visit r g.newest step) (map frame.Packet step.packets ++ frame.Token step.token ∷ [])) g
visits s w g n r is mine =
    let L : Token = g.newest in
    let k : ℕ = burst_size s r L.seq in
    let step : VisitStep = visit_step s n r L in
    let now : List Entry = take k r.waiting in
    let rest : List Entry = drop k r.waiting in
    let F : List Frame = map frame.Packet step.packets ++ frame.Token step.token ∷ [] in
    let new : NodeState = after_visit r L step in
    let v : World = after w n new F in
    let fit : L.seq ≤ s.places = g.inv.room in
    let l : length now ≡ min k (length r.waiting) = length-take k r.waiting in
    let inv : Inv s v (g.list ++ now) (g.tokens ++ step.token ∷ []) step.token = visited s w g.list g.tokens L n r now rest g.inv is mine (omega arith) (All-drop (λ e. e.node ≡ n) k r.waiting (g.inv.nodes n r is).own) in
    record {
      good = record { list = g.list ++ now; tokens = g.tokens ++ step.token ∷ []; newest = step.token; inv = inv; tours = tours_visit s w g.list g.tokens L n r now rest F g.inv g.tours is mine };
      node = n;
      mine = mine;
      r = r;
      q = new;
      before = is;
      now = item_with_same w.nodes n new r is;
      others = λ m apart. item_with_other w.nodes n m new apart;
      hop = refl {a = suc L.hop};
      seq = omega arith;
      takes =
          let own : All (λ e. e.node ≡ n) now = All-take (λ e. e.node ≡ n) k r.waiting (g.inv.nodes n r is).own in
          let both : by_node n (g.list ++ now) ≡ by_node n g.list ++ now = filter-append (λ e. e.node == n) g.list now ∙ ap (λ l. by_node n g.list ++ l) (all_own n now (recursion_from_All (λ e. e.node ≡ n) now own)) in
          let long = ap (λ l. length l) both in
          let sum = length-append (by_node n g.list) now in
          omega arith;
      delivered = refl;
      held = λ place h. burst_keeps s r.held L.seq now place h;
      frames = F;
      sent = refl;
      served = λ place c h. (
        record { ring = s.ring; place = place; entry = h.0 },
        packet_in _ (Contains-append_left (served s r.held L.rtr) (placed s L.seq now) _ (served_has s r.held L.rtr place h.0 c h.1)),
        refl,
      );
      placed = λ place low high. in_burst place low (omega arith);
      asked = λ done place all lacks low near window high. near_asked step.held r.delivered (L.seq + length now) done place L.rtr
          (λ p a b. burst_keeps s r.held L.seq now p (all p a b))
          (placed_keeps s r.held L.seq now place high ∙ lacks)
          low near window (omega arith);
    }
  where
    packets : List Packet
    packets = (visit_step s n r g.newest).packets

    packet_in : (p : Packet) → Contains packets p → Contains (map frame.Packet packets ++ frame.Token (visit_step s n r g.newest).token ∷ []) (frame.Packet p)
    packet_in p c = Contains-append_left (map frame.Packet packets) (frame.Token (visit_step s n r g.newest).token ∷ []) (frame.Packet p) (contains_map frame.Packet packets p c)

    in_burst : (place : ℕ) → g.newest.seq < place → place ≤ g.newest.seq + length (take (burst_size s r g.newest.seq) r.waiting) → (p : Packet) × Contains (map frame.Packet packets ++ frame.Token (visit_step s n r g.newest).token ∷ []) (frame.Packet p) × (p.place ≡ place)
    in_burst place low high = placed_in g.newest.seq (take (burst_size s r g.newest.seq) r.waiting) (λ p c. packet_in p (Contains-append_right (served s r.held g.newest.rtr) (placed s g.newest.seq (take (burst_size s r g.newest.seq) r.waiting)) p c)) place low high
      where
        Found : ℕ → Type 0
        Found place = (p : Packet) × Contains (map frame.Packet packets ++ frame.Token (visit_step s n r g.newest).token ∷ []) (frame.Packet p) × (p.place ≡ place)

        placed_in : (seq : ℕ) (now : List Entry) → ((p : Packet) → Contains (placed s seq now) p → Contains (map frame.Packet packets ++ frame.Token (visit_step s n r g.newest).token ∷ []) (frame.Packet p)) → (place : ℕ) → seq < place → place ≤ seq + length now → Found place
        placed_in seq [] into place low high = absurd (omega arith)
        placed_in seq (e ∷ now) into place low high = ⊎_elim
            (λ (same : place ≡ suc seq). (record { ring = s.ring; place = suc seq; entry = e }, into _ (0, omega arith, refl), sym same))
            (λ (apart : place ≢ suc seq). placed_in (suc seq) now (λ p c. into p (let l = c.1 in (suc c.0, omega arith, c.2))) place (omega arith) (omega arith))
            (cases_eq place (suc seq))

-- an event is quiet, or it is the newest token's visit
abbrev pub Kind : (s : Settings) (w : World) → Good s w → World → Type 0
Kind s w g v = Quiet w v ⊎ Visit s w v g

by_node_there : (s : Settings) (w : World) (g : Good s w) (n : ℕ) (move : NodeState → RingOutcome) → ((r : NodeState) → item w.nodes n ≡ Some r → Kind s w g (after w n (move r).0 (move r).1)) → (o : Option NodeState) → item w.nodes n ≡ o → Kind s w g (moved w n o move)
by_node_there s w g n move there None is = inl (quiet_same w)
by_node_there s w g n move there (Some r) is = there r is

module _ (s : Settings) (w : World) (g : Good s w) (n : ℕ) (r : NodeState) (is : item w.nodes n ≡ Some r) where
  nothing : (f : Frame) → Contains [] f → Contains w.sent f
  nothing f c = absurd (contains_none f c)

  idle : Kind s w g (after w n r [])
  idle = inl (quiet_put w n r r [] is (grown_same r) nothing)

  enters : (e : Entry) → Kind s w g (after w n (after_entry r e) [])
  enters e = inl (quiet_put w n r (after_entry r e) [] is record { delivered = omega arith; held = λ place h. h; waiting = let l = length-append r.waiting (e ∷ []) in omega arith } nothing)

  by_room : (e : Entry) (b : Bool) → let m : RingOutcome = if b then (r, []) else (after_entry r e, []) in Kind s w g (after w n m.0 m.1)
  by_room e true = idle
  by_room e false = enters e

  by_held : (b : Bool) → let m : RingOutcome = if b then (after_delivery r, []) else (r, []) in Kind s w g (after w n m.0 m.1)
  by_held true = inl (quiet_put w n r (after_delivery r) [] is record { delivered = omega arith; held = λ place h. h; waiting = omega arith } nothing)
  by_held false = idle

  by_sent : (o : Option Token) → r.last_token ≡ o → Kind s w g (after w n (send_again r o).0 (send_again r o).1)
  by_sent None e = idle
  by_sent (Some t) e = inl (quiet_put w n r r (frame.Token t ∷ []) is (grown_same r) (λ f c. subst (Contains w.sent) (contains_one (frame.Token t) f c) ((g.inv.nodes n r is).resent t e)))

  by_data : (p : Packet) (o : Option Refusal) → Kind s w g (after w n (receive_data r p o).0 (receive_data r p o).1)
  by_data p (Some why) = idle
  by_data p None = inl (quiet_put w n r _ [] is record { delivered = omega arith; held = put_holds r.held p.place p.entry; waiting = omega arith } nothing)

  by_token : (t : Token) → Contains w.sent (frame.Token t) → (o : Option Refusal) → token_refusal s n r t ≡ o → Kind s w g (after w n (receive_token s n r t o).0 (receive_token s n r t o).1)
  by_token t sent (Some why) e = idle
  by_token t sent None e =
      let newest = accepted_is_newest s w g.list g.tokens g.newest t n r g.inv sent is e in
      let mine : node_of s g.newest.hop ≡ n = ap (λ (u : Token). node_of s u.hop) (sym newest.0) ∙ newest.1 in
      subst (λ u. Kind s w g (after w n (accept r u (visit_step s n r u)).0 (accept r u (visit_step s n r u)).1)) (sym newest.0) (inr (visits s w g n r is mine))

  by_frame : (o : Option Frame) → ((f : Frame) → o ≡ Some f → Contains w.sent f) → Kind s w g (after w n (receive s n o r).0 (receive s n o r).1)
  by_frame None sent = idle
  by_frame (Some (frame.Packet p)) sent = by_data p (data_refusal s r p)
  by_frame (Some (frame.Token t)) sent = by_token t (sent (frame.Token t) refl) (token_refusal s n r t) refl

pub step : (s : Settings) (w : World) (e : Event) (g : Good s w) → Kind s w g (happens s w e)
step s w (Enqueue e) g = by_node_there s w g e.node (enqueue e) (λ r is. by_room s w g e.node r is e (is_full r)) (item w.nodes e.node) refl
step s w (EnqueueEnd e) g = by_node_there s w g e.node (enqueue_end e) (λ r is. enters s w g e.node r is e) (item w.nodes e.node) refl
step s w (Arrive n k) g = by_node_there s w g n (receive s n (item w.sent k)) (λ r is. by_frame s w g n r is (item w.sent k) (λ f e. contains_item w.sent k f e)) (item w.nodes n) refl
step s w (Timer n) g = by_node_there s w g n (λ r. send_again r r.last_token) (λ r is. by_sent s w g n r is r.last_token refl) (item w.nodes n) refl
step s w (Deliver n) g = by_node_there s w g n deliver (λ r is. by_held s w g n r is (is_held r.held (suc r.delivered))) (item w.nodes n) refl

-- One visit, and what is quiet before and after it.
pub record Turned (s : Settings) (w v : World) : Type 0 where
  pub x : World
  pub y : World
  pub good : Good s x
  pub early : Quiet w x
  pub visit : Visit s x y good
  pub late : Quiet y v

-- more than one hop
record Further (s : Settings) (w v : World) (g : Good s w) : Type 0 where
  good : Good s v
  hops : suc (suc g.newest.hop) ≤ good.newest.hop

pub quiet_newest : (s : Settings) (w v : World) (g : Good s w) (h : Good s v) → Quiet w v → h.newest ≡ g.newest
quiet_newest s w v g h q = same_newest s w v g h (λ u c. quiet_old w v q (frame.Token u) c) (λ u c. quiet_sent w v q (frame.Token u) c)

walk : (s : Settings) (w : World) (events : List Event) (g : Good s w) → let v = run s w events in Good s v × (Quiet w v ⊎ (Turned s w v ⊎ Further s w v g))
walk s w [] g = (g, inl (quiet_same w))
walk s w (e ∷ events) g = ⊎_elim
    (λ quiet. from_quiet quiet (walk s (happens s w e) events (kept s w e g).good))
    (λ (visit : Visit s w (happens s w e) g). from_visit visit (walk s (happens s w e) events visit.good))
    (step s w e g)
  where
    v : World
    v = run s (happens s w e) events

    Goal : Type 0
    Goal = Good s v × (Quiet w v ⊎ (Turned s w v ⊎ Further s w v g))

    from_quiet : Quiet w (happens s w e) → (Good s v × (Quiet (happens s w e) v ⊎ (Turned s (happens s w e) v ⊎ Further s (happens s w e) v (kept s w e g).good))) → Goal
    from_quiet quiet rest = (
      rest.0,
      ⊎_elim
          (λ late. inl (quiet_then w (happens s w e) v quiet late))
          (λ more. inr (⊎_elim
          (λ (t : Turned s (happens s w e) v). inl record { x = t.x; y = t.y; good = t.good; early = quiet_then w (happens s w e) t.x quiet t.early; visit = t.visit; late = t.late })
          (λ (f : Further s (happens s w e) v (kept s w e g).good). let same = ap (λ (t : Token). t.hop) (quiet_newest s w (happens s w e) g (kept s w e g).good quiet) in let h = f.hops in inr record { good = f.good; hops = omega arith })
          more))
          rest.1,
    )

    from_visit : (visit : Visit s w (happens s w e) g) → (Good s v × (Quiet (happens s w e) v ⊎ (Turned s (happens s w e) v ⊎ Further s (happens s w e) v visit.good))) → Goal
    from_visit visit rest = (
      rest.0,
      inr (⊎_elim
          (λ late. inl record { x = w; y = happens s w e; good = g; early = quiet_same w; visit = visit; late = late })
          (λ more. ⊎_elim
          (λ (t : Turned s (happens s w e) v).
          let a = ap (λ (t : Token). t.hop) (quiet_newest s (happens s w e) t.x visit.good t.good t.early) in
          let b = ap (λ (t : Token). t.hop) (quiet_newest s t.y v t.visit.good rest.0 t.late) in
          let c = t.visit.hop in
          let d = visit.hop in
          inr record { good = rest.0; hops = omega arith })
          (λ (f : Further s (happens s w e) v visit.good). let d = visit.hop in let h = f.hops in inr record { good = f.good; hops = omega arith })
          more)
          rest.1),
    )

-- where the token makes one hop, one visit stands between what is quiet
pub one_visit : (s : Settings) (w : World) (events : List Event) (g : Good s w) (h : Good s (run s w events)) → h.newest.hop ≡ suc g.newest.hop → Turned s w (run s w events)
one_visit s w events g h hop = ⊎_elim
    (λ quiet. let same = ap (λ (t : Token). t.hop) (quiet_newest s w (run s w events) g h quiet) in absurd (omega arith))
    (λ more. ⊎_elim
    (λ turned. turned)
    (λ (f : Further s w (run s w events) g). let same = ap (λ (t : Token). t.hop) (same_newest s (run s w events) (run s w events) h f.good (λ u c. c) (λ u c. c)) in let l = f.hops in absurd (omega arith))
    more)
    (walk s w events g).1

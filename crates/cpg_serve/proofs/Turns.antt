-- A node turns by itself: runs of its own moves, and what they leave.
use Rattle.std.proofs.Common.{◌≡◌, ◌⊎◌, ◌<◌, ◌≤◌, ◌+◌, ◌*◌, ◌-◌, ℕ, zero, suc, Bool, true, false, is_some, option_map, List, [], ◌∷◌, ◌++◌, length, take, drop, Option, Some, None, Ok, Err, Result, refl, sym, ap, subst, ◌∙◌, inl, inr, ⊎_elim, arith, append_assoc}
use Rattle.std.specs.List.{AllByRecursion}
use Rattle.std.proofs.lemmas.Option.{none-some, same_Some}
use Rattle.cpg_cred.specs.declared.refusals.Refusal.{Refusal}
use Rattle.cpg_cred.specs.declared.refusals.Refusal.TheVariants as refusal
use Rattle.cpg_entry.specs.declared.entries.Entry.{Entry}
use Rattle.cpg_entry.specs.declared.frames.Token.{Token}
use Rattle.cpg_entry.specs.declared.frames.Frame.TheVariants as frames
use Rattle.cpg_ring.specs.declared.settings.TheConstants.{BURST}
use Rattle.cpg_ring.specs.Moves.{next_entry}
use Rattle.cpg_ring.specs.declared.settings.Settings.{Settings}
use Rattle.cpg_ring.specs.Rings.{RingNode, refusal_of, step_of, visited, with_state}
use Rattle.cpg_ring.specs.Worlds.{deliver}
use Rattle.cpg_node.specs.Nodes.{NodeValue, records_of, with_ring}
use Rattle.cpg_node.specs.Calls.{after_frame, frame_refusal, node_after_delivery, place_to_deliver}
use Rattle.cpg_node.specs.Answers.{IsTurnAnswer}
use Rattle.cpg_ask.specs.declared.greetings.Greeting.{Greeting}
use Rattle.cpg_serve.specs.Telling.{DeskValue}
use Rattle.cpg_serve.specs.Serving.{ServedValue, served_of}
use Rattle.cpg_serve.specs.Runs.{Did, Frames, Delivers, Tells, Run, Goes, IsFramed}
use Rattle.cpg_serve.specs.Settling.{IsLone, TurnedTo, StaysLone, InTurns, IsBrisk, IsOwnMove, MovesTo, NodeMovesTo, WhyMoving, WhyStuck, HasDelivered, IsAlike, IsTurn, HasTurned}
use Rattle.cpg_serve.proofs.Lone.{delivered_by, burst_of, burst_most, burst_full, short_take, split_at, left_at, lone_visit, lone_refused, lone_delivered, all_delivered}

-- ---- runs of own moves, one after another

run_then : (x y z : ServedValue) (dids more : List Did) → Run x dids y → Run y more z → Run x (dids ++ more) z
run_then x y z [] more h k = subst (λ (w : ServedValue). Run w more z) h k
run_then x y z (did ∷ dids) more h k = (h.0, h.1, run_then h.0 y z dids more h.2 k)

own_then : (dids more : List Did) → AllByRecursion IsOwnMove dids → AllByRecursion IsOwnMove more → AllByRecursion IsOwnMove (dids ++ more)
own_then [] more h k = k
own_then (did ∷ dids) more h k = (h.0, own_then dids more h.1 k)

pub moves_none : (x : ServedValue) → MovesTo x x
moves_none x = ([], tt, refl)

pub moves_then : (x y z : ServedValue) → MovesTo x y → MovesTo y z → MovesTo x z
moves_then x y z h k = (h.0 ++ k.0, own_then h.0 k.0 h.1 k.1, run_then x y z h.0 k.0 h.2 k.2)

pub moves_one : (x y : ServedValue) (did : Did) → IsOwnMove did → Goes x did y → MovesTo x y
moves_one x y did own goes = (did ∷ [], (own, tt), (y, goes, refl))

pub node_moves_none : (x : NodeValue) → NodeMovesTo x x
node_moves_none x greeting desks = moves_none (served_of greeting x desks)

pub node_moves_then : (x y z : NodeValue) → NodeMovesTo x y → NodeMovesTo y z → NodeMovesTo x z
node_moves_then x y z h k greeting desks = moves_then (served_of greeting x desks) (served_of greeting y desks) (served_of greeting z desks) (h greeting desks) (k greeting desks)

pub delivery_moves : (x : NodeValue) → NodeMovesTo x (node_after_delivery x)
delivery_moves x greeting desks = moves_one (served_of greeting x desks) (served_of greeting (node_after_delivery x) desks) Delivers tt refl

-- ---- a turn

pub turned_by : (x y : NodeValue) (o : Option Token) → IsTurnAnswer x o (Ok true) y → (t : Token) × (o ≡ Some t) × (refusal_of x.ring t ≡ None) × (y ≡ after_frame x (frames.Token t))
turned_by x y None h = let e = h.0 in absurd cc
turned_by x y (Some t) h = (t, refl, h.1, h.2)

-- the ring after a turn is the one after a visit
after_is : (x : NodeValue) (t : Token) → refusal_of x.ring t ≡ None → (after_frame x (frames.Token t)).ring ≡ visited x.ring t
after_is x t none = rw none refl

turn_framed : (greeting : Greeting) (desks : List DeskValue) (x y : NodeValue) (t : Token) → y ≡ after_frame x (frames.Token t) → records_of y ≡ records_of x → IsFramed (served_of greeting x desks) (served_of greeting y desks)
turn_framed greeting desks x y t is kept = record {
  records = kept;
  number = ap (λ (z : NodeValue). z.ring.node) is;
  clients = ap (λ (z : NodeValue). z.clients) is;
  desks = refl;
  greeting = refl;
}

pub turn_moves : (x y : NodeValue) (t : Token) → y ≡ after_frame x (frames.Token t) → records_of y ≡ records_of x → NodeMovesTo x y
turn_moves x y t is kept greeting desks = moves_one (served_of greeting x desks) (served_of greeting y desks) Frames tt (turn_framed greeting desks x y t is kept)

-- ---- the ring stays one of one node

pub stays_same : (x : RingNode) → StaysLone x x
stays_same x t placed h = record { token = t; more = placed; is = h; same = refl }

pub stays_then : (x y z : RingNode) → StaysLone x y → StaysLone y z → StaysLone x z
stays_then x y z f g t placed h =
    let a = f t placed h in
    let b = g a.token a.more a.is in
    record { token = b.token; more = b.more; is = b.is; same = b.same ∙ a.same }

delivery_stays : (x : NodeValue) → StaysLone x.ring (node_after_delivery x).ring
delivery_stays x t placed h = record { token = t; more = placed; is = lone_delivered x.ring t placed h; same = ap (λ w. placed ++ w) (waits_on (is_some (next_entry x.ring.state))) }
  where
    waits_on : (b : Bool) → (delivered_by b x.ring.state).0.waiting ≡ x.ring.state.waiting
    waits_on true = refl
    waits_on false = refl

visit_stays : (x : RingNode) (v : Token) → x.state.last_token ≡ Some v → StaysLone x (visited x v)
visit_stays x v last t placed h =
    let same : t ≡ v = same_Some t v (sym h.last ∙ last) in
    let is : IsLone x v placed = subst (λ (u : Token). IsLone x u placed) same h in
    record {
      token = (step_of x v).token;
      more = placed ++ take (burst_of x v) x.state.waiting;
      is = lone_visit x v placed is;
      same = append_assoc placed (take (burst_of x v) x.state.waiting) (drop (burst_of x v) x.state.waiting) ∙ ap (λ l. placed ++ l) (split_at (burst_of x v) x.state.waiting);
    }

pub turn_stays : (x y : RingNode) → IsTurn x y → StaysLone x y
turn_stays x y h = subst (StaysLone x) (sym h.2) (visit_stays x h.0 h.1)

-- ---- the same node

pub alike_same : (x : NodeValue) → IsAlike x x
alike_same x = record { settings = refl; number = refl; list = refl }

pub alike_then : (x y z : NodeValue) → IsAlike x y → IsAlike y z → IsAlike x z
alike_then x y z h k = record { settings = k.settings ∙ h.settings; number = k.number ∙ h.number; list = k.list ∙ h.list }

-- ---- one delivery more

pub delivered_none : (x : NodeValue) → HasDelivered x x
delivered_none x = record { moves = node_moves_none x; lone = stays_same x.ring; clients = refl; waiting = refl; last = refl; alike = alike_same x }

pub delivered_more : (x y : NodeValue) → HasDelivered x y → HasDelivered x (node_after_delivery y)
delivered_more x y h = record {
  moves = node_moves_then x y (node_after_delivery y) h.moves (delivery_moves y);
  lone = stays_then x.ring y.ring (node_after_delivery y).ring h.lone (delivery_stays y);
  clients = h.clients;
  waiting = same_waiting (is_some (next_entry y.ring.state)) ∙ h.waiting;
  last = same_last (is_some (next_entry y.ring.state)) ∙ h.last;
  alike = record { settings = h.alike.settings; number = h.alike.number; list = h.alike.list };
}
  where
    same_waiting : (b : Bool) → (delivered_by b y.ring.state).0.waiting ≡ y.ring.state.waiting
    same_waiting true = refl
    same_waiting false = refl

    same_last : (b : Bool) → (delivered_by b y.ring.state).0.last_token ≡ y.ring.state.last_token
    same_last true = refl
    same_last false = refl

-- ---- how many turns

pub brisk_none : (x : RingNode) → IsBrisk x x
brisk_none x = record {
  turns = λ t u placed more h k. let e : t ≡ u = same_Some t u (sym h.last ∙ k.last) in let hops : t.hop ≡ u.hop = ap (λ (v : Token). v.hop) e in omega (arith, hops);
  full = λ t u placed more h k some places. let e : t ≡ u = same_Some t u (sym h.last ∙ k.last) in let hops : t.hop ≡ u.hop = ap (λ (v : Token). v.hop) e in omega (arith, hops);
}

-- a delivery is no turn
pub brisk_same : (x y z : RingNode) → StaysLone x y → IsBrisk x y → z.state.waiting ≡ y.state.waiting → z.state.last_token ≡ y.state.last_token → z.settings ≡ y.settings → IsBrisk x z
brisk_same x y z stays h waiting last settings = record {
  turns = λ t u placed more a b.
      let s = stays t placed a in
      let e : s.token ≡ u = same_Some s.token u (sym s.is.last ∙ sym last ∙ b.last) in
      let hops : s.token.hop ≡ u.hop = ap (λ (v : Token). v.hop) e in
      let count : length z.state.waiting ≡ length y.state.waiting = ap (λ (l : List Entry). length l) waiting in
      let k = h.turns t s.token placed s.more a s.is in
      omega (arith, hops, count, k);
  full = λ t u placed more a b some places.
      let s = stays t placed a in
      let e : s.token ≡ u = same_Some s.token u (sym s.is.last ∙ sym last ∙ b.last) in
      let hops : s.token.hop ≡ u.hop = ap (λ (v : Token). v.hop) e in
      let seqs : s.token.seq ≡ u.seq = ap (λ (v : Token). v.seq) e in
      let count : length z.state.waiting ≡ length y.state.waiting = ap (λ (l : List Entry). length l) waiting in
      let same : z.settings.places ≡ y.settings.places = ap (λ (w : Settings). w.places) settings in
      let k = h.full t s.token placed s.more a s.is (omega (arith, some, count)) (omega (arith, places, seqs, same)) in
      omega (arith, hops, count, k);
}

-- a turn that places something
turn_brisk : (x y : RingNode) (v : Token) → y.state.last_token ≡ Some v → StaysLone x y → IsBrisk x y → next_entry y.state ≡ None → 0 < length y.state.waiting → length (visited y v).state.waiting < length y.state.waiting → IsBrisk x (visited y v)
turn_brisk x y v last stays h none some less =
    let b : ℕ = burst_of y v in
    let most = burst_most y v in
    let left : length (drop b y.state.waiting) + b ≡ length y.state.waiting = left_at b y.state.waiting most.0 in
    let count : length (take b y.state.waiting) ≡ b = short_take y.state.waiting b most.0 in
    record {
      turns = λ t u placed more a c.
          let s = stays t placed a in
          let e : s.token ≡ v = same_Some s.token v (sym s.is.last ∙ last) in
          let is : IsLone y v s.more = subst (λ (w : Token). IsLone y w s.more) e s.is in
          let new : (step_of y v).token ≡ u = same_Some (step_of y v).token u c.last in
          let hops : suc v.hop ≡ u.hop = ap (λ (w : Token). w.hop) new in
          let k = h.full t v placed s.more a is some (omega (arith, left, less, most.1)) in
          omega (arith, hops, left, less, k);
      full = λ t u placed more a c waits places.
          let s = stays t placed a in
          let e : s.token ≡ v = same_Some s.token v (sym s.is.last ∙ last) in
          let is : IsLone y v s.more = subst (λ (w : Token). IsLone y w s.more) e s.is in
          let new : (step_of y v).token ≡ u = same_Some (step_of y v).token u c.last in
          let hops : suc v.hop ≡ u.hop = ap (λ (w : Token). w.hop) new in
          let seqs : v.seq + length (take b y.state.waiting) ≡ u.seq = ap (λ (w : Token). w.seq) new in
          let k = h.full t v placed s.more a is some (omega (arith, left, less, most.1)) in
          let all : b ≡ BURST = burst_full y v (all_delivered y v s.more is none) (omega (arith, left, waits)) (omega (arith, seqs, count, places)) in
          omega (arith, hops, left, k, all);
    }

pub brisk_turn : (x y z : RingNode) → IsTurn y z → StaysLone x y → IsBrisk x y → next_entry y.state ≡ None → 0 < length y.state.waiting → length z.state.waiting < length y.state.waiting → IsBrisk x z
brisk_turn x y z h stays brisk none some less =
    subst (IsBrisk x) (sym h.2) (turn_brisk x y h.0 h.1 stays brisk none some (subst (λ (w : RingNode). length w.state.waiting < length y.state.waiting) h.2 less))

-- ---- why it does not go on

-- a turn that places nothing: the places are used up
turn_ends : (y : RingNode) (v : Token) (placed : List Entry) → IsLone y v placed → next_entry y.state ≡ None → 0 < length y.state.waiting → length y.state.waiting ≤ length (visited y v).state.waiting → WhyStuck y (visited y v) refusal.RingEnd
turn_ends y v placed h none some stuck =
    let b : ℕ = burst_of y v in
    let most = burst_most y v in
    let left : length (drop b y.state.waiting) + b ≡ length y.state.waiting = left_at b y.state.waiting most.0 in
    let all : y.state.delivered ≡ v.seq = all_delivered y v placed h none in
    let nothing : b ≡ 0 = omega (arith, left, stuck) in
    inr (refl, omega (arith, some, stuck), ((step_of y v).token, refl, inl (no_places y v all some nothing)))
  where
    no_places : (y : RingNode) (v : Token) → y.state.delivered ≡ v.seq → 0 < length y.state.waiting → burst_of y v ≡ 0 → y.settings.places ≤ v.seq + length (take (burst_of y v) y.state.waiting)
    no_places y v all some nothing = omega (arith, all, some, nothing)

pub stuck_is : (y z : RingNode) (v : Token) (placed : List Entry) → IsLone y v placed → IsTurn y z → next_entry y.state ≡ None → 0 < length y.state.waiting → length y.state.waiting ≤ length z.state.waiting → WhyStuck y z refusal.RingEnd
stuck_is y z v placed h turn none some stuck =
    let e : v ≡ turn.0 = same_Some v turn.0 (sym h.last ∙ turn.1) in
    let is : IsLone y turn.0 placed = subst (λ (w : Token). IsLone y w placed) e h in
    subst (λ (w : RingNode). WhyStuck y w refusal.RingEnd) (sym turn.2)
    (turn_ends y turn.0 placed is none some (subst (λ (w : RingNode). length y.state.waiting ≤ length w.state.waiting) turn.2 stuck))

-- the turn is refused
pub refused_is : (x y : NodeValue) (o : Option Token) (why : Refusal) (t : Token) (placed : List Entry) → x.ring.state.last_token ≡ o → IsTurnAnswer x o (Err why) y → IsLone x.ring t placed → 0 < length x.ring.state.waiting → WhyStuck x.ring y.ring why
refused_is x y None why t placed last h is some = absurd (none-some t (sym last ∙ is.last))
refused_is x y (Some v) why t placed last h is some =
    let e : t ≡ v = same_Some t v (sym is.last ∙ last) in
    subst (λ (z : NodeValue). WhyStuck x.ring z.ring why) (sym h.1) (⊎_elim
    (λ (m : why ≡ refusal.Memory). inl m)
    (λ (r : frame_refusal x (frames.Token v) ≡ Some why).
    let k = lone_refused x.ring t placed why is (ap (refusal_of x.ring) e ∙ r) in inr (k.0, some, (t, is.last, inr (k.1, refl))))
    h.0)

-- a turn after brisk ones
pub moving_by : (x y z : RingNode) (why : Refusal) → IsBrisk x y → WhyStuck y z why → WhyMoving x z why
moving_by x y z why brisk h = ⊎_elim
    (λ (m : why ≡ refusal.Memory). inl m)
    (λ (k : (why ≡ refusal.RingEnd) × (0 < length z.state.waiting) × ((t : Token) × (z.state.last_token ≡ Some t) × ((z.settings.places ≤ t.seq) ⊎ ((z.settings.hops ≤ t.hop) × (z ≡ y))))).
    inr (
      k.0,
      k.1,
      (
        k.2.0,
        k.2.1,
        ⊎_elim
            (λ (p : z.settings.places ≤ k.2.0.seq). inl p)
            (λ (q : (z.settings.hops ≤ k.2.0.hop) × (z ≡ y)). inr (q.0, subst (IsBrisk x) (sym q.1) brisk))
            k.2.2,
      ),
    ))
    h

-- ---- one turn of the node

pub no_token : (x y : NodeValue) (o : Option Token) → IsTurnAnswer x o (Ok false) y → (o ≡ None) × (y ≡ x)
no_token x y None h = (refl, h.1)
no_token x y (Some t) h = let e = h.0 in absurd cc

pub has_turned : (x y : NodeValue) (passed : Bool) → passed ≡ true → IsTurnAnswer x x.ring.state.last_token (Ok passed) y → records_of y ≡ records_of x → HasTurned x y × IsTurn x.ring y.ring
has_turned x y passed did h kept =
    let is : IsTurnAnswer x x.ring.state.last_token (Ok true) y = subst (λ (b : Bool). IsTurnAnswer x x.ring.state.last_token (Ok b) y) did h in
    let found = turned_by x y x.ring.state.last_token is in
    let turn : IsTurn x.ring y.ring = (found.0, found.1, ap (λ (z : NodeValue). z.ring) found.3 ∙ after_is x found.0 found.2) in
    (record { moves = turn_moves x y found.0 found.3 kept; lone = turn_stays x.ring y.ring turn; alike = alike_turned found.0 found.3; clients = ap (λ (z : NodeValue). z.clients) found.3 }, turn)
  where
    alike_turned : (t : Token) → y ≡ after_frame x (frames.Token t) → IsAlike x y
    alike_turned t is = record { settings = ap (λ (z : NodeValue). z.ring.settings) is; number = ap (λ (z : NodeValue). z.ring.node) is; list = ap (λ (z : NodeValue). z.list) is }

-- ---- turns and deliveries, one after another

pub turned_then : (x y z : NodeValue) → HasTurned x y → HasTurned y z → HasTurned x z
turned_then x y z h k = record { moves = node_moves_then x y z h.moves k.moves; lone = stays_then x.ring y.ring z.ring h.lone k.lone; alike = alike_then x y z h.alike k.alike; clients = k.clients ∙ h.clients }

pub turned_delivered : (x y z : NodeValue) → HasTurned x y → HasDelivered y z → HasTurned x z
turned_delivered x y z h k = record { moves = node_moves_then x y z h.moves k.moves; lone = stays_then x.ring y.ring z.ring h.lone k.lone; alike = alike_then x y z h.alike k.alike; clients = k.clients ∙ h.clients }

none_by : (d : ℕ) (o : Option Entry) → option_map (λ (e : Entry). suc d) o ≡ None → o ≡ None
none_by d None e = refl
none_by d (Some entry) e = absurd (none-some (suc d) (sym e))

-- no entry is delivered next
pub none_next : (x : NodeValue) → place_to_deliver x ≡ None → next_entry x.ring.state ≡ None
none_next x h = none_by x.ring.state.delivered (next_entry x.ring.state) h

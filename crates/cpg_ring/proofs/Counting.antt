-- Every entry is counted: as many more are agreed or wait as are admitted.
use Rattle.std.proofs.Common.{sum_by, ◌≡◌, ◌≢◌, ℕ, zero, suc, ◌+◌, ◌-◌, ◌/◌, ◌<◌, ◌≤◌, Bool, true, false, cond, List, [], ◌∷◌, ◌++◌, length, take, None, refl, sym, ap, ◌∙◌, ⊎_elim, arith, length-append, if◌then◌else◌, ◌==◌, eq-eqb, ne_eqb, take_all}
use Rattle.std.proofs.Math.Nat.{mul-le-mul_left, mul_comm}
use Rattle.std.proofs.Math.Seq.{take-suc}
use Rattle.std.proofs.lemmas.Bool.{cases_eq, cases_lt}
use Rattle.std.proofs.lemmas.List.Sums.{sum_by_push}
use Rattle.std.proofs.lemmas.Option.{get_or_from_slice_get}
use Rattle.cpg_ring.specs.States.{Entry, Settings, NodeState}
use Rattle.cpg_ring.specs.Visits.{up_to}
use Rattle.cpg_ring.specs.Worlds.{World, Event, Enqueue, EnqueueEnd, Arrive, Timer, Deliver, item, happens, run, start, agreed, Reached}
use Rattle.cpg_ring.specs.Claims.{by_node, waiting_at, ring_entries, if_room, if_there, admits, admitted}
use Rattle.cpg_ring.specs.Progress.{wanted_places, all_waiting, all_admitted, most_agreed}
use Rattle.cpg_ring.specs.Fairness.{Fair, Bounded, events_of, turns_for, GrowsAsAdmitted, BoundedAtStart}
use Rattle.cpg_ring.proofs.Lists.{item_there, item_past}
use Rattle.cpg_ring.proofs.Agreed.{agreed_is}
use Rattle.cpg_ring.proofs.Steps.{Good, kept, all_kept, reached, all_turns, from_new}
use Rattle.cpg_ring.proofs.Hearing.{run_append}

-- a sum over nodes 1 to so many
abbrev over : (ℕ → ℕ) → ℕ → ℕ
over f k = sum_by f (up_to k)

over_suc : (f : ℕ → ℕ) (k : ℕ) → over f (suc k) ≡ over f k + f (suc k)
over_suc f k = sum_by_push f (up_to k) (suc k)

over_same : (f g : ℕ → ℕ) (k : ℕ) → ((n : ℕ) → 1 ≤ n → n ≤ k → f n ≡ g n) → over f k ≡ over g k
over_same f g zero h = refl
over_same f g (suc k) h =
    let a = over_suc f k in
    let b = over_suc g k in
    let c = over_same f g k (λ n low high. h n low (omega arith)) in
    let d = h (suc k) (omega arith) (omega arith) in
    omega arith

over_sum : (f g : ℕ → ℕ) (k : ℕ) → over (λ n. f n + g n) k ≡ over f k + over g k
over_sum f g zero = refl
over_sum f g (suc k) =
    let a = over_suc f k in
    let b = over_suc g k in
    let c = over_suc (λ n. f n + g n) k in
    let d = over_sum f g k in
    omega arith

over_none : (k : ℕ) → over (λ n. 0) k ≡ 0
over_none zero = refl
over_none (suc k) = let a = over_suc (λ n. 0) k in let b = over_none k in omega arith

-- one where the number is m
abbrev one_at : ℕ → ℕ → ℕ
one_at m n = if m == n then 1 else 0

over_before : (m k : ℕ) → k < m → over (one_at m) k ≡ 0
over_before m zero h = refl
over_before m (suc k) h =
    let a = over_suc (one_at m) k in
    let b = over_before m k (omega arith) in
    let c : one_at m (suc k) ≡ 0 = ap (λ b. if b then 1 else 0) (ne_eqb m (suc k) (λ e. omega arith)) in
    omega arith

over_one : (m k : ℕ) → 1 ≤ m → m ≤ k → over (one_at m) k ≡ 1
over_one m zero low high = absurd (omega arith)
over_one m (suc k) low high =
    let a = over_suc (one_at m) k in
    ⊎_elim
    (λ (last : m ≡ suc k).
    let b = over_before m k (omega arith) in
    let c : one_at m (suc k) ≡ 1 = ap (λ b. if b then 1 else 0) (eq-eqb m (suc k) last) in
    omega arith)
    (λ (apart : m ≢ suc k).
    let b = over_one m k low (omega arith) in
    let c : one_at m (suc k) ≡ 0 = ap (λ b. if b then 1 else 0) (ne_eqb m (suc k) apart) in
    omega arith)
    (cases_eq m (suc k))

-- a list's entries, node by node
one_more : (e : Entry) (list : List Entry) (n : ℕ) → length (by_node n (e ∷ list)) ≡ one_at e.node n + length (by_node n list)
one_more e list n = by_test (e.node == n)
  where
    by_test : (b : Bool) → length (cond b (e ∷ by_node n list) (by_node n list)) ≡ (if b then 1 else 0) + length (by_node n list)
    by_test true = omega arith
    by_test false = omega arith

by_nodes : (k : ℕ) (list : List Entry) → ((n : ℕ) → ((1 ≤ n) × (n ≤ k) → ⊥) → length (by_node n list) ≡ 0) → over (λ n. length (by_node n list)) k ≡ length list
by_nodes k [] none = over_none k
by_nodes k (e ∷ list) none =
    let more = over_same (λ n. length (by_node n (e ∷ list))) (λ n. one_at e.node n + length (by_node n list)) k (λ n low high. one_more e list n) in
    let sum = over_sum (one_at e.node) (λ n. length (by_node n list)) k in
    let rest = by_nodes k list (λ n out. let a = none n out in let b = one_more e list n in omega arith) in
    let here : one_at e.node e.node ≡ 1 = ap (λ b. if b then 1 else 0) (eq-eqb e.node e.node refl) in
    let first = one_more e list e.node in
    let wrong : ((1 ≤ e.node) × (e.node ≤ k) → ⊥) → ⊥ = λ out. let a = none e.node out in absurd (omega arith) in
    ⊎_elim
    (λ (low : 1 ≤ e.node). ⊎_elim
    (λ (far : k < e.node). absurd (wrong (λ within. let l = within.1 in omega arith)))
    (λ (high : e.node ≤ k). let one = over_one e.node k low high in omega arith)
    (cases_lt k e.node))
    (λ (zero : e.node ≤ 0). absurd (wrong (λ within. let l = within.0 in omega arith)))
    (cases_lt 0 e.node)

-- what waits, node by node
waiting_up_to : (nodes : List NodeState) (k : ℕ) → k ≤ length nodes → over (λ n. length (waiting_at (item nodes n))) k ≡ sum_by (λ (r : NodeState). length r.waiting) (take k nodes)
waiting_up_to nodes zero l = refl
waiting_up_to nodes (suc k) l =
    let r = item_there nodes (suc k) (omega arith) l in
    let a = over_suc (λ n. length (waiting_at (item nodes n))) k in
    let b = waiting_up_to nodes k (omega arith) in
    let c = ap (λ o. length (waiting_at o)) r.1 in
    let d : take (suc k) nodes ≡ take k nodes ++ r.0 ∷ [] = take-suc nodes k r.0 l ∙ ap (λ x. take k nodes ++ x ∷ []) (get_or_from_slice_get nodes k r.0 r.0 r.1) in
    let e = ap (sum_by (λ (x : NodeState). length x.waiting)) d in
    let f = sum_by_push (λ (x : NodeState). length x.waiting) (take k nodes) r.0 in
    omega arith

all_wait : (w : World) → over (λ n. length (waiting_at (item w.nodes n))) (length w.nodes) ≡ all_waiting w
all_wait w = waiting_up_to w.nodes (length w.nodes) (omega arith) ∙ ap (sum_by (λ (r : NodeState). length r.waiting)) (take_all (length w.nodes) w.nodes (omega arith))

-- nothing is admitted at a node that is not there
none_there : (w : World) (n : ℕ) (e : Event) → item w.nodes n ≡ None → admits w n e ≡ []
none_there w n (Enqueue e) none = by_test (e.node == n)
  where
    by_test : (b : Bool) → (if b then if_room (item w.nodes n) e else []) ≡ []
    by_test true = ap (λ o. if_room o e) none
    by_test false = refl
none_there w n (EnqueueEnd e) none = by_test (e.node == n)
  where
    by_test : (b : Bool) → (if b then if_there (item w.nodes n) e else []) ≡ []
    by_test true = ap (λ o. if_there o e) none
    by_test false = refl
none_there w n (Arrive m k) none = refl
none_there w n (Timer m) none = refl
none_there w n (Deliver m) none = refl

not_there : (s : Settings) (w : World) → Good s w → (n : ℕ) → ((1 ≤ n) × (n ≤ s.nodes) → ⊥) → item w.nodes n ≡ None
not_there s w g zero out = refl
not_there s w g (suc i) out =
    let count = g.tours.nodes in
    item_past w.nodes (suc i) (⊎_elim
    (λ (far : s.nodes < suc i). omega arith)
    (λ (near : suc i ≤ s.nodes). absurd (out (omega arith, near)))
    (cases_lt s.nodes (suc i)))

none_admitted : (s : Settings) (w : World) (events : List Event) → Good s w → (n : ℕ) → ((1 ≤ n) × (n ≤ s.nodes) → ⊥) → admitted s w n events ≡ []
none_admitted s w [] g n out = refl
none_admitted s w (e ∷ events) g n out =
    ap (λ l. l ++ admitted s (happens s w e) n events) (none_there w n e (not_there s w g n out))
    ∙ none_admitted s (happens s w e) events (kept s w e g).good n out

-- what is agreed or waits, node by node
whole : (s : Settings) (w : World) → Reached s w → wanted_places w ≡ over (λ n. length (ring_entries w n)) s.nodes
whole s w led =
    let g = reached s w led in
    let count = g.tours.nodes in
    let none : (n : ℕ) → ((1 ≤ n) × (n ≤ s.nodes) → ⊥) → length (by_node n (agreed w.sent)) ≡ 0 = λ n out.
    let all : ring_entries w n ≡ [] = ap (λ v. ring_entries v n) (sym led.1) ∙ (from_new s n led.0 ∙ none_admitted s (start s) led.0 (reached s (start s) ([], refl)) n out) in
    let long = ap (λ (l : List Entry). length l) all in
    let parts = length-append (by_node n (agreed w.sent)) (waiting_at (item w.nodes n)) in
    omega arith in
    let placed = by_nodes s.nodes (agreed w.sent) none in
    let waiting : over (λ n. length (waiting_at (item w.nodes n))) s.nodes ≡ all_waiting w = ap (over (λ n. length (waiting_at (item w.nodes n)))) (sym count) ∙ all_wait w in
    let parts = over_same (λ n. length (ring_entries w n)) (λ n. length (by_node n (agreed w.sent)) + length (waiting_at (item w.nodes n))) s.nodes (λ n low high. length-append (by_node n (agreed w.sent)) (waiting_at (item w.nodes n))) in
    let sum = over_sum (λ n. length (by_node n (agreed w.sent))) (λ n. length (waiting_at (item w.nodes n))) s.nodes in
    omega arith

reached_on : (s : Settings) (w : World) (events : List Event) → Reached s w → Reached s (run s w events)
reached_on s w events led = (led.0 ++ events, run_append s (start s) led.0 events ∙ ap (λ v. run s v events) led.1)

wanted_grows : (s : Settings) (w : World) (events : List Event) → Reached s w → wanted_places (run s w events) ≡ wanted_places w + all_admitted s w events
wanted_grows s w events led =
    let v = run s w events in
    let first = whole s w led in
    let last = whole s v (reached_on s w events led) in
    let each = over_same (λ n. length (ring_entries v n)) (λ n. length (ring_entries w n) + length (admitted s w n events)) s.nodes (λ n low high. ap (λ (l : List Entry). length l) (all_turns s w events (reached s w led) n) ∙ length-append (ring_entries w n) (admitted s w n events)) in
    let sum = over_sum (λ n. length (ring_entries w n)) (λ n. length (admitted s w n events)) s.nodes in
    omega arith

-- no more is agreed than the ring has places
within_places : (s : Settings) (w : World) → Good s w → length (agreed w.sent) ≤ s.places
within_places s w g =
    let same = ap (λ (l : List Entry). length l) (agreed_is s w g.list g.tokens g.newest g.inv) in
    let count = g.inv.count in
    let room = g.inv.room in
    omega arith

pub grows : (s : Settings) (w : World) (events : List Event) → Reached s w → GrowsAsAdmitted s w events
grows s w events led =
    let wanted = wanted_grows s w events led in
    let room = within_places s (run s w events) (all_kept s w events (reached s w led)) in
    record { wanted = wanted; agreed = omega arith }

pub leads_to : (s : Settings) (turns : ℕ) (w v : World) (led : Fair s turns w v) → run s w (events_of s turns w v led) ≡ v
leads_to s zero w v is = is
leads_to s (suc more) w v (x, turn, rest) =
    run_append s w turn.events (events_of s more x v rest)
    ∙ (ap (λ u. run s u (events_of s more x v rest)) turn.leads ∙ leads_to s more x v rest)

-- more places take no fewer turns
more_turns : (s : Settings) (a b : ℕ) → a ≤ b → turns_for s a ≤ turns_for s b
more_turns s a b l =
    let blocks : (a + 31) / 32 ≤ (b + 31) / 32 = omega arith in
    let product = mul-le-mul_left (suc s.nodes) blocks in
    let first = mul_comm ((a + 31) / 32) (suc s.nodes) in
    let last = mul_comm ((b + 31) / 32) (suc s.nodes) in
    omega arith

pub bounded_at_start : (s : Settings) (w v : World) (turns more : ℕ) (led : Fair s turns w v) → Reached s w → Bounded s w v turns → all_admitted s w (events_of s turns w v led) ≤ more → BoundedAtStart s w v turns more
bounded_at_start s w v turns more led reach bound few =
    let end : length (agreed (run s w (events_of s turns w v led)).sent) ≡ length (agreed v.sent) = ap (λ (u : World). length (agreed u.sent)) (leads_to s turns w v led) in
    let most = (grows s w (events_of s turns w v led) reach).agreed in
    let within : length (agreed v.sent) ≤ most_agreed s w more = omega arith in
    record {
      agreed = within;
      waits = λ n before done r is less low l.
          let fewer = more_turns s (length (agreed v.sent) - done) (most_agreed s w more - done) (omega arith) in
          bound.waits n before done r is less low (omega arith);
    }

-- One visit of the token, where frames sent before may be lost.
use Rattle.std.proofs.Common.{◌≡◌, ◌≢◌, ℕ, zero, suc, ◌+◌, ◌*◌, ◌/◌, ◌%◌, ◌-◌, ◌<◌, ◌≤◌, min, true, not, ◌&&◌, ◌||◌, cond, List, [], ◌∷◌, ◌++◌, length, map, take, drop, Option, Some, None, Contains, All, refl, sym, ap, ◌∙◌, subst, ⊎_elim, arith, if◌then◌else◌, ◌==◌, nat_le, is_some, option_map, length-take, length-drop, slice_get, le-leb, div-add-mod'}
use Rattle.std.specs.List.{filter, list_any, cons_option}
use Rattle.std.specs.FinMap.{get}
use Rattle.std.proofs.Math.Nat.{mod-lt, suc-mul}
use Rattle.std.proofs.lemmas.Nat.{mod-mul-add}
use Rattle.std.proofs.lemmas.Bool.{cases_lt, lt-leb}
use Rattle.std.proofs.lemmas.List.Elements.{All-nil, All-append, All-from_recursion, All-drop, filter-append, Contains-append_left, Contains-append_cases}
use Rattle.cpg_entry.specs.declared.frames.Frame.TheVariants as frame
use Rattle.cpg_cred.specs.declared.refusals.Refusal.TheVariants.{RingEnd}
use Rattle.cpg_ring.specs.States.{Entry, Packet, Token, Frame, Settings, HeldPlaces, Holds, NodeState, is_held}
use Rattle.cpg_ring.specs.Visits.{VisitStep, node_of, token_refusal, packet_at, burst_size, served, placed, visit_step, after_visit, up_to, is_wanted, next_requests}
use Rattle.cpg_ring.specs.Laws.{AllHeld}
use Rattle.cpg_ring.specs.Worlds.{World, Event, Arrive, Timer, RingOutcome, item, accept, receive, receive_token, send_again, moved, happens, run, agreed}
use Rattle.cpg_ring.specs.Progress.{wanted_places, IsAfterLoss}
use Rattle.cpg_ring.proofs.Asking.{contains_cons, contains_head}
use Rattle.cpg_ring.proofs.Lists.{with_item_cases, get_end, item_there, item_within, item_with_same, item_with_other, contains_none, contains_one}
use Rattle.cpg_ring.proofs.Invariant.{Inv, after}
use Rattle.cpg_ring.proofs.Refusals.{newest_goes, newest_or_lower}
use Rattle.cpg_ring.proofs.Visits.{visited, contains_map}
use Rattle.cpg_ring.proofs.Agreed.{agreed_is}
use Rattle.cpg_ring.proofs.Amounts.{placed_keeps, is_some_of}
use Rattle.cpg_ring.proofs.Bursts.{burst_keeps}
use Rattle.cpg_ring.proofs.Tours.{tours_visit}
use Rattle.cpg_ring.proofs.Steps.{Good, kept, all_kept}
use Rattle.cpg_ring.proofs.Hearing.{run_append, waits_with, Heard, Sent, found}
use Rattle.cpg_ring.proofs.Stores.{Stores, visit_stores, most_hop, kept_stores, all_stores}

-- how many entries are agreed
abbrev pub total : World → ℕ
total w = length (agreed w.sent)

pub total_is : (s : Settings) (w : World) (g : Good s w) → total w ≡ g.newest.seq
total_is s w g = ap (λ l. length l) (agreed_is s w g.list g.tokens g.newest g.inv) ∙ g.inv.count

-- the newest token was sent after the first so many frames
pub record Alive (s : Settings) (lost : ℕ) (w : World) : Type 0 where
  pub good : Good s w
  pub stores : Stores w
  pub k : ℕ
  pub later : lost < k
  pub is : item w.sent k ≡ Some (frame.Token good.newest)

abbrev pub hop_of : {s : Settings} {lost : ℕ} {w : World} → Alive s lost w → ℕ
hop_of a = a.good.newest.hop

pub newest_sent : (s : Settings) (w : World) (g : Good s w) → Contains w.sent (frame.Token g.newest)
newest_sent s w g = (g.inv.tokens g.newest.hop g.newest g.inv.newest).1

-- where the same tokens were sent the newest is the same
pub same_newest : (s : Settings) (w v : World) (g : Good s w) (h : Good s v) → ((u : Token) → Contains w.sent (frame.Token u) → Contains v.sent (frame.Token u)) → ((u : Token) → Contains v.sent (frame.Token u) → Contains w.sent (frame.Token u)) → h.newest ≡ g.newest
same_newest s w v g h to from =
    let l : g.newest.hop ≤ h.newest.hop = most_hop s v h g.newest (to g.newest (newest_sent s w g)) in
    ⊎_elim
    (λ (same : h.newest ≡ g.newest). same)
    (λ (lower : h.newest.hop < g.newest.hop). absurd (omega arith))
    (newest_or_lower s w g.list g.tokens g.newest h.newest g.inv (from h.newest (newest_sent s v h)))

pub alive_heard : (s : Settings) (lost : ℕ) (w : World) (events : List Event) (a : Alive s lost w) → Heard w (run s w events) → (b : Alive s lost (run s w events)) × (hop_of b ≡ hop_of a)
alive_heard s lost w events a h =
    let g = all_kept s w events a.good in
    let same : g.newest ≡ a.good.newest = same_newest s w (run s w events) a.good g
    (λ u c. subst (λ f. Contains f (frame.Token u)) (sym h.sent) c)
    (λ u c. subst (λ f. Contains f (frame.Token u)) h.sent c) in (
      record {
        good = g;
        stores = all_stores s w events a.good a.stores;
        k = a.k;
        later = a.later;
        is = ap (λ f. item f a.k) h.sent ∙ (a.is ∙ ap (λ (t : Token). Some (frame.Token t)) (sym same));
      },
      ap (λ (t : Token). t.hop) same,
    )

-- Events that bring none of the first so many frames, and what they lead to.
pub record Reaches (s : Settings) (lost : ℕ) (w : World) (Goal : World → Type 0) : Type 0 where
  pub events : List Event
  pub later : All (IsAfterLoss lost) events
  pub goal : Goal (run s w events)

pub reaches_now : (s : Settings) (lost : ℕ) (w : World) (Goal : World → Type 0) → Goal w → Reaches s lost w Goal
reaches_now s lost w Goal h = record { events = []; later = All-nil (IsAfterLoss lost); goal = h }

pub reaches_then : (s : Settings) (lost : ℕ) (w : World) (Middle Goal : World → Type 0) → Reaches s lost w Middle → ((v : World) → Middle v → Reaches s lost v Goal) → Reaches s lost w Goal
reaches_then s lost w Middle Goal a more =
    let b = more (run s w a.events) a.goal in
    record {
      events = a.events ++ b.events;
      later = All-append (IsAfterLoss lost) a.events b.events a.later b.later;
      goal = subst Goal (sym (run_append s w a.events b.events)) b.goal;
    }

pub reaches_map : (s : Settings) (lost : ℕ) (w : World) (Goal Other : World → Type 0) → ((v : World) → Goal v → Other v) → Reaches s lost w Goal → Reaches s lost w Other
reaches_map s lost w Goal Other f a = record { events = a.events; later = a.later; goal = f (run s w a.events) a.goal }

pub after_event : (s : Settings) (lost : ℕ) (w v : World) (e : Event) (Goal : World → Type 0) → IsAfterLoss lost e → happens s w e ≡ v → Reaches s lost v Goal → Reaches s lost w Goal
after_event s lost w v e Goal later is a = record {
  events = e ∷ a.events;
  later = All-append (IsAfterLoss lost) (e ∷ []) a.events (All-from_recursion (IsAfterLoss lost) (e ∷ []) (later, tt)) a.later;
  goal = subst (λ u. Goal (run s u a.events)) (sym is) a.goal;
}

one_event : (s : Settings) (lost : ℕ) (w v : World) (e : Event) (Goal : World → Type 0) → IsAfterLoss lost e → happens s w e ≡ v → Goal v → Reaches s lost w Goal
one_event s lost w v e Goal later is h = record {
  events = e ∷ [];
  later = All-from_recursion (IsAfterLoss lost) (e ∷ []) (later, tt);
  goal = subst Goal (sym is) h;
}

pub item_later : {X : Type 0} (xs ys : List X) (k : ℕ) (x : X) → slice_get ys k ≡ Some x → item (xs ++ ys) (suc (length xs + k)) ≡ Some x
item_later [] ys k x e = let same : k ≡ 0 + k = omega arith in subst (λ j. slice_get ys j ≡ Some x) same e
item_later (y ∷ xs) ys k x e = let same : suc (length xs + k) ≡ suc (length xs) + k = omega arith in subst (λ j. slice_get (y ∷ (xs ++ ys)) j ≡ Some x) same (item_later xs ys k x e)

-- a world as another, but for a newest token that was sent again
pub record Again (s : Settings) (w : World) (g : Good s w) (v : World) : Type 0 where
  pub alive : Alive s (length w.sent) v
  pub hop : hop_of alive ≡ g.newest.hop
  pub whole : wanted_places v ≡ wanted_places w
  pub nodes : (n : ℕ) (r : NodeState) → item v.nodes n ≡ Some r → item w.nodes n ≡ Some r

-- the node that sent the newest token sends it again
pub begins_again : (s : Settings) (w : World) (g : Good s w) → Stores w → Reaches s (length w.sent) w (Again s w g)
begins_again s w g x =
    let sent : Contains w.sent (frame.Token x.token) = (g.inv.nodes x.keeper x.state x.at).resent x.token x.keeps in
    let l : g.newest.hop ≤ x.token.hop = x.frames (frame.Token g.newest) (newest_sent s w g) in
    let token : x.token ≡ g.newest = ⊎_elim (λ (same : x.token ≡ g.newest). same) (λ (lower : x.token.hop < g.newest.hop). absurd (omega arith)) (newest_or_lower s w g.list g.tokens g.newest x.token g.inv sent) in
    let v : World = after w x.keeper x.state (frame.Token x.token ∷ []) in
    let is : happens s w (Timer x.keeper) ≡ v = ap (λ o. moved w x.keeper o (λ r. send_again r r.last_token)) x.at ∙ ap (λ o. after w x.keeper (send_again x.state o).0 (send_again x.state o).1) x.keeps in
    let h : Good s v = subst (Good s) is (kept s w (Timer x.keeper) g).good in
    let same : h.newest ≡ g.newest = same_newest s w v g h
    (λ u c. Contains-append_left w.sent (frame.Token x.token ∷ []) (frame.Token u) c)
    (λ u c. ⊎_elim (λ old. old) (λ new. subst (Contains w.sent) (contains_one (frame.Token x.token) (frame.Token u) new) sent) (Contains-append_cases w.sent (frame.Token x.token ∷ []) (frame.Token u) c)) in
    let waits = waits_with w.nodes x.keeper x.state x.state x.at in
    let was = total_is s w g in
    let will = total_is s v h in
    let seq : h.newest.seq ≡ g.newest.seq = ap (λ (t : Token). t.seq) same in
    one_event s (length w.sent) w v (Timer x.keeper) (Again s w g) tt is record {
      alive = record {
        good = h;
        stores = subst Stores is (kept_stores s w (Timer x.keeper) g x);
        k = suc (length w.sent);
        later = omega arith;
        is = get_end w.sent (frame.Token x.token) [] ∙ ap (λ (t : Token). Some (frame.Token t)) (token ∙ sym same);
      };
      hop = ap (λ (t : Token). t.hop) same;
      whole = omega arith;
      nodes = λ n r at. ⊎_elim
          (λ (here : (n ≡ x.keeper) × (x.state ≡ r)). ap (item w.nodes) here.0 ∙ (x.at ∙ ap Some here.1))
          (λ (apart : (n ≢ x.keeper) × (item w.nodes n ≡ Some r)). apart.1)
          (with_item_cases w.nodes x.keeper n x.state r at);
    }

-- each node is visited within a round
pub next_visit : (s : Settings) (h m : ℕ) → 1 ≤ m → m ≤ s.nodes → (x : ℕ) × (x < s.nodes) × (node_of s (h + x) ≡ m)
next_visit s h zero low high = absurd (omega arith)
next_visit s h (suc i) low high =
    let b : h / s.nodes * s.nodes + h % s.nodes ≡ h = div-add-mod' h s.nodes in
    let r : h % s.nodes < s.nodes = mod-lt h (omega arith) in
    let d : suc (h / s.nodes) * s.nodes ≡ h / s.nodes * s.nodes + s.nodes = suc-mul (h / s.nodes) s.nodes in
    ⊎_elim
    (λ (before : i < h % s.nodes).
    let e : h + (s.nodes + i - h % s.nodes) ≡ suc (h / s.nodes) * s.nodes + i = omega arith in
    (s.nodes + i - h % s.nodes, omega arith, ap (λ y. y % s.nodes + 1) e ∙ (ap (λ y. y + 1) (mod-mul-add (suc (h / s.nodes)) s.nodes i high) ∙ omega arith)))
    (λ (after : h % s.nodes ≤ i).
    let e : h + (i - h % s.nodes) ≡ h / s.nodes * s.nodes + i = omega arith in
    (i - h % s.nodes, omega arith, ap (λ y. y % s.nodes + 1) e ∙ (ap (λ y. y + 1) (mod-mul-add (h / s.nodes) s.nodes i high) ∙ omega arith)))
    (cases_lt i (h % s.nodes))

-- what is asked for and held is sent again
pub served_has : (s : Settings) (held : HeldPlaces) (asked : List ℕ) (place : ℕ) (e : Entry) → Contains asked place → get held place ≡ Some e → Contains (served s held asked) (record { ring = s.ring; place = place; entry = e })
served_has s held [] place e c h = absurd (contains_none place c)
served_has s held (q ∷ asked) place e c h = ⊎_elim
    (λ (same : q ≡ place). subst (λ k. Contains (cons_option (packet_at s held k) (served s held asked)) packet) (sym same) (subst (λ o. Contains (cons_option (option_map (λ e. record { ring = s.ring; place = place; entry = e }) o) (served s held asked)) packet) (sym h) (0, omega arith, refl)))
    (λ later. behind (packet_at s held q) (served_has s held asked place e later h))
    (contains_cons q place asked c)
  where
    packet : Packet
    packet = record { ring = s.ring; place = place; entry = e }

    behind : (o : Option Packet) → Contains (served s held asked) (record { ring = s.ring; place = place; entry = e }) → Contains (cons_option o (served s held asked)) (record { ring = s.ring; place = place; entry = e })
    behind None d = d
    behind (Some p) d = let l = d.1 in (suc d.0, omega arith, d.2)

-- nothing is wanted where all is held
none_wanted : (held : HeldPlaces) (d : ℕ) (asked : List ℕ) (n : ℕ) → AllHeld held n → filter (is_wanted held d asked) (up_to n) ≡ []
none_wanted held d asked zero all = refl
none_wanted held d asked (suc n) all =
    let here : is_held held (suc n) ≡ true = is_some_of held (suc n) (all (suc n) (omega arith) (omega arith)) in
    filter-append (is_wanted held d asked) (up_to n) (suc n ∷ [])
    ∙ (ap (λ l. l ++ filter (is_wanted held d asked) (suc n ∷ [])) (none_wanted held d asked n (λ place low high. all place low (omega arith)))
    ∙ ap (λ b. cond (not b && (nat_le (suc n) (d + 64) || list_any (λ p. p == suc n) asked)) (suc n ∷ []) []) here)

-- the least place that is not held stands first among those asked for
least_first : (held : HeldPlaces) (d seq before : ℕ) (asked : List ℕ) → AllHeld held before → is_wanted held d asked (suc before) ≡ true → suc before ≤ seq → (rest : List ℕ) × (filter (is_wanted held d asked) (up_to seq) ≡ suc before ∷ rest)
least_first held d zero before asked all wanted l = absurd (omega arith)
least_first held d (suc seq) before asked all wanted l = ⊎_elim
    (λ (less : before < seq).
    let f = least_first held d seq before asked all wanted less in
    (f.0 ++ filter (is_wanted held d asked) (suc seq ∷ []), filter-append (is_wanted held d asked) (up_to seq) (suc seq ∷ []) ∙ ap (λ x. x ++ filter (is_wanted held d asked) (suc seq ∷ [])) f.1))
    (λ (ge : seq ≤ before).
    let same : before ≡ seq = omega arith in (
      [],
      filter-append (is_wanted held d asked) (up_to seq) (suc seq ∷ [])
          ∙ (ap (λ x. x ++ filter (is_wanted held d asked) (suc seq ∷ [])) (none_wanted held d asked seq (subst (AllHeld held) same all))
          ∙ (ap (λ b. cond b (suc seq ∷ []) []) (subst (λ y. is_wanted held d asked (suc y) ≡ true) same wanted) ∙ ap (λ y. suc y ∷ []) (sym same))),
    ))
    (cases_lt before seq)

least_asked : (held : HeldPlaces) (d seq before : ℕ) (asked : List ℕ) → AllHeld held before → get held (suc before) ≡ None → suc before ≤ d + 64 → suc before ≤ seq → Contains (next_requests held d seq asked) (suc before)
least_asked held d seq before asked all lacks near l =
    let wanted : is_wanted held d asked (suc before) ≡ true = ap (λ o. not (is_some o) && (nat_le (suc before) (d + 64) || list_any (λ p. p == suc before) asked)) lacks ∙ ap (λ b. b || list_any (λ p. p == suc before) asked) (le-leb (suc before) (d + 64) near) in
    let f = least_first held d seq before asked all wanted l in
    subst (λ x. Contains (take 32 x) (suc before)) (sym f.1) (contains_head (suc before) (take 31 f.0))

-- a frame with this place was sent after the first so many
abbrev pub Fresh : Settings → ℕ → World → ℕ → Type 0
Fresh s lost w place = (f : Sent s w.sent place) × (lost < f.k)

-- What a visit of the newest token leaves.
pub record Hopped (s : Settings) (lost : ℕ) (w v : World) (a : Alive s lost w) : Type 0 where
  pub alive : Alive s lost v
  pub hop : hop_of alive ≡ suc (hop_of a)
  pub r : NodeState
  pub q : NodeState
  pub before : item w.nodes (node_of s (hop_of a)) ≡ Some r
  pub now : item v.nodes (node_of s (hop_of a)) ≡ Some q
  pub others : (m : ℕ) → m ≢ node_of s (hop_of a) → item v.nodes m ≡ item w.nodes m
  pub delivered : q.delivered ≡ r.delivered
  pub held : (place : ℕ) → place ≤ total w → get q.held place ≡ get r.held place
  pub served : (place : ℕ) → Contains a.good.newest.rtr place → Holds r.held place → Fresh s lost v place
  pub asked : (place : ℕ) → AllHeld r.held place → get r.held (suc place) ≡ None → suc place ≤ r.delivered + 64 → suc place ≤ total w → Contains alive.good.newest.rtr (suc place)
  pub more : total w ≤ total v
  pub whole : wanted_places v ≡ wanted_places w
  pub raises : (e : Entry) (rest : List Entry) → r.waiting ≡ e ∷ rest → total w < s.places → total w ≤ r.delivered → total w < total v

pub hops : (s : Settings) (lost : ℕ) (w : World) (a : Alive s lost w) → 1 ≤ s.nodes → hop_of a < s.hops → (v : World) × (happens s w (Arrive (node_of s (hop_of a)) a.k) ≡ v) × Hopped s lost w v a
hops s lost w a some room =
    let g = a.good in
    let L : Token = g.newest in
    let n : ℕ = node_of s L.hop in
    let below : L.hop % s.nodes < s.nodes = mod-lt L.hop some in
    let count = g.tours.nodes in
    let node = item_there w.nodes n (omega arith) (omega arith) in
    let r : NodeState = node.0 in
    let is : item w.nodes n ≡ Some r = node.1 in
    let step : VisitStep = visit_step s n r L in
    let t' : Token = step.token in
    let now = take (burst_size s r L.seq) r.waiting in
    let rest = drop (burst_size s r L.seq) r.waiting in
    let F : List Frame = map frame.Packet step.packets ++ frame.Token t' ∷ [] in
    let new : NodeState = after_visit r L step in
    let v : World = after w n new F in
    let goes : token_refusal s n r L ≡ None = newest_goes s w g.list g.tokens L r g.inv is ∙ ap (λ b. if b then Some RingEnd else None) (lt-leb s.hops L.hop room) in
    let got : receive s n (item w.sent a.k) r ≡ accept r L step = ap (λ o. receive s n o r) a.is ∙ ap (receive_token s n r L) goes in
    let happened : happens s w (Arrive n a.k) ≡ v = ap (λ o. moved w n o (receive s n (item w.sent a.k))) is ∙ ap (λ (m : RingOutcome). after w n m.0 m.1) got in
    let fit : L.seq ≤ s.places = g.inv.room in
    let l : length now ≡ min (burst_size s r L.seq) (length r.waiting) = length-take (burst_size s r L.seq) r.waiting in
    let inv : Inv s v (g.list ++ now) (g.tokens ++ t' ∷ []) t' = visited s w g.list g.tokens L n r now rest g.inv is refl (omega arith) (All-drop (λ e. e.node ≡ n) (burst_size s r L.seq) r.waiting (g.inv.nodes n r is).own) in
    let good : Good s v = record { list = g.list ++ now; tokens = g.tokens ++ t' ∷ []; newest = t'; inv = inv; tours = tours_visit s w g.list g.tokens L n r now rest F g.inv g.tours is refl } in
    let stores : Stores v = visit_stores s w n r L is (most_hop s w g) a.stores in
    let within = item_within w.sent a.k (frame.Token L) a.is in
    let later = a.later in
    let alive : Alive s lost v = record {
      good = good;
      stores = stores;
      k = suc (length w.sent + length (map frame.Packet step.packets));
      later = omega arith;
      is = item_later w.sent F (length (map frame.Packet step.packets)) (frame.Token t') (get_end (map frame.Packet step.packets) (frame.Token t') []);
    } in
    let was : total w ≡ L.seq = total_is s w g in
    let will : total v ≡ L.seq + length now = total_is s v good in (
      v,
      happened,
      record {
        alive = alive;
        hop = refl {a = suc L.hop};
        r = r;
        q = new;
        before = is;
        now = item_with_same w.nodes n new r is;
        others = λ m apart. item_with_other w.nodes n m new apart;
        delivered = refl;
        held = λ place low. placed_keeps s r.held L.seq now place (omega arith);
        served = λ place c h.
            let p : Packet = record { ring = s.ring; place = place; entry = h.0 } in
            let one : Contains F (frame.Packet p) = Contains-append_left (map frame.Packet step.packets) (frame.Token t' ∷ []) (frame.Packet p) (contains_map frame.Packet step.packets p (Contains-append_left (served s r.held L.rtr) (placed s L.seq now) p (served_has s r.held L.rtr place h.0 c h.1))) in
            let f = found F (frame.Packet p) one in
            let in_list = item_within g.list place h.0 ((g.inv.nodes n r is).held.at place h.0 h.1) in
            let long = g.inv.count in
            (record { k = suc (length w.sent + f.0); packet = p; is = item_later w.sent F f.0 (frame.Packet p) f.1; place_is = refl; ring = refl; room = omega arith }, omega arith);
        asked = λ place all lacks near low. least_asked step.held r.delivered (L.seq + length now) place L.rtr (λ q a b. burst_keeps s r.held L.seq now q (all q a b)) (placed_keeps s r.held L.seq now (suc place) (omega arith) ∙ lacks) near (omega arith);
        more = omega arith;
        whole =
            let waits = waits_with w.nodes n r new is in
            let dropped = length-drop (burst_size s r L.seq) r.waiting in
            omega arith;
        raises = λ e rest waits places caught. let w : length r.waiting ≡ suc (length rest) = ap (λ x. length x) waits in omega arith;
      },
    )

-- What keeps the safe mark: the aru and its owner between two visits of one node.
use Rattle.std.proofs.Common.{◌≡◌, ◌≢◌, ◌⊎◌, ℕ, zero, suc, ◌+◌, ◌*◌, ◌/◌, ◌%◌, ◌<◌, ◌≤◌, Bool, true, false, List, [], ◌∷◌, ◌++◌, length, take, Option, Some, None, refl, sym, ap, ◌∙◌, subst, inl, inr, ⊎_elim, arith, eqb-true, ne_eqb, ltb-true, ltb-false, ◌||◌, if◌then◌else◌, ◌==◌, nat_lt, is_some, mod-eq_of_lt, div-add-mod', length-append}
use Rattle.std.proofs.Math.Nat.{mul-le-mul_right, add-mod_right, suc-mul}
use Rattle.std.specs.FinMap.{get}
use Rattle.std.proofs.lemmas.Option.{none-some, same_Some}
use Rattle.std.proofs.lemmas.Bool.{cases_eq, cases_lt}
use Rattle.cpg_ring.specs.States.{Entry, Token, Frame, Settings, HeldPlaces, Holds, NodeState, safe_mark}
use Rattle.cpg_ring.specs.Visits.{node_of, held_through, reach, is_own_or_none, next_aru, next_aru_id, placed, hold_all, visit_with, after_visit}
use Rattle.cpg_ring.specs.Worlds.{World, item, with_item}
use Rattle.cpg_ring.proofs.Lists.{with_item_cases, item_within, item_with_same, item_with_other, length-with_item}
use Rattle.cpg_ring.proofs.Holding.{Agrees, Grows, Burst, burst_holds}
use Rattle.cpg_ring.proofs.Invariant.{Inv, after}

-- hops of one node are a round apart
round_apart : (N l H : ℕ) → l < H → l % N ≡ H % N → l + N ≤ H
round_apart N l H h same =
    let a : l / N * N + l % N ≡ l = div-add-mod' l N in
    let b : H / N * N + H % N ≡ H = div-add-mod' H N in
    ⊎_elim
    (λ (lt : l / N < H / N). let c : suc (l / N) * N ≤ H / N * N = mul-le-mul_right N lt in let d : suc (l / N) * N ≡ l / N * N + N = suc-mul (l / N) N in omega arith)
    (λ (ge : H / N ≤ l / N). let c : H / N * N ≤ l / N * N = mul-le-mul_right N ge in absurd (omega arith))
    (cases_lt (l / N) (H / N))

-- all places up to that number are held
holds_through : (held : HeldPlaces) (a more : ℕ) → ((place : ℕ) → 1 ≤ place → place ≤ a → Holds held place) → (place : ℕ) → 1 ≤ place → place ≤ held_through held a more → Holds held place
holds_through held a zero h place low high = h place low high
holds_through held a (suc more) h place low high = by_next (get held (suc a)) refl high (holds_through held (suc a) more)
  where
    by_next : (o : Option Entry) → get held (suc a) ≡ o → place ≤ (if is_some o then held_through held (suc a) more else a) → (((p : ℕ) → 1 ≤ p → p ≤ suc a → Holds held p) → (p : ℕ) → 1 ≤ p → p ≤ held_through held (suc a) more → Holds held p) → Holds held place
    by_next None is l next = h place low l
    by_next (Some e) is l next = next (λ p low' high'. ⊎_elim (λ (same : p ≡ suc a). (e, ap (get held) same ∙ is)) (λ (apart : p ≢ suc a). h p low' (omega arith)) (cases_eq p (suc a))) place low l

pub holds_to : (held : HeldPlaces) (seq place : ℕ) → 1 ≤ place → place ≤ reach held seq → Holds held place
holds_to held seq place low high = holds_through held 0 seq (λ p l h. absurd (omega arith)) place low high

-- so that number is no more than the agreed list's length
pub held_within : (held : HeldPlaces) (A : List Entry) → Agrees held A → (a : ℕ) → ((place : ℕ) → 1 ≤ place → place ≤ a → Holds held place) → a ≤ length A
held_within held A agrees zero h = omega arith
held_within held A agrees (suc a) h = let e = h (suc a) (omega arith) (omega arith) in (item_within A (suc a) e.0 (agrees.at (suc a) e.0 e.1)).1

-- what the rule on aru does, for the aru and owner that go on
pub record Lowered (n a seq : ℕ) (t : Token) (aru' : ℕ) (owner' : Option ℕ) : Type 0 where
  pub aru : aru' ≡ a
  pub owner : owner' ≡ (if a == seq then None else Some n)
  pub why : (a < t.aru) ⊎ ((j : ℕ) → t.aru_id ≡ Some j → j ≡ n)

pub record Left (a : ℕ) (t : Token) (aru' : ℕ) (owner' : Option ℕ) : Type 0 where
  pub aru : aru' ≡ t.aru
  pub owner : owner' ≡ t.aru_id
  pub no_less : t.aru ≤ a

pub rule : (n a seq : ℕ) (t : Token) → Lowered n a seq t (next_aru n a t) (next_aru_id n a seq t) ⊎ Left a t (next_aru n a t) (next_aru_id n a seq t)
rule n a seq t = by_tests (nat_lt a t.aru) (is_own_or_none n t.aru_id) refl refl
  where
    own : (o : Option ℕ) → is_own_or_none n o ≡ true → (j : ℕ) → o ≡ Some j → j ≡ n
    own None h j e = absurd (none-some j e)
    own (Some i) h j e = sym (same_Some i j e) ∙ eqb-true i n h

    by_tests : (b c : Bool) → nat_lt a t.aru ≡ b → is_own_or_none n t.aru_id ≡ c → Lowered n a seq t (if b || c then a else t.aru) (if b || c then (if a == seq then None else Some n) else t.aru_id) ⊎ Left a t (if b || c then a else t.aru) (if b || c then (if a == seq then None else Some n) else t.aru_id)
    by_tests true c is own_is = inl record { aru = refl; owner = refl; why = inl (ltb-true a t.aru is) }
    by_tests false true is own_is = inl record { aru = refl; owner = refl; why = inr (own t.aru_id own_is) }
    by_tests false false is own_is = inr record { aru = refl; owner = refl; no_less = ltb-false a t.aru is }

-- each node visited after hop h holds the place
pub record HoldSince (w : World) (h place : ℕ) : Type 0 where
  pub at : (m : ℕ) (q : NodeState) (k : ℕ) → item w.nodes m ≡ Some q → q.last_hop ≡ Some k → h < k → Holds q.held place

-- node j was visited after hop h
pub record VisitedSince (w : World) (h j : ℕ) : Type 0 where
  pub ring : NodeState
  pub hop : ℕ
  pub is : item w.nodes j ≡ Some ring
  pub last_hop : ring.last_hop ≡ Some hop
  pub later : h < hop

-- Since node n forwarded an aru that reached the place: either the token's aru still reaches it, and each node visited since holds it,
-- or the token's aru is below it, and is owned by a node visited since.
abbrev pub Tour : World → Token → ℕ → ℕ → Type 0
Tour w L h place = ((place ≤ L.aru) × HoldSince w h place) ⊎ ((L.aru < place) × ((j : ℕ) × (L.aru_id ≡ Some j) × VisitedSince w h j))

pub record Tours (s : Settings) (w : World) (L : Token) : Type 0 where
  pub nodes : length w.nodes ≡ s.nodes
  pub aru : L.aru ≤ L.seq
  pub window : (n : ℕ) (r : NodeState) (h : ℕ) → item w.nodes n ≡ Some r → r.last_hop ≡ Some h → (L.hop ≤ h + s.nodes) × (node_of s h ≡ n)
  pub unvisited : (n : ℕ) (r : NodeState) → item w.nodes n ≡ Some r → r.last_hop ≡ None → (L.hop < n) × (r.arus ≡ [])
  pub tour : (n : ℕ) (r : NodeState) (h a : ℕ) (rest : List ℕ) → item w.nodes n ≡ Some r → r.last_hop ≡ Some h → r.arus ≡ a ∷ rest → (place : ℕ) → 1 ≤ place → place ≤ a → Tour w L h place
  pub safe : (n m : ℕ) (r q : NodeState) (place : ℕ) → item w.nodes n ≡ Some r → item w.nodes m ≡ Some q → 1 ≤ place → place ≤ safe_mark r.arus → Holds q.held place

-- a node's state after an event that is no visit
pub record Alike (r new : NodeState) : Type 0 where
  pub last_hop : new.last_hop ≡ r.last_hop
  pub arus : new.arus ≡ r.arus
  pub grows : Grows r.held new.held

-- what holds of each ring before holds of each after, where the changed one is like the old
by_ring : (w : World) (n : ℕ) (r new : NodeState) (frames : List Frame) (P : ℕ → NodeState → Type 0) → item w.nodes n ≡ Some r → ((m : ℕ) (q : NodeState) → item w.nodes m ≡ Some q → P m q) → (P n r → P n new) → (m : ℕ) (q : NodeState) → item (after w n new frames).nodes m ≡ Some q → P m q
by_ring w n r new frames P is h change m q at = ⊎_elim
    (λ (x : (m ≡ n) × (new ≡ q)). subst (λ (y : NodeState). P m y) x.1 (subst (λ k. P k new) (sym x.0) (change (h n r is))))
    (λ (x : (m ≢ n) × (item w.nodes m ≡ Some q)). h m q x.1)
    (with_item_cases w.nodes n m new q at)

since_kept : (w : World) (n : ℕ) (r new : NodeState) (frames : List Frame) (h place : ℕ) → item w.nodes n ≡ Some r → Alike r new → HoldSince w h place → HoldSince (after w n new frames) h place
since_kept w n r new frames h place is alike since = record {
  at = λ m q k at. by_ring w n r new frames (λ m q. (k : ℕ) → q.last_hop ≡ Some k → h < k → Holds q.held place) is (λ m q at k. since.at m q k at)
      (λ was k e l. let d = was k (sym alike.last_hop ∙ e) l in (d.0, alike.grows.at place d.0 d.1)) m q at k;
}

visited_kept : (w : World) (n : ℕ) (r new : NodeState) (frames : List Frame) (h j : ℕ) → item w.nodes n ≡ Some r → Alike r new → VisitedSince w h j → VisitedSince (after w n new frames) h j
visited_kept w n r new frames h j is alike v = ⊎_elim
    (λ (same : j ≡ n). record {
      ring = new;
      hop = v.hop;
      later = v.later;
      is = subst (λ m. item (with_item w.nodes n new) m ≡ Some new) (sym same) (item_with_same w.nodes n new r is);
      last_hop = alike.last_hop ∙ (ap (λ (x : NodeState). x.last_hop) (same_Some r v.ring (sym is ∙ (ap (item w.nodes) (sym same) ∙ v.is))) ∙ v.last_hop);
    })
    (λ (apart : j ≢ n). record { ring = v.ring; hop = v.hop; later = v.later; last_hop = v.last_hop; is = item_with_other w.nodes n j new apart ∙ v.is })
    (cases_eq j n)

pub tours_quiet : (s : Settings) (w : World) (L : Token) (n : ℕ) (r new : NodeState) (frames : List Frame) → item w.nodes n ≡ Some r → Alike r new → Tours s w L → Tours s (after w n new frames) L
tours_quiet s w L n r new frames is alike t = record {
  nodes = length-with_item w.nodes n new ∙ t.nodes;
  aru = t.aru;
  window = λ m q h at last. by_ring w n r new frames (λ m q. (h : ℕ) → q.last_hop ≡ Some h → (L.hop ≤ h + s.nodes) × (node_of s h ≡ m)) is (λ m q at h. t.window m q h at) (λ was h e. was h (sym alike.last_hop ∙ e)) m q at h last;
  unvisited = by_ring w n r new frames (λ m q. q.last_hop ≡ None → (L.hop < m) × (q.arus ≡ [])) is t.unvisited (λ was e. let d = was (sym alike.last_hop ∙ e) in (d.0, alike.arus ∙ d.1));
  tour = λ m q h a rest at last arus place low high. tour_kept h place (by_ring w n r new frames (λ m q. (h a : ℕ) (rest : List ℕ) → q.last_hop ≡ Some h → q.arus ≡ a ∷ rest → (place : ℕ) → 1 ≤ place → place ≤ a → Tour w L h place) is (λ m q at h a rest. t.tour m q h a rest at) (λ was h a rest e f. was h a rest (sym alike.last_hop ∙ e) (sym alike.arus ∙ f)) m q at h a rest last arus place low high);
  safe = λ m k q p place at at' low high.
      by_ring w n r new frames (λ k p. Holds p.held place) is
      (λ k p at'. by_ring w n r new frames (λ m q. place ≤ safe_mark q.arus → Holds p.held place) is (λ m q at l. t.safe m k q p place at at' low l) (λ was l. was (subst (λ a. place ≤ safe_mark a) alike.arus l)) m q at high)
      (λ d. (d.0, alike.grows.at place d.0 d.1)) k p at';
}
  where
    tour_kept : (h place : ℕ) → Tour w L h place → Tour (after w n new frames) L h place
    tour_kept h place d = ⊎_elim
        (λ x. inl (x.0, since_kept w n r new frames h place is alike x.1))
        (λ x. inr (x.0, (x.1.0, x.1.1, visited_kept w n r new frames h x.1.0 is alike x.1.2)))
        d

-- two hops of one node's, and of two nodes
node_apart : (s : Settings) (h k : ℕ) → h < k → node_of s h ≡ node_of s k → h + s.nodes ≤ k
node_apart s h k l same = round_apart s.nodes h k l (omega arith)

pub next_round : (s : Settings) (h : ℕ) → node_of s (h + s.nodes) ≡ node_of s h
next_round s h = ap (λ m. m + 1) (add-mod_right h s.nodes)

first_round : (s : Settings) (h : ℕ) → h < s.nodes → node_of s h ≡ suc h
first_round s h l = let e = mod-eq_of_lt l in omega arith

-- the node that is visited now was not visited since another one, or itself, was
not_since : (s : Settings) (w : World) (L : Token) (n : ℕ) (h : ℕ) → Tours s w L → node_of s L.hop ≡ n → ((q : NodeState) (k : ℕ) → item w.nodes n ≡ Some q → q.last_hop ≡ Some k → k < L.hop) → L.hop ≤ h + s.nodes → VisitedSince w h n → ⊥
not_since s w L n h t mine before window v =
    let b = before v.ring v.hop v.is v.last_hop in
    let apart : v.hop + s.nodes ≤ L.hop = node_apart s v.hop L.hop b ((t.window n v.ring v.hop v.is v.last_hop).1 ∙ sym mine) in
    let l = v.later in
    omega arith

-- the owner that a visit leaves where it lowers the aru below a place that the frames reach
owner_is : (n a seq : ℕ) (o : Option ℕ) → o ≡ (if a == seq then None else Some n) → a < seq → o ≡ Some n
owner_is n a seq o e l = e ∙ ap (λ b. if b then None else Some n) (ne_eqb a seq (omega arith))

-- What is known at a visit of node n: a is the number up to which it holds all places, t' the token that goes on.
pub record AtVisit (s : Settings) (w : World) (L t' : Token) (n a : ℕ) (r new : NodeState) : Type 0 where
  pub tours : Tours s w L
  pub before : (m : ℕ) (q : NodeState) (k : ℕ) → item w.nodes m ≡ Some q → q.last_hop ≡ Some k → k < L.hop
  pub is : item w.nodes n ≡ Some r
  pub mine : node_of s L.hop ≡ n
  pub grows : Grows r.held new.held
  pub last_hop : new.last_hop ≡ Some L.hop
  pub arus : new.arus ≡ take 2 (t'.aru ∷ r.arus)
  pub hop : t'.hop ≡ suc L.hop
  pub seq : L.seq ≤ t'.seq
  pub within : a ≤ t'.seq
  pub here : (place : ℕ) → 1 ≤ place → place ≤ a → Holds new.held place
  pub rule : Lowered n a t'.seq L t'.aru t'.aru_id ⊎ Left a L t'.aru t'.aru_id

module _ (s : Settings) (w : World) (L t' : Token) (n a : ℕ) (r new : NodeState) (frames : List Frame) (v : AtVisit s w L t' n a r new) where
  some_node : (1 ≤ n) × (n ≤ s.nodes)
  some_node = let l = item_within w.nodes n r v.is in let e = v.tours.nodes in (l.0, omega arith)

  last_of_new : (q : NodeState) (h : ℕ) → new ≡ q → q.last_hop ≡ Some h → h ≡ L.hop
  last_of_new q h same e = same_Some h L.hop (sym e ∙ (ap (λ (x : NodeState). x.last_hop) (sym same) ∙ v.last_hop))

  since_visit : (h place : ℕ) → HoldSince w h place → Holds new.held place → HoldSince (after w n new frames) h place
  since_visit h place since here = record {
    at = λ m q k at e l. ⊎_elim
        (λ (x : (m ≡ n) × (new ≡ q)). subst (λ (y : NodeState). Holds y.held place) x.1 here)
        (λ (x : (m ≢ n) × (item w.nodes m ≡ Some q)). since.at m q k x.1 e l)
        (with_item_cases w.nodes n m new q at);
  }

  now_visited : (h : ℕ) → h < L.hop → VisitedSince (after w n new frames) h n
  now_visited h l = record { ring = new; hop = L.hop; is = item_with_same w.nodes n new r v.is; last_hop = v.last_hop; later = l }

  still_visited : (h j : ℕ) → j ≢ n → VisitedSince w h j → VisitedSince (after w n new frames) h j
  still_visited h j apart x = record { ring = x.ring; hop = x.hop; is = item_with_other w.nodes n j new apart ∙ x.is; last_hop = x.last_hop; later = x.later }

  -- it was not visited since hop h, if that was at most a round ago
  new_here : (h : ℕ) → L.hop ≤ h + s.nodes → VisitedSince w h n → ⊥
  new_here h window x = not_since s w L n h v.tours v.mine (λ q k. v.before n q k) window x

  window' : (m : ℕ) (q : NodeState) (h : ℕ) → item (after w n new frames).nodes m ≡ Some q → q.last_hop ≡ Some h → (t'.hop ≤ h + s.nodes) × (node_of s h ≡ m)
  window' m q h at e = ⊎_elim
      (λ (x : (m ≡ n) × (new ≡ q)).
      let now : h ≡ L.hop = last_of_new q h x.1 e in
      let some = some_node in
      let hop = v.hop in
      (omega arith, ap (node_of s) now ∙ (v.mine ∙ sym x.0)))
      (λ (x : (m ≢ n) × (item w.nodes m ≡ Some q)).
      let old = v.tours.window m q h x.1 e in
      let apart : L.hop ≢ h + s.nodes = λ same. x.0 (sym old.1 ∙ (sym (next_round s h) ∙ (ap (node_of s) (sym same) ∙ v.mine))) in
      let hop = v.hop in
      (omega arith, old.1))
      (with_item_cases w.nodes n m new q at)

  unvisited' : (m : ℕ) (q : NodeState) → item (after w n new frames).nodes m ≡ Some q → q.last_hop ≡ None → (t'.hop < m) × (q.arus ≡ [])
  unvisited' m q at e = ⊎_elim
      (λ (x : (m ≡ n) × (new ≡ q)). absurd (none-some L.hop (sym e ∙ (ap (λ (y : NodeState). y.last_hop) (sym x.1) ∙ v.last_hop))))
      (λ (x : (m ≢ n) × (item w.nodes m ≡ Some q)).
      let old = v.tours.unvisited m q x.1 e in
      let l = item_within w.nodes m q x.1 in
      let count = v.tours.nodes in
      let apart : suc L.hop ≢ m = λ same. x.0 (sym same ∙ (sym (first_round s L.hop (omega arith)) ∙ v.mine)) in
      let hop = v.hop in
      (omega arith, old.1))
      (with_item_cases w.nodes n m new q at)

  -- another node's tour goes on
  tour_goes_on : (h place : ℕ) → h < L.hop → L.hop ≤ h + s.nodes → 1 ≤ place → Tour w L h place → Tour (after w n new frames) t' h place
  tour_goes_on h place before window low (inl x) = ⊎_elim
      (λ d. ⊎_elim
      (λ (short : a < place). inr (
        let e = d.aru in omega arith,
        (n, owner_is n a t'.seq t'.aru_id d.owner (let l = v.tours.aru in let k = v.seq in let b = x.0 in omega arith), now_visited h before),
      ))
      (λ (long : place ≤ a). inl (let e = d.aru in omega arith, since_visit h place x.1 (v.here place low long)))
      (cases_lt a place))
      (λ d. let l = d.no_less in let e = d.aru in let b = x.0 in inl (omega arith, since_visit h place x.1 (v.here place low (omega arith))))
      v.rule
  tour_goes_on h place before window low (inr x) =
      let j : ℕ = x.1.0 in
      let other : j ≢ n = λ same. new_here h window (subst (VisitedSince w h) same x.1.2) in
      let short = x.0 in
      ⊎_elim
      (λ d. ⊎_elim
      (λ (less : a < L.aru). inr (
        let e = d.aru in omega arith,
        (n, owner_is n a t'.seq t'.aru_id d.owner (let l = v.tours.aru in let k = v.seq in omega arith), now_visited h before),
      ))
      (λ own. absurd (other (own j x.1.1)))
      d.why)
      (λ d. inr (let e = d.aru in omega arith, (j, d.owner ∙ x.1.1, still_visited h j other x.1.2)))
      v.rule

  -- nobody was visited since this visit
  none_since : (place : ℕ) → HoldSince (after w n new frames) L.hop place
  none_since place = record {
    at = λ m q k at e l. ⊎_elim
        (λ (x : (m ≡ n) × (new ≡ q)). absurd (let now : k ≡ L.hop = last_of_new q k x.1 e in omega arith))
        (λ (x : (m ≢ n) × (item w.nodes m ≡ Some q)). absurd (let b = v.before m q k x.1 e in omega arith))
        (with_item_cases w.nodes n m new q at);
  }

  tour' : (m : ℕ) (q : NodeState) (h b : ℕ) (rest : List ℕ) → item (after w n new frames).nodes m ≡ Some q → q.last_hop ≡ Some h → q.arus ≡ b ∷ rest → (place : ℕ) → 1 ≤ place → place ≤ b → Tour (after w n new frames) t' h place
  tour' m q h b rest at e arus place low high = ⊎_elim
      (λ (x : (m ≡ n) × (new ≡ q)).
      let now : h ≡ L.hop = last_of_new q h x.1 e in
      let first : t'.aru ≡ b = head_is t'.aru b (take 1 r.arus) rest (sym v.arus ∙ (ap (λ (y : NodeState). y.arus) x.1 ∙ arus)) in
      inl (omega arith, subst (λ k. HoldSince (after w n new frames) k place) (sym now) (none_since place)))
      (λ (x : (m ≢ n) × (item w.nodes m ≡ Some q)).
      tour_goes_on h place (v.before m q h x.1 e) (v.tours.window m q h x.1 e).0 low (v.tours.tour m q h b rest x.1 e arus place low high))
      (with_item_cases w.nodes n m new q at)
    where
      head_of : List ℕ → ℕ
      head_of [] = 0
      head_of (x ∷ xs) = x

      head_is : (x y : ℕ) (xs ys : List ℕ) → x ∷ xs ≡ y ∷ ys → x ≡ y
      head_is x y xs ys e = ap head_of e

  -- every node holds what reached both this visit's aru and the one's before
  safe_now : (h b place : ℕ) (m : ℕ) (q : NodeState) → r.last_hop ≡ Some h → 1 ≤ place → place ≤ t'.aru → Tour w L h place → item (after w n new frames).nodes m ≡ Some q → Holds q.held place
  safe_now h b place m q e low high (inl x) at = ⊎_elim
      (λ (y : (m ≡ n) × (new ≡ q)). subst (λ (z : NodeState). Holds z.held place) y.1 (v.here place low (reach v.rule)))
      (λ (y : (m ≢ n) × (item w.nodes m ≡ Some q)). by_last q.last_hop refl y.0 y.1)
      (with_item_cases w.nodes n m new q at)
    where
      reach : Lowered n a t'.seq L t'.aru t'.aru_id ⊎ Left a L t'.aru t'.aru_id → place ≤ a
      reach (inl d) = let f = d.aru in omega arith
      reach (inr d) = let f = d.no_less in let b = x.0 in omega arith

      round : h + s.nodes ≤ L.hop
      round = node_apart s h L.hop (v.before n r h v.is e) ((v.tours.window n r h v.is e).1 ∙ sym v.mine)

      by_last : (o : Option ℕ) → q.last_hop ≡ o → m ≢ n → item w.nodes m ≡ Some q → Holds q.held place
      by_last None f apart was =
          let u = v.tours.unvisited m q was f in
          let l = item_within w.nodes m q was in
          let count = v.tours.nodes in
          let far = round in
          absurd (omega arith)
      by_last (Some k) f apart was =
          let window = v.tours.window m q k was f in
          let far = round in
          let other : h ≢ k = λ same. apart (sym window.1 ∙ (ap (node_of s) (sym same) ∙ (v.tours.window n r h v.is e).1)) in
          x.1.at m q k was f (omega arith)
  safe_now h b place m q e low high (inr x) at =
      let j : ℕ = x.1.0 in
      let other : j ≢ n = λ same. new_here h (v.tours.window n r h v.is e).0 (subst (VisitedSince w h) same x.1.2) in
      let short = x.0 in
      ⊎_elim
      (λ d. let f = d.aru in ⊎_elim (λ (less : a < L.aru). absurd (omega arith)) (λ own. absurd (other (own j x.1.1))) d.why)
      (λ d. let f = d.aru in absurd (omega arith))
      v.rule

  safe_new : (last' : Option ℕ) (arus' : List ℕ) → r.last_hop ≡ last' → r.arus ≡ arus' → (place : ℕ) → 1 ≤ place → place ≤ safe_mark (take 2 (t'.aru ∷ arus')) → (m : ℕ) (q : NodeState) → item (after w n new frames).nodes m ≡ Some q → Holds q.held place
  safe_new last' [] e f place low high m q at = absurd (omega arith)
  safe_new None (b ∷ rest) e f place low high m q at = absurd (let u = (v.tours.unvisited n r v.is e).1 in no_cons b rest (sym u ∙ f))
    where
      no_cons : (b : ℕ) (rest : List ℕ) → [] ≡ b ∷ rest → ⊥
      no_cons b rest h = cc
  safe_new (Some h) (b ∷ rest) e f place low high m q at = safe_now h b place m q e low (omega arith) (v.tours.tour n r h b rest v.is e f place low (omega arith)) at

  safe' : (m k : ℕ) (p q : NodeState) (place : ℕ) → item (after w n new frames).nodes m ≡ Some p → item (after w n new frames).nodes k ≡ Some q → 1 ≤ place → place ≤ safe_mark p.arus → Holds q.held place
  safe' m k p q place at at' low high = ⊎_elim
      (λ (x : (m ≡ n) × (new ≡ p)). safe_new r.last_hop r.arus refl refl place low (subst (λ l. place ≤ safe_mark l) (ap (λ (y : NodeState). y.arus) (sym x.1) ∙ v.arus) high) k q at')
      (λ (x : (m ≢ n) × (item w.nodes m ≡ Some p)). ⊎_elim
      (λ (y : (k ≡ n) × (new ≡ q)). let d = v.tours.safe m n p r place x.1 v.is low high in subst (λ (z : NodeState). Holds z.held place) y.1 (d.0, v.grows.at place d.0 d.1))
      (λ (y : (k ≢ n) × (item w.nodes k ≡ Some q)). v.tours.safe m k p q place x.1 y.1 low high)
      (with_item_cases w.nodes n k new q at'))
      (with_item_cases w.nodes n m new p at)

  pub tours_visited : Tours s (after w n new frames) t'
  tours_visited = record {
    nodes = length-with_item w.nodes n new ∙ v.tours.nodes;
    aru = by_rule v.rule;
    window = window';
    unvisited = unvisited';
    tour = tour';
    safe = safe';
  }
    where
      by_rule : Lowered n a t'.seq L t'.aru t'.aru_id ⊎ Left a L t'.aru t'.aru_id → t'.aru ≤ t'.seq
      by_rule (inl d) = let e = d.aru in let l = v.within in omega arith
      by_rule (inr d) = let e = d.aru in let l = v.seq in let k = v.tours.aru in omega arith

-- the visit of the protocol is such a visit
pub tours_visit : (s : Settings) (w : World) (A : List Entry) (C : List Token) (L : Token) (n : ℕ) (r : NodeState) (now rest : List Entry) (frames : List Frame) → Inv s w A C L → Tours s w L → item w.nodes n ≡ Some r → node_of s L.hop ≡ n → Tours s (after w n (after_visit r L (visit_with s n r L now rest)) frames) (visit_with s n r L now rest).token
tours_visit s w A C L n r now rest frames i t is mine =
    let seq : ℕ = L.seq + length now in
    let held : HeldPlaces = hold_all r.held (placed s L.seq now) in
    let burst : Burst r.held held (A ++ now) = burst_holds s r.held A now L.seq i.count (i.nodes n r is).held in
    let here : (place : ℕ) → 1 ≤ place → place ≤ reach held seq → Holds held place = holds_to held seq in
    let within : reach held seq ≤ length (A ++ now) = held_within held (A ++ now) burst.agrees (reach held seq) here in
    let l = length-append A now in
    let count = i.count in
    tours_visited s w L (visit_with s n r L now rest).token n (reach held seq) r (after_visit r L (visit_with s n r L now rest)) frames record {
      tours = t;
      before = λ m q k at. (i.nodes m q at).before k;
      is = is;
      mine = mine;
      grows = burst.grows;
      last_hop = refl;
      arus = refl;
      hop = refl;
      seq = omega arith;
      within = omega arith;
      here = here;
      rule = rule n (reach held seq) (L.seq + length now) L;
    }

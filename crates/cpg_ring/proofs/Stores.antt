-- What was sent is still kept: the newest token by the node that sent it, and each entry by a node that holds it.
use Rattle.std.proofs.Common.{◌≡◌, ◌≢◌, ℕ, zero, suc, ◌+◌, ◌<◌, ◌≤◌, Bool, true, false, List, [], ◌∷◌, ◌++◌, length, map, take, Option, Some, None, Contains, All, refl, sym, ap, ◌∙◌, subst, ⊎_elim, arith, if◌then◌else◌, option_map, eq-eqb, slice_get}
use Rattle.std.specs.List.{AllByRecursion, cons_option}
use Rattle.std.specs.FinMap.{get}
use Rattle.std.proofs.lemmas.Option.{same_Some, slice_get-map}
use Rattle.std.proofs.lemmas.Bool.{cases_eq}
use Rattle.std.proofs.lemmas.List.Elements.{All-from_recursion, All-append, All-map, All-push, All-contains, Contains-append_cases}
use Rattle.cpg_entry.specs.declared.frames.Frame.TheVariants as frame
use Rattle.cpg_ring.specs.States.{Entry, Packet, Token, Frame, Refusal, Settings, HeldPlaces, Holds, NodeState, is_held}
use Rattle.cpg_ring.specs.Visits.{VisitStep, token_refusal, burst_size, served, placed, visit_step, after_visit, up_to}
use Rattle.cpg_ring.specs.Moves.{data_refusal, is_full, new_node, first_token}
use Rattle.cpg_ring.specs.Worlds.{World, Event, Enqueue, EnqueueEnd, Arrive, Timer, Deliver, RingOutcome, item, with_item, enqueue, receive, receive_token, receive_data, send_again, deliver, moved, happens, run, start, Reached}
use Rattle.cpg_ring.proofs.Lists.{get_end, contains_none, contains_one, contains_item, item_with_same, item_with_other}
use Rattle.cpg_ring.proofs.Invariant.{after}
use Rattle.cpg_ring.proofs.Refusals.{newest_or_lower, accepted_is_newest}
use Rattle.cpg_ring.proofs.Bursts.{put_holds, burst_keeps, burst_has}
use Rattle.cpg_ring.proofs.Steps.{Good, kept, reached, length-up_to}

-- some node holds a packet's place; a token is no newer than that hop
abbrev pub Stored : List NodeState → ℕ → Frame → Type 0
Stored nodes hop (frame.Packet p) = (n : ℕ) × (r : NodeState) × (item nodes n ≡ Some r) × Holds r.held p.place
Stored nodes hop (frame.Token t) = t.hop ≤ hop

pub record Stores (w : World) : Type 0 where
  pub token : Token
  pub keeper : ℕ
  pub state : NodeState
  pub at : item w.nodes keeper ≡ Some state
  pub keeps : state.last_token ≡ Some token
  pub frames : (f : Frame) → Contains w.sent f → Stored w.nodes token.hop f

pub record Wider (r q : NodeState) : Type 0 where
  pub at : (place : ℕ) → Holds r.held place → Holds q.held place

stored_later : (nodes : List NodeState) (n : ℕ) (r new : NodeState) (hop later : ℕ) (f : Frame) → item nodes n ≡ Some r → Wider r new → hop ≤ later → Stored nodes hop f → Stored (with_item nodes n new) later f
stored_later nodes n r new hop later (frame.Token t) is wider l h = omega arith
stored_later nodes n r new hop later (frame.Packet p) is wider l (m, q, at, holds) = ⊎_elim
    (λ (same : m ≡ n). (n, new, item_with_same nodes n new r is, wider.at p.place (subst (λ (x : NodeState). Holds x.held p.place) (same_Some q r (sym at ∙ (ap (item nodes) same ∙ is))) holds)))
    (λ (apart : m ≢ n). (m, q, item_with_other nodes n m new apart ∙ at, holds))
    (cases_eq m n)

-- an event of node n that makes no token
stores_quiet : (w : World) (n : ℕ) (r new : NodeState) (frames : List Frame) → item w.nodes n ≡ Some r → ((f : Frame) → Contains frames f → Contains w.sent f) → Wider r new → new.last_token ≡ r.last_token → Stores w → Stores (after w n new frames)
stores_quiet w n r new frames is again wider same x = ⊎_elim
    (λ (here : x.keeper ≡ n). record {
      token = x.token;
      keeper = n;
      state = new;
      at = item_with_same w.nodes n new r is;
      keeps = same ∙ (ap (λ (q : NodeState). q.last_token) (same_Some r x.state (sym is ∙ (sym (ap (item w.nodes) here) ∙ x.at))) ∙ x.keeps);
      frames = all;
    })
    (λ (apart : x.keeper ≢ n). record { token = x.token; keeper = x.keeper; state = x.state; at = item_with_other w.nodes n x.keeper new apart ∙ x.at; keeps = x.keeps; frames = all })
    (cases_eq x.keeper n)
  where
    all : (f : Frame) → Contains (w.sent ++ frames) f → Stored (with_item w.nodes n new) x.token.hop f
    all f c = stored_later w.nodes n r new x.token.hop x.token.hop f is wider (omega arith) (x.frames f (⊎_elim (λ y. y) (again f) (Contains-append_cases w.sent frames f c)))

served_held : (s : Settings) (held : HeldPlaces) (asked : List ℕ) → AllByRecursion (λ p. Holds held p.place) (served s held asked)
served_held s held [] = tt
served_held s held (place ∷ asked) = one (served_held s held asked) (get held place) refl
  where
    one : AllByRecursion (λ p. Holds held p.place) (served s held asked) → (o : Option Entry) → get held place ≡ o → AllByRecursion (λ p. Holds held p.place) (cons_option (option_map (λ e. record { ring = s.ring; place = place; entry = e }) o) (served s held asked))
    one rest None is = rest
    one rest (Some e) is = ((e, is), rest)

placed_all : (s : Settings) (held : HeldPlaces) (seq : ℕ) (now : List Entry) → ((place : ℕ) → seq < place → place ≤ seq + length now → Holds held place) → AllByRecursion (λ p. Holds held p.place) (placed s seq now)
placed_all s held seq [] h = tt
placed_all s held seq (e ∷ now) h = (h (suc seq) (omega arith) (omega arith), placed_all s held (suc seq) now (λ place low high. h place (omega arith) (omega arith)))

pub visit_stores : (s : Settings) (w : World) (n : ℕ) (r : NodeState) (t : Token) → item w.nodes n ≡ Some r → ((u : Token) → Contains w.sent (frame.Token u) → u.hop ≤ t.hop) → Stores w → let v = visit_step s n r t in Stores (after w n (after_visit r t v) (map frame.Packet v.packets ++ frame.Token v.token ∷ []))
visit_stores s w n r t is most x =
    let v : VisitStep = visit_step s n r t in
    let new : NodeState = after_visit r t v in
    let now = take (burst_size s r t.seq) r.waiting in
    let there : item (with_item w.nodes n new) n ≡ Some new = item_with_same w.nodes n new r is in
    let holds : All (λ p. Holds v.held p.place) v.packets = All-append (λ p. Holds v.held p.place) (served s r.held t.rtr) (placed s t.seq now)
    (All-from_recursion _ _ (wider_all v.held (served s r.held t.rtr) (burst_keeps s r.held t.seq now) (served_held s r.held t.rtr)))
    (All-from_recursion _ _ (placed_all s v.held t.seq now (burst_has s r.held t.seq now))) in
    let stored : All (Stored (with_item w.nodes n new) (suc t.hop)) (map frame.Packet v.packets) = All-map (Stored (with_item w.nodes n new) (suc t.hop)) frame.Packet v.packets (λ k d h. (n, new, there, holds k d h)) in
    let all : All (Stored (with_item w.nodes n new) (suc t.hop)) (map frame.Packet v.packets ++ frame.Token v.token ∷ []) = All-push (Stored (with_item w.nodes n new) (suc t.hop)) (map frame.Packet v.packets) (frame.Token v.token) stored (omega arith) in
    record {
      token = v.token;
      keeper = n;
      state = new;
      at = there;
      keeps = refl;
      frames = λ f c. ⊎_elim
          (λ old. old_frame new (burst_keeps s r.held t.seq now) f old)
          (λ here. All-contains (Stored (with_item w.nodes n new) (suc t.hop)) (map frame.Packet v.packets ++ frame.Token v.token ∷ []) f all here)
          (Contains-append_cases w.sent (map frame.Packet v.packets ++ frame.Token v.token ∷ []) f c);
    }
  where
    wider_all : (new : HeldPlaces) (ps : List Packet) → ((place : ℕ) → Holds r.held place → Holds new place) → AllByRecursion (λ p. Holds r.held p.place) ps → AllByRecursion (λ p. Holds new p.place) ps
    wider_all new [] h a = tt
    wider_all new (p ∷ ps) h a = (h p.place a.0, wider_all new ps h a.1)

    old_frame : (new : NodeState) → ((place : ℕ) → Holds r.held place → Holds new.held place) → (f : Frame) → Contains w.sent f → Stored (with_item w.nodes n new) (suc t.hop) f
    old_frame new wider (frame.Token u) c = let l = most u c in omega arith
    old_frame new wider (frame.Packet p) c = stored_later w.nodes n r new x.token.hop x.token.hop (frame.Packet p) is (record { at = wider }) (omega arith) (x.frames (frame.Packet p) c)

node_stores : (w : World) (n : ℕ) (move : NodeState → RingOutcome) → Stores w → ((r : NodeState) → item w.nodes n ≡ Some r → Stores (after w n (move r).0 (move r).1)) → (o : Option NodeState) → item w.nodes n ≡ o → Stores (moved w n o move)
node_stores w n move x there None is = x
node_stores w n move x there (Some r) is = there r is

same_wider : (r : NodeState) → Wider r r
same_wider r = record { at = λ place h. h }

none_sent : (w : World) (f : Frame) → Contains [] f → Contains w.sent f
none_sent w f c = absurd (contains_none f c)

-- the newest token's hop is the greatest
pub most_hop : (s : Settings) (w : World) (g : Good s w) (u : Token) → Contains w.sent (frame.Token u) → u.hop ≤ g.newest.hop
most_hop s w g u c = ⊎_elim
    (λ (same : u ≡ g.newest). subst (λ (t : Token). t.hop ≤ g.newest.hop) (sym same) (omega arith))
    (λ (lower : u.hop < g.newest.hop). omega arith)
    (newest_or_lower s w g.list g.tokens g.newest u g.inv c)

pub kept_stores : (s : Settings) (w : World) (e : Event) → Good s w → Stores w → Stores (happens s w e)
kept_stores s w (Enqueue e) g x = node_stores w e.node (enqueue e) x (λ r is. by_room r is (is_full r)) (item w.nodes e.node) refl
  where
    moves : NodeState → Bool → RingOutcome
    moves r b = if b then (r, []) else (record r { waiting = r.waiting ++ e ∷ [] }, [])

    by_room : (r : NodeState) → item w.nodes e.node ≡ Some r → (b : Bool) → Stores (after w e.node (moves r b).0 (moves r b).1)
    by_room r is true = stores_quiet w e.node r r [] is (none_sent w) (same_wider r) refl x
    by_room r is false = stores_quiet w e.node r _ [] is (none_sent w) (record { at = λ place h. h }) refl x
kept_stores s w (EnqueueEnd e) g x = node_stores w e.node _ x (λ r is. stores_quiet w e.node r _ [] is (none_sent w) (record { at = λ place h. h }) refl x) (item w.nodes e.node) refl
kept_stores s w (Deliver n) g x = node_stores w n deliver x (λ r is. by_held r is (is_held r.held (suc r.delivered))) (item w.nodes n) refl
  where
    moves : NodeState → Bool → RingOutcome
    moves r b = if b then (record r { delivered = suc r.delivered }, []) else (r, [])

    by_held : (r : NodeState) → item w.nodes n ≡ Some r → (b : Bool) → Stores (after w n (moves r b).0 (moves r b).1)
    by_held r is true = stores_quiet w n r _ [] is (none_sent w) (record { at = λ place h. h }) refl x
    by_held r is false = stores_quiet w n r r [] is (none_sent w) (same_wider r) refl x
kept_stores s w (Timer n) g x = node_stores w n _ x (λ r is. by_sent r is r.last_token refl) (item w.nodes n) refl
  where
    by_sent : (r : NodeState) → item w.nodes n ≡ Some r → (o : Option Token) → r.last_token ≡ o → Stores (after w n (send_again r o).0 (send_again r o).1)
    by_sent r is None e = stores_quiet w n r r [] is (none_sent w) (same_wider r) refl x
    by_sent r is (Some t) e = stores_quiet w n r r (frame.Token t ∷ []) is (λ f c. subst (Contains w.sent) (contains_one (frame.Token t) f c) ((g.inv.nodes n r is).resent t e)) (same_wider r) refl x
kept_stores s w (Arrive n k) g x = node_stores w n (receive s n (item w.sent k)) x (λ r is. gets r is (item w.sent k) (λ f e. contains_item w.sent k f e)) (item w.nodes n) refl
  where
    packet : (r : NodeState) (p : Packet) → item w.nodes n ≡ Some r → (o : Option Refusal) → Stores (after w n (receive_data r p o).0 (receive_data r p o).1)
    packet r p is (Some why) = stores_quiet w n r r [] is (none_sent w) (same_wider r) refl x
    packet r p is None = stores_quiet w n r _ [] is (none_sent w) (record { at = put_holds r.held p.place p.entry }) refl x

    token : (r : NodeState) (t : Token) → item w.nodes n ≡ Some r → Contains w.sent (frame.Token t) → (o : Option Refusal) → token_refusal s n r t ≡ o → Stores (after w n (receive_token s n r t o).0 (receive_token s n r t o).1)
    token r t is sent (Some why) e = stores_quiet w n r r [] is (none_sent w) (same_wider r) refl x
    token r t is sent None e =
        let same : t ≡ g.newest = (accepted_is_newest s w g.list g.tokens g.newest t n r g.inv sent is e).0 in
        visit_stores s w n r t is (λ u c. subst (λ (y : Token). u.hop ≤ y.hop) (sym same) (most_hop s w g u c)) x

    gets : (r : NodeState) → item w.nodes n ≡ Some r → (o : Option Frame) → ((f : Frame) → o ≡ Some f → Contains w.sent f) → Stores (after w n (receive s n o r).0 (receive s n o r).1)
    gets r is None sent = stores_quiet w n r r [] is (none_sent w) (same_wider r) refl x
    gets r is (Some (frame.Packet p)) sent = packet r p is (data_refusal s r p)
    gets r is (Some (frame.Token t)) sent = token r t is (sent (frame.Token t) refl) (token_refusal s n r t) refl

pub all_stores : (s : Settings) (w : World) (events : List Event) → Good s w → Stores w → Stores (run s w events)
all_stores s w [] g x = x
all_stores s w (e ∷ events) g x = all_stores s (happens s w e) events (kept s w e g).good (kept_stores s w e g x)

-- at first the last node has sent the first token
start_stores : (s : Settings) → 1 ≤ s.nodes → Stores (start s)
start_stores s some = record {
  token = first_token s;
  keeper = s.nodes;
  state = new_node s s.nodes;
  at = last s.nodes some;
  keeps = ap (λ b. if b then Some (first_token s) else None) (eq-eqb s.nodes s.nodes refl);
  frames = λ f c. subst (Stored (start s).nodes 0) (contains_one (frame.Token (first_token s)) f c) (omega arith);
}
  where
    last : (n : ℕ) → 1 ≤ n → item (map (new_node s) (up_to n)) n ≡ Some (new_node s n)
    last zero h = absurd (omega arith)
    last (suc n) h = slice_get-map (new_node s) (up_to n ++ suc n ∷ []) n ∙ ap (option_map (new_node s)) (subst (λ k. slice_get (up_to n ++ suc n ∷ []) k ≡ Some (suc n)) (length-up_to n) (get_end (up_to n) (suc n) []))

pub reached_stores : (s : Settings) (w : World) → 1 ≤ s.nodes → Reached s w → Stores w
reached_stores s w some led = subst Stores led.1 (all_stores s (start s) led.0 (reached s (start s) ([], refl)) (start_stores s some))

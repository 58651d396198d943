-- Every schedule keeps the invariant, and what follows from it.
use Rattle.std.proofs.Common.{◌≡◌, ◌≢◌, ℕ, zero, suc, ◌+◌, ◌≤◌, min, Bool, true, false, not, true≢false, cond, List, [], ◌∷◌, ◌++◌, length, take, drop, map, Option, Some, None, Contains, All, refl, sym, ap, ◌∙◌, subst, ⊎_elim, arith, slice_get, length-take, if◌then◌else◌, ◌==◌, nat_lt, is_some, append-nil, option_map, length-append, append_assoc, take-append-drop, eq-eqb, ne_eqb}
use Rattle.std.proofs.lemmas.List.{length-map}
use Rattle.std.specs.FinMap.{get, get-empty}
use Rattle.std.proofs.lemmas.Option.{none-some, same_Some, slice_get-map}
use Rattle.std.proofs.lemmas.Bool.{cases_eq}
use Rattle.std.specs.List.{AllByRecursion}
use Rattle.std.proofs.lemmas.List.Elements.{recursion_from_All, All-nil, All-push, All-take, All-drop, filter-append}
use Rattle.cpg_entry.specs.declared.frames.Frame.TheVariants as frame
use Rattle.cpg_ring.specs.States.{Entry, Packet, Token, Frame, Refusal, Settings, NodeState, is_held, safe_mark}
use Rattle.cpg_cred.specs.declared.refusals.Refusal.TheVariants.{Foreign, Held, FarAhead, Implausible}
use Rattle.cpg_ring.specs.Visits.{node_of, token_refusal, burst_size, visit_step, up_to}
use Rattle.cpg_ring.specs.Moves.{data_refusal, is_full, after_entry, new_node, first_token}
use Rattle.cpg_ring.specs.Worlds.{World, Event, Enqueue, EnqueueEnd, Arrive, Timer, Deliver, RingOutcome, item, with_item, enqueue, enqueue_end, accept, receive, receive_token, receive_data, send_again, deliver, moved, happens, run, start, Reached}
use Rattle.cpg_ring.specs.Claims.{Chain, Agreement, Safe, OnceInOrder, by_node, waiting_at, ring_entries, if_room, if_there, admits, admitted}
use Rattle.cpg_ring.proofs.Lists.{contains_none, contains_one, item_within, contains_item, item_there, item_with_same, item_with_other}
use Rattle.cpg_ring.proofs.Holding.{put_agrees, put_grows}
use Rattle.cpg_ring.proofs.Invariant.{Inv, NodeFits, FrameFits, after, node_later, quiet}
use Rattle.cpg_ring.proofs.Refusals.{newest_goes, accepted_is_newest, lower_is_refused}
use Rattle.cpg_ring.proofs.Visits.{visited}
use Rattle.cpg_ring.proofs.Agreed.{agreed_is}
use Rattle.cpg_ring.proofs.Tours.{Tours, Alike, tours_quiet, tours_visit}

pub record Good (s : Settings) (w : World) : Type 0 where
  pub list : List Entry
  pub tokens : List Token
  pub newest : Token
  pub inv : Inv s w list tokens newest
  pub tours : Tours s w newest

-- a new world
begins : (s : Settings) → Inv s (start s) [] (first_token s ∷ []) (first_token s)
begins s = record {
  frames = λ f c. subst (FrameFits s [] (first_token s ∷ [])) (contains_one (frame.Token (first_token s)) f c) (refl, refl);
  entries = λ place e g. absurd (let w = item_within [] place e g in omega arith);
  tokens = λ h t g. first h t g;
  newest = refl;
  hops = refl;
  count = refl;
  enough = omega arith;
  room = omega arith;
  past = λ h r before at. absurd (omega arith);
  nodes = λ n r at. new n r at;
}
  where
    first : (h : ℕ) (t : Token) → slice_get (first_token s ∷ []) h ≡ Some t → (t.hop ≡ h) × Contains (frame.Token (first_token s) ∷ []) (frame.Token t)
    first zero t e = (ap (λ (u : Token). u.hop) (sym (same_Some (first_token s) t e)), (0, omega arith, ap frame.Token (same_Some (first_token s) t e)))
    first (suc h) t e = absurd (none-some t e)

    fresh : (m n : ℕ) → NodeFits [] 0 (frame.Token (first_token s) ∷ []) n (new_node s m)
    fresh m n = record {
      held = record { at = λ place e g. absurd (none-some e (sym (get-empty _ place) ∙ g)) };
      delivered = λ place h l. absurd (omega arith);
      before = λ h e. absurd (none-some h e);
      resent = λ t e. resent (m == s.nodes) t e;
      own = All-nil (λ e. e.node ≡ n);
    }
      where
        resent : (b : Bool) (t : Token) → (if b then Some (first_token s) else None) ≡ Some t → Contains (frame.Token (first_token s) ∷ []) (frame.Token t)
        resent true t e = (0, omega arith, ap frame.Token (same_Some (first_token s) t e))
        resent false t e = absurd (none-some t e)

    made : (o : Option ℕ) (n : ℕ) (r : NodeState) → option_map (new_node s) o ≡ Some r → NodeFits [] 0 (frame.Token (first_token s) ∷ []) n r
    made None n r e = absurd (none-some r e)
    made (Some m) n r e = subst (NodeFits [] 0 (frame.Token (first_token s) ∷ []) n) (same_Some (new_node s m) r e) (fresh m n)

    new : (n : ℕ) (r : NodeState) → item (map (new_node s) (up_to s.nodes)) n ≡ Some r → NodeFits [] 0 (frame.Token (first_token s) ∷ []) n r
    new zero r e = absurd (none-some r e)
    new (suc k) r e = made (slice_get (up_to s.nodes) k) (suc k) r (sym (slice_get-map (new_node s) (up_to s.nodes) k) ∙ e)

pub length-up_to : (n : ℕ) → length (up_to n) ≡ n
length-up_to zero = refl
length-up_to (suc n) = let e = length-up_to n in let l = length-append (up_to n) (suc n ∷ []) in omega arith

tours_begin : (s : Settings) → Tours s (start s) (first_token s)
tours_begin s = record {
  nodes = length-map (up_to s.nodes) (new_node s) ∙ length-up_to s.nodes;
  aru = omega arith;
  window = λ n r h at e. absurd (none-some h (sym (fresh n r at).0 ∙ e));
  unvisited = λ n r at e. ((item_within (map (new_node s) (up_to s.nodes)) n r at).0, (fresh n r at).1);
  tour = λ n r h a rest at e. absurd (none-some h (sym (fresh n r at).0 ∙ e));
  safe = λ n m r q place at at' low high. absurd (let l = subst (λ a. place ≤ safe_mark a) (fresh n r at).1 high in omega arith);
}
  where
    made : (o : Option ℕ) (r : NodeState) → option_map (new_node s) o ≡ Some r → (r.last_hop ≡ None) × (r.arus ≡ [])
    made None r e = absurd (none-some r e)
    made (Some m) r e = subst (λ (x : NodeState). (x.last_hop ≡ None) × (x.arus ≡ [])) (same_Some (new_node s m) r e) (refl, refl)

    fresh : (n : ℕ) (r : NodeState) → item (map (new_node s) (up_to s.nodes)) n ≡ Some r → (r.last_hop ≡ None) × (r.arus ≡ [])
    fresh zero r e = absurd (none-some r e)
    fresh (suc k) r e = made (slice_get (up_to s.nodes) k) r (sym (slice_get-map (new_node s) (up_to s.nodes) k) ∙ e)

-- what an event of a node that is there leaves, where it admits these
record Moved (s : Settings) (w : World) (n : ℕ) (r new : NodeState) (frames : List Frame) (g : Good s w) (put : List Entry) : Type 0 where
  good : Good s (after w n new frames)
  turns : by_node n good.list ++ new.waiting ≡ (by_node n g.list ++ r.waiting) ++ put
  others : (m : ℕ) → m ≢ n → by_node m good.list ≡ by_node m g.list

-- what any event leaves, where it admits these at each node
pub record Next (s : Settings) (w w' : World) (g : Good s w) (put : ℕ → List Entry) : Type 0 where
  pub good : Good s w'
  pub turns : (m : ℕ) → by_node m good.list ++ waiting_at (item w'.nodes m) ≡ (by_node m g.list ++ waiting_at (item w.nodes m)) ++ put m

-- an event of a node that is not there does nothing
at_node : (s : Settings) (w : World) (n : ℕ) (move : NodeState → RingOutcome) (g : Good s w) (put : ℕ → List Entry) → ((m : ℕ) → m ≢ n → put m ≡ []) → (item w.nodes n ≡ None → put n ≡ []) → ((r : NodeState) → item w.nodes n ≡ Some r → Moved s w n r (move r).0 (move r).1 g (put n)) → (o : Option NodeState) → item w.nodes n ≡ o → Next s w (moved w n o move) g put
at_node s w n move g put apart none there None is = record {
  good = g;
  turns = λ m. ⊎_elim
      (λ (same : m ≡ n). nothing m (ap put same ∙ none is))
      (λ (other : m ≢ n). nothing m (apart m other))
      (cases_eq m n);
}
  where
    nothing : (m : ℕ) → put m ≡ [] → by_node m g.list ++ waiting_at (item w.nodes m) ≡ (by_node m g.list ++ waiting_at (item w.nodes m)) ++ put m
    nothing m e = sym (append-nil _) ∙ ap (λ p. (by_node m g.list ++ waiting_at (item w.nodes m)) ++ p) (sym e)
at_node s w n move g put apart none there (Some r) is = record { good = d.good; turns = turns }
  where
    new : NodeState
    new = (move r).0

    d : Moved s w n r (move r).0 (move r).1 g (put n)
    d = there r is

    turns : (m : ℕ) → by_node m d.good.list ++ waiting_at (item (with_item w.nodes n (move r).0) m) ≡ (by_node m g.list ++ waiting_at (item w.nodes m)) ++ put m
    turns m = ⊎_elim
        (λ (same : m ≡ n). subst (λ k. by_node k d.good.list ++ waiting_at (item (with_item w.nodes n (move r).0) k) ≡ (by_node k g.list ++ waiting_at (item w.nodes k)) ++ put k) (sym same)
        (ap (λ o. by_node n d.good.list ++ waiting_at o) (item_with_same w.nodes n (move r).0 r is) ∙ (d.turns ∙ ap (λ o. (by_node n g.list ++ waiting_at o) ++ put n) (sym is))))
        (λ (other : m ≢ n). ap (λ o. by_node m d.good.list ++ waiting_at o) (item_with_other w.nodes n m (move r).0 other) ∙ (ap (λ l. l ++ waiting_at (item w.nodes m)) (d.others m other) ∙ (sym (append-nil _) ∙ ap (λ p. (by_node m g.list ++ waiting_at (item w.nodes m)) ++ p) (sym (apart m other)))))
        (cases_eq m n)

stays : (s : Settings) (w : World) (n : ℕ) (r new : NodeState) (frames : List Frame) (g : Good s w) (put : List Entry) → new.waiting ≡ r.waiting ++ put → item w.nodes n ≡ Some r → ((f : Frame) → Contains frames f → Contains w.sent f) → Alike r new → NodeFits g.list g.newest.hop (w.sent ++ frames) n new → Moved s w n r new frames g put
stays s w n r new frames g put more is again alike fits = record {
  good = record { list = g.list; tokens = g.tokens; newest = g.newest; inv = quiet s w g.list g.tokens g.newest n r new frames g.inv is again (sym alike.last_hop) fits; tours = tours_quiet s w g.newest n r new frames is alike g.tours };
  turns = ap (λ x. by_node n g.list ++ x) more ∙ sym (append_assoc (by_node n g.list) r.waiting put);
  others = λ m apart. refl;
}

same_holding : (r new : NodeState) → new.last_hop ≡ r.last_hop → new.arus ≡ r.arus → new.held ≡ r.held → Alike r new
same_holding r new a b c = record { last_hop = a; arus = b; grows = record { at = λ q x e. ap (λ h. get h q) c ∙ e } }

unchanged : (r : NodeState) → Alike r r
unchanged r = same_holding r r refl refl refl

none_sent : (w : World) (f : Frame) → Contains [] f → Contains w.sent f
none_sent w f c = absurd (contains_none f c)

-- what held of the node holds after
as_before : (s : Settings) (w : World) (n : ℕ) (r : NodeState) (g : Good s w) (frames : List Frame) → item w.nodes n ≡ Some r → NodeFits g.list g.newest.hop (w.sent ++ frames) n r
as_before s w n r g frames is = subst (λ B. NodeFits B g.newest.hop (w.sent ++ frames) n r) (append-nil g.list) (node_later g.list [] g.newest.hop g.newest.hop w.sent frames n r (omega arith) (g.inv.nodes n r is))

-- one entry more waits
waits : (s : Settings) (w : World) (e : Entry) (r : NodeState) (g : Good s w) → item w.nodes e.node ≡ Some r → Moved s w e.node r (after_entry r e) [] g (e ∷ [])
waits s w e r g is =
    let f = as_before s w e.node r g [] is in
    stays s w e.node r _ [] g (e ∷ []) refl is (none_sent w) (same_holding r _ refl refl refl) record {
      held = f.held;
      delivered = f.delivered;
      before = f.before;
      resent = f.resent;
      own = All-push (λ x. x.node ≡ e.node) r.waiting e f.own refl;
    }

enqueues : (s : Settings) (w : World) (e : Entry) (r : NodeState) (g : Good s w) → item w.nodes e.node ≡ Some r → Moved s w e.node r (enqueue e r).0 (enqueue e r).1 g (if_room (Some r) e)
enqueues s w e r g is = by_room (is_full r)
  where
    moves : Bool → RingOutcome
    moves b = if b then (r, []) else (after_entry r e, [])

    by_room : (b : Bool) → Moved s w e.node r (moves b).0 (moves b).1 g (if b then [] else e ∷ [])
    by_room true = stays s w e.node r r [] g [] (sym (append-nil r.waiting)) is (none_sent w) (unchanged r) (as_before s w e.node r g [] is)
    by_room false = waits s w e r g is

delivers : (s : Settings) (w : World) (n : ℕ) (r : NodeState) (g : Good s w) → item w.nodes n ≡ Some r → Moved s w n r (deliver r).0 (deliver r).1 g []
delivers s w n r g is = by_held (get r.held (suc r.delivered)) refl
  where
    f : NodeFits g.list g.newest.hop (w.sent ++ []) n r
    f = as_before s w n r g [] is

    moves : Option Entry → RingOutcome
    moves o = if is_some o then (record r { delivered = suc r.delivered }, []) else (r, [])

    by_held : (o : Option Entry) → get r.held (suc r.delivered) ≡ o → Moved s w n r (moves o).0 (moves o).1 g []
    by_held (Some e) there = stays s w n r _ [] g [] (sym (append-nil r.waiting)) is (none_sent w) (same_holding r _ refl refl refl) record {
      held = f.held;
      delivered = λ place h l. ⊎_elim
          (λ (same : place ≡ suc r.delivered). (e, ap (get r.held) same ∙ there))
          (λ (apart : place ≢ suc r.delivered). f.delivered place h (omega arith))
          (cases_eq place (suc r.delivered));
      before = f.before;
      resent = f.resent;
      own = f.own;
    }
    by_held None there = stays s w n r r [] g [] (sym (append-nil r.waiting)) is (none_sent w) (unchanged r) f

times_out : (s : Settings) (w : World) (n : ℕ) (r : NodeState) (g : Good s w) → item w.nodes n ≡ Some r → Moved s w n r (send_again r r.last_token).0 (send_again r r.last_token).1 g []
times_out s w n r g is = by_sent r.last_token refl
  where
    by_sent : (o : Option Token) → r.last_token ≡ o → Moved s w n r (send_again r o).0 (send_again r o).1 g []
    by_sent None e = stays s w n r r [] g [] (sym (append-nil r.waiting)) is (none_sent w) (unchanged r) (as_before s w n r g [] is)
    by_sent (Some t) e = stays s w n r r (frame.Token t ∷ []) g [] (sym (append-nil r.waiting)) is (λ f c. subst (Contains w.sent) (contains_one (frame.Token t) f c) ((g.inv.nodes n r is).resent t e)) (unchanged r) (as_before s w n r g (frame.Token t ∷ []) is)

data_refused : (a b c d : Bool) → (if not a then Some Foreign else if b then Some Implausible else if c then Some Held else if d then Some FarAhead else None) ≡ None → c ≡ false
data_refused false b c d h = absurd (none-some Foreign (sym h))
data_refused true true c d h = absurd (none-some Implausible (sym h))
data_refused true false true d h = absurd (none-some Held (sym h))
data_refused true false false d h = refl

not_held : (o : Option Entry) → is_some o ≡ false → o ≡ None
not_held None h = refl
not_held (Some e) h = absurd (true≢false h)

gets_data : (s : Settings) (w : World) (n : ℕ) (r : NodeState) (p : Packet) (g : Good s w) → item w.nodes n ≡ Some r → Contains w.sent (frame.Packet p) → (o : Option Refusal) → data_refusal s r p ≡ o → Moved s w n r (receive_data r p o).0 (receive_data r p o).1 g []
gets_data s w n r p g is sent (Some why) refused = stays s w n r r [] g [] (sym (append-nil r.waiting)) is (none_sent w) (unchanged r) (as_before s w n r g [] is)
gets_data s w n r p g is sent None ok =
    let f = as_before s w n r g [] is in
    let free = not_held (get r.held p.place) (data_refused (p.ring == s.ring) (nat_lt s.places p.place) (is_held r.held p.place) (nat_lt (r.delivered + 64) p.place) ok) in
    let grows = put_grows r.held p.place p.entry free in
    stays s w n r _ [] g [] (sym (append-nil r.waiting)) is (none_sent w) record { last_hop = refl; arus = refl; grows = grows } record {
      held = put_agrees r.held g.list p.place p.entry f.held (g.inv.frames (frame.Packet p) sent).1;
      delivered = λ place h l. let d = f.delivered place h l in (d.0, grows.at place d.0 d.1);
      before = f.before;
      resent = f.resent;
      own = f.own;
    }

pub all_own : (n : ℕ) (entries : List Entry) → AllByRecursion (λ e. e.node ≡ n) entries → by_node n entries ≡ entries
all_own n [] h = refl
all_own n (e ∷ entries) h = ap (λ b. cond b (e ∷ by_node n entries) (by_node n entries)) (eq-eqb e.node n h.0) ∙ ap (λ l. e ∷ l) (all_own n entries h.1)

none_of_another : (n m : ℕ) (entries : List Entry) → m ≢ n → AllByRecursion (λ e. e.node ≡ n) entries → by_node m entries ≡ []
none_of_another n m [] apart h = refl
none_of_another n m (e ∷ entries) apart h = ap (λ b. cond b (e ∷ by_node m entries) (by_node m entries)) (ne_eqb e.node m (λ same. apart (sym same ∙ h.0))) ∙ none_of_another n m entries apart h.1

gets_token : (s : Settings) (w : World) (n : ℕ) (r : NodeState) (t : Token) (g : Good s w) → item w.nodes n ≡ Some r → Contains w.sent (frame.Token t) → (o : Option Refusal) → token_refusal s n r t ≡ o → Moved s w n r (receive_token s n r t o).0 (receive_token s n r t o).1 g []
gets_token s w n r t g is sent (Some why) refused = stays s w n r r [] g [] (sym (append-nil r.waiting)) is (none_sent w) (unchanged r) (as_before s w n r g [] is)
gets_token s w n r t g is sent None ok =
    let newest = accepted_is_newest s w g.list g.tokens g.newest t n r g.inv sent is ok in
    let mine : node_of s g.newest.hop ≡ n = ap (λ (u : Token). node_of s u.hop) (sym newest.0) ∙ newest.1 in
    let own = (g.inv.nodes n r is).own in
    let k = burst_size s r g.newest.seq in
    let room = g.inv.room in
    let l : length (take k r.waiting) ≡ min k (length r.waiting) = length-take k r.waiting in
    let inv = visited s w g.list g.tokens g.newest n r (take k r.waiting) (drop k r.waiting) g.inv is mine (omega arith) (All-drop (λ e. e.node ≡ n) k r.waiting own) in
    let now = take k r.waiting in
    let rest = drop k r.waiting in
    let own_now : All (λ e. e.node ≡ n) now = All-take (λ e. e.node ≡ n) k r.waiting own in
    subst (λ u. Moved s w n r (accept r u (visit_step s n r u)).0 (accept r u (visit_step s n r u)).1 g []) (sym newest.0) record {
      good = record { list = _; tokens = _; newest = _; inv = inv; tours = tours_visit s w g.list g.tokens g.newest n r now rest _ g.inv g.tours is mine };
      turns =
          ap (λ l. l ++ rest) (filter-append (λ e. e.node == n) g.list now ∙ ap (λ l. by_node n g.list ++ l) (all_own n now (recursion_from_All (λ e. e.node ≡ n) now own_now)))
          ∙ (append_assoc (by_node n g.list) now rest ∙ (ap (λ l. by_node n g.list ++ l) (take-append-drop k r.waiting) ∙ sym (append-nil _)));
      others = λ m apart. filter-append (λ e. e.node == m) g.list now ∙ (ap (λ l. by_node m g.list ++ l) (none_of_another n m now apart (recursion_from_All (λ e. e.node ≡ n) now own_now)) ∙ append-nil _);
    }

gets : (s : Settings) (w : World) (n : ℕ) (r : NodeState) (g : Good s w) → item w.nodes n ≡ Some r → (o : Option Frame) → ((f : Frame) → o ≡ Some f → Contains w.sent f) → Moved s w n r (receive s n o r).0 (receive s n o r).1 g []
gets s w n r g is None sent = stays s w n r r [] g [] (sym (append-nil r.waiting)) is (none_sent w) (unchanged r) (as_before s w n r g [] is)
gets s w n r g is (Some (frame.Packet p)) sent = gets_data s w n r p g is (sent (frame.Packet p) refl) (data_refusal s r p) refl
gets s w n r g is (Some (frame.Token t)) sent = gets_token s w n r t g is (sent (frame.Token t) refl) (token_refusal s n r t) refl

pub kept : (s : Settings) (w : World) (e : Event) (g : Good s w) → Next s w (happens s w e) g (λ m. admits w m e)
kept s w (Enqueue e) g = at_node s w e.node (enqueue e) g (λ m. admits w m (Enqueue e))
    (λ m apart. ap (λ b. if b then if_room (item w.nodes m) e else []) (ne_eqb e.node m (λ same. apart (sym same))))
    (λ none. put_is ∙ ap (λ o. if_room o e) none)
    (λ r is. subst (Moved s w e.node r (enqueue e r).0 (enqueue e r).1 g) (ap (λ o. if_room o e) (sym is) ∙ sym put_is) (enqueues s w e r g is))
    (item w.nodes e.node) refl
  where
    put_is : admits w e.node (Enqueue e) ≡ if_room (item w.nodes e.node) e
    put_is = ap (λ b. if b then if_room (item w.nodes e.node) e else []) (eq-eqb e.node e.node refl)
kept s w (EnqueueEnd e) g = at_node s w e.node (enqueue_end e) g (λ m. admits w m (EnqueueEnd e))
    (λ m apart. ap (λ b. if b then if_there (item w.nodes m) e else []) (ne_eqb e.node m (λ same. apart (sym same))))
    (λ none. put_is ∙ ap (λ o. if_there o e) none)
    (λ r is. subst (Moved s w e.node r (enqueue_end e r).0 (enqueue_end e r).1 g) (ap (λ o. if_there o e) (sym is) ∙ sym put_is) (waits s w e r g is))
    (item w.nodes e.node) refl
  where
    put_is : admits w e.node (EnqueueEnd e) ≡ if_there (item w.nodes e.node) e
    put_is = ap (λ b. if b then if_there (item w.nodes e.node) e else []) (eq-eqb e.node e.node refl)
kept s w (Arrive n k) g = at_node s w n (receive s n (item w.sent k)) g (λ m. []) (λ m apart. refl) (λ none. refl) (λ r is. gets s w n r g is (item w.sent k) (λ f e. contains_item w.sent k f e)) (item w.nodes n) refl
kept s w (Timer n) g = at_node s w n (λ r. send_again r r.last_token) g (λ m. []) (λ m apart. refl) (λ none. refl) (λ r is. times_out s w n r g is) (item w.nodes n) refl
kept s w (Deliver n) g = at_node s w n deliver g (λ m. []) (λ m apart. refl) (λ none. refl) (λ r is. delivers s w n r g is) (item w.nodes n) refl

pub all_kept : (s : Settings) (w : World) (events : List Event) → Good s w → Good s (run s w events)
all_kept s w [] g = g
all_kept s w (e ∷ events) g = all_kept s (happens s w e) events (kept s w e g).good

from_start : (s : Settings) (events : List Event) → Good s (run s (start s) events)
from_start s events = all_kept s (start s) events record { list = []; tokens = first_token s ∷ []; newest = first_token s; inv = begins s; tours = tours_begin s }

pub reached : (s : Settings) (w : World) → Reached s w → Good s w
reached s w led = subst (Good s) led.1 (from_start s led.0)

same_packet : (p q : Packet) → p.ring ≡ q.ring → p.place ≡ q.place → p.entry ≡ q.entry → p ≡ q
same_packet p q a b c = λ i. record { ring = a i; place = b i; entry = c i }

pub chain : (s : Settings) (w : World) → Good s w → Chain s w
chain s w g = (
  g.tokens,
  g.newest,
  record {
    nodes = g.tours.nodes;
    sent_at_hop = g.inv.tokens;
    one_each_hop = λ t c. (g.inv.frames (frame.Token t) c).1;
    newest_is_last = (g.inv.hops, g.inv.newest);
    only_newest_accepted = λ n r t is sent ok. let k = accepted_is_newest s w g.list g.tokens g.newest t n r g.inv sent is ok in (k.0, sym k.1);
    newest_accepted = λ r is. newest_goes s w g.list g.tokens g.newest r g.inv is;
    older_refused = λ n r t is sent lower. lower_is_refused s w g.list g.tokens g.newest t n r g.inv sent is lower;
    one_packet_each_place = λ p q a b same.
        let f = g.inv.frames (frame.Packet p) a in
        let h = g.inv.frames (frame.Packet q) b in
        same_packet p q (f.0 ∙ sym h.0) same (same_Some p.entry q.entry (sym f.1 ∙ (ap (item g.list) same ∙ h.1)));
    places_without_gap = λ place. (λ l. there place l.0 l.1, λ x. within place x.0 x.1 x.2);
  },
)
  where
    count : length g.list ≡ g.newest.seq
    count = g.inv.count

    there : (place : ℕ) → 1 ≤ place → place ≤ g.newest.seq → (p : Packet) × (Contains w.sent (frame.Packet p)) × (p.place ≡ place)
    there place h l = let e = item_there g.list place h (omega arith) in (record { ring = s.ring; place = place; entry = e.0 }, g.inv.entries place e.0 e.1, refl)

    within : (place : ℕ) (p : Packet) → Contains w.sent (frame.Packet p) → p.place ≡ place → (1 ≤ place) × (place ≤ g.newest.seq)
    within place p c at = let l = item_within g.list p.place p.entry (g.inv.frames (frame.Packet p) c).1 in (omega arith, omega arith)

pub agreement : (s : Settings) (w : World) → Good s w → Agreement s w
agreement s w g = record {
  held_as_agreed = λ n r place e is held. ap (λ A. item A place) (agreed_is s w g.list g.tokens g.newest g.inv) ∙ (g.inv.nodes n r is).held.at place e held;
  delivered_held = λ n r place is. (g.inv.nodes n r is).delivered place;
}

pub every_safe : (s : Settings) (w : World) → Good s w → Safe s w
every_safe s w g = record { held_up_to_mark = λ n m r q place. g.tours.safe n m r q place }

turn_is : (s : Settings) (w : World) (g : Good s w) (n : ℕ) → ring_entries w n ≡ by_node n g.list ++ waiting_at (item w.nodes n)
turn_is s w g n = ap (λ A. by_node n A ++ waiting_at (item w.nodes n)) (agreed_is s w g.list g.tokens g.newest g.inv)

one_turn : (s : Settings) (w : World) (e : Event) → Good s w → (n : ℕ) → ring_entries (happens s w e) n ≡ ring_entries w n ++ admits w n e
one_turn s w e g n =
    let next = kept s w e g in
    turn_is s (happens s w e) next.good n ∙ (next.turns n ∙ ap (λ l. l ++ admits w n e) (sym (turn_is s w g n)))

pub all_turns : (s : Settings) (w : World) (events : List Event) → Good s w → (n : ℕ) → ring_entries (run s w events) n ≡ ring_entries w n ++ admitted s w n events
all_turns s w [] g n = sym (append-nil (ring_entries w n))
all_turns s w (e ∷ events) g n =
    all_turns s (happens s w e) events (kept s w e g).good n
    ∙ (ap (λ l. l ++ admitted s (happens s w e) n events) (one_turn s w e g n) ∙ append_assoc (ring_entries w n) (admits w n e) (admitted s (happens s w e) n events))

pub from_new : (s : Settings) (n : ℕ) (events : List Event) → ring_entries (run s (start s) events) n ≡ admitted s (start s) n events
from_new s n events = all_turns s (start s) events (from_start s []) n ∙ ap (λ l. l ++ admitted s (start s) n events) (nothing (item (start s).nodes n) refl)
  where
    made : (o : Option ℕ) (r : NodeState) → option_map (new_node s) o ≡ Some r → r.waiting ≡ []
    made None r e = absurd (none-some r e)
    made (Some m) r e = ap (λ (x : NodeState). x.waiting) (sym (same_Some (new_node s m) r e))

    fresh : (k : ℕ) (r : NodeState) → item (start s).nodes k ≡ Some r → r.waiting ≡ []
    fresh zero r e = absurd (none-some r e)
    fresh (suc k) r e = made (slice_get (up_to s.nodes) k) r (sym (slice_get-map (new_node s) (up_to s.nodes) k) ∙ e)

    nothing : (o : Option NodeState) → item (start s).nodes n ≡ o → waiting_at o ≡ []
    nothing None is = refl
    nothing (Some r) is = fresh n r is

pub in_order : (s : Settings) (w : World) → Reached s w → OnceInOrder s w
in_order s w led = record {
  placed_as_admitted = λ n events is. ap (λ v. ring_entries v n) (sym is) ∙ from_new s n events;
  later_after = λ n events. all_turns s w events (reached s w led) n;
}

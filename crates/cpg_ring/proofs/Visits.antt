-- A visit keeps what every event keeps.
use Rattle.std.proofs.Common.{◌≡◌, ◌≢◌, ◌⊎◌, ℕ, zero, suc, ◌+◌, ◌<◌, ◌≤◌, true, List, [], ◌∷◌, ◌++◌, length, map, Option, Some, None, Contains, All, refl, sym, ap, ◌∙◌, subst, inl, inr, ⊎_elim, arith, le-leb, append_assoc, append-nil, slice_get, length-append, option_map}
use Rattle.std.specs.List.{AllByRecursion, cons_option}
use Rattle.std.specs.FinMap.{get}
use Rattle.std.proofs.lemmas.Option.{none-some, same_Some}
use Rattle.std.proofs.lemmas.Bool.{cases_eq}
use Rattle.std.proofs.lemmas.List.{length-map, get_or-map}
use Rattle.std.proofs.lemmas.List.Elements.{All-from_recursion, All-append, All-map, All-push, All-contains, Contains-append_left, Contains-append_right, Contains-append_cases, Contains-push}
use Rattle.cpg_entry.specs.declared.frames.Frame.TheVariants as frame
use Rattle.cpg_ring.specs.States.{Entry, Packet, Token, Frame, Settings, HeldPlaces, NodeState}
use Rattle.cpg_ring.specs.Visits.{node_of, is_past, served, placed, visit_with, after_visit}
use Rattle.cpg_ring.specs.Worlds.{World, item}
use Rattle.cpg_ring.proofs.Lists.{with_item_cases, get_end, get_push_cases, item_front}
use Rattle.cpg_ring.proofs.Holding.{Agrees, Burst, burst_holds}
use Rattle.cpg_ring.proofs.Invariant.{Inv, NodeFits, FrameFits, after, node_later, frame_later}

-- a packet of what is agreed
abbrev pub PacketFits : Settings → List Entry → Packet → Type 0
PacketFits s A p = (p.ring ≡ s.ring) × (item A p.place ≡ Some p.entry)

packet : Settings → ℕ → Entry → Packet
packet s place e = record { ring = s.ring; place = place; entry = e }

served_fit : (s : Settings) (held : HeldPlaces) (A : List Entry) (asked : List ℕ) → Agrees held A → AllByRecursion (PacketFits s A) (served s held asked)
served_fit s held A [] h = tt
served_fit s held A (place ∷ asked) h = one (served_fit s held A asked h) (get held place) refl
  where
    one : AllByRecursion (PacketFits s A) (served s held asked) → (o : Option Entry) → get held place ≡ o → AllByRecursion (PacketFits s A) (cons_option (option_map (λ e. record { ring = s.ring; place = place; entry = e }) o) (served s held asked))
    one rest None is = rest
    one rest (Some e) is = ((refl, h.at place e is), rest)

more : (A : List Entry) (e : Entry) (seq : ℕ) → length A ≡ seq → length (A ++ e ∷ []) ≡ suc seq
more A e seq is = let l = length-append A (e ∷ []) in omega arith

placed_fit : (s : Settings) (A now : List Entry) (seq : ℕ) → length A ≡ seq → AllByRecursion (PacketFits s (A ++ now)) (placed s seq now)
placed_fit s A [] seq is = tt
placed_fit s A (e ∷ now) seq is =
    let whole : (A ++ e ∷ []) ++ now ≡ A ++ e ∷ now = append_assoc A (e ∷ []) now in
    ((refl, subst (λ n. item (A ++ e ∷ now) (suc n) ≡ Some e) is (get_end A e now)), subst (λ B. AllByRecursion (PacketFits s B) (placed s (suc seq) now)) whole (placed_fit s (A ++ e ∷ []) now (suc seq) (more A e seq is)))

contains_later : {X : Type 0} (y x : X) (xs : List X) → Contains xs x → Contains (y ∷ xs) x
contains_later y x xs c = let h = c.1 in (suc c.0, omega arith, c.2)

pub contains_map : {X Y : Type 0} (f : X → Y) (xs : List X) (x : X) → Contains xs x → Contains (map f xs) (f x)
contains_map f xs x c = (c.0, subst (λ n. c.0 < n) (sym (length-map xs f)) c.1, get_or-map f xs c.0 x (f x) c.1 ∙ ap f c.2)

-- an entry of the longer list was there, or is placed now
was_or_placed : (s : Settings) (A now : List Entry) (seq : ℕ) → length A ≡ seq → (place : ℕ) (e : Entry) → item (A ++ now) place ≡ Some e → (item A place ≡ Some e) ⊎ Contains (placed s seq now) (record { ring = s.ring; place = place; entry = e })
was_or_placed s A [] seq is place e h = inl (subst (λ B. item B place ≡ Some e) (append-nil A) h)
was_or_placed s A (x ∷ now) seq is place e h = ⊎_elim
    (λ old. ⊎_elim inl (λ t. inr (here t.0 t.1)) (push A x place e old))
    (λ c. inr (contains_later _ _ _ c))
    (was_or_placed s (A ++ x ∷ []) now (suc seq) (more A x seq is) place e (subst (λ B. item B place ≡ Some e) (sym (append_assoc A (x ∷ []) now)) h))
  where
    push : (A : List Entry) (x : Entry) (place : ℕ) (e : Entry) → item (A ++ x ∷ []) place ≡ Some e → (item A place ≡ Some e) ⊎ ((place ≡ suc (length A)) × (x ≡ e))
    push A x zero e h = absurd (none-some e h)
    push A x (suc k) e h = ⊎_elim inl (λ t. inr (ap suc t.0, t.1)) (get_push_cases A x k e h)

    here : place ≡ suc (length A) → x ≡ e → Contains (placed s seq (x ∷ now)) (record { ring = s.ring; place = place; entry = e })
    here at same = (0, omega arith, λ i. record { ring = s.ring; place = (ap suc (sym is) ∙ sym at) i; entry = same i })

length-placed : (s : Settings) (seq : ℕ) (now : List Entry) → length (placed s seq now) ≡ length now
length-placed s seq [] = refl
length-placed s seq (e ∷ now) = ap suc (length-placed s (suc seq) now)

-- what a visit_step sends
abbrev sends : Settings → ℕ → NodeState → Token → List Entry → List Entry → List Frame
sends s n r t now rest = map frame.Packet (served s r.held t.rtr ++ placed s t.seq now) ++ frame.Token (visit_with s n r t now rest).token ∷ []

pub visited : (s : Settings) (w : World) (A : List Entry) (C : List Token) (L : Token) (n : ℕ) (r : NodeState) (now rest : List Entry) → Inv s w A C L → item w.nodes n ≡ Some r → node_of s L.hop ≡ n → L.seq + length now ≤ s.places → All (λ e. e.node ≡ n) rest → let t' = (visit_with s n r L now rest).token in Inv s (after w n (after_visit r L (visit_with s n r L now rest)) (sends s n r L now rest)) (A ++ now) (C ++ t' ∷ []) t'
visited s w A C L n r now rest i is mine room own =
    let F = sends s n r L now rest in
    let v = visit_with s n r L now rest in
    let t' = v.token in
    let old = i.nodes n r is in
    let b : Burst r.held v.held (A ++ now) = burst_holds s r.held A now L.seq i.count old.held in
    let hops = i.hops in
    let count = i.count in
    let newest' : slice_get (C ++ t' ∷ []) (suc L.hop) ≡ Some t' = subst (λ h. slice_get (C ++ t' ∷ []) h ≡ Some t') (sym i.hops) (get_end C t' []) in
    let new_frames : All (FrameFits s (A ++ now) (C ++ t' ∷ [])) F =
    All-push (FrameFits s (A ++ now) (C ++ t' ∷ [])) (map frame.Packet (served s r.held L.rtr ++ placed s L.seq now)) (frame.Token t')
    (All-map (FrameFits s (A ++ now) (C ++ t' ∷ [])) frame.Packet (served s r.held L.rtr ++ placed s L.seq now)
    (All-append (PacketFits s (A ++ now)) (served s r.held L.rtr) (placed s L.seq now)
    (All-from_recursion (PacketFits s (A ++ now)) (served s r.held L.rtr) (served_fit s r.held (A ++ now) L.rtr (record { at = λ q x g. item_front A now q x (old.held.at q x g) })))
    (All-from_recursion (PacketFits s (A ++ now)) (placed s L.seq now) (placed_fit s A now L.seq i.count))))
    ((i.frames (frame.Token L) (i.tokens L.hop L i.newest).1).0, newest') in
    let sent_new : Contains F (frame.Token t') = Contains-push (map frame.Packet (served s r.held L.rtr ++ placed s L.seq now)) (frame.Token t') in
    let mine_fits : NodeFits (A ++ now) (suc L.hop) (w.sent ++ F) n (after_visit r L v) = record {
      held = b.agrees;
      delivered = λ place h l. let d = old.delivered place h l in (d.0, b.grows.at place d.0 d.1);
      before = λ h e. let k = same_Some L.hop h e in omega arith;
      resent = λ t e. Contains-append_right w.sent F (frame.Token t) (subst (λ (u : Token). Contains F (frame.Token u)) (same_Some t' t e) sent_new);
      own = own;
    } in
    record {
      frames = λ f c. ⊎_elim (λ a. frame_later s A now C (t' ∷ []) f (i.frames f a)) (λ a. All-contains (FrameFits s (A ++ now) (C ++ t' ∷ [])) F f new_frames a) (Contains-append_cases w.sent F f c);
      entries = λ place e g. ⊎_elim
          (λ a. Contains-append_left w.sent F _ (i.entries place e a))
          (λ c. Contains-append_right w.sent F _ (Contains-append_left (map frame.Packet (served s r.held L.rtr ++ placed s L.seq now)) (frame.Token t' ∷ []) _ (contains_map frame.Packet (served s r.held L.rtr ++ placed s L.seq now) _ (Contains-append_right (served s r.held L.rtr) (placed s L.seq now) _ c))))
          (was_or_placed s A now L.seq i.count place e g);
      tokens = λ h t g. ⊎_elim
          (λ a. let k = i.tokens h t a in (k.0, Contains-append_left w.sent F _ k.1))
          (λ (x : (h ≡ length C) × (t' ≡ t)). (sym (ap (λ (u : Token). u.hop) x.1) ∙ (i.hops ∙ sym x.0), Contains-append_right w.sent F _ (subst (λ (u : Token). Contains F (frame.Token u)) x.1 sent_new)))
          (get_push_cases C t' h t g);
      newest = newest';
      hops = let l = length-append C (t' ∷ []) in omega arith;
      count = let l = length-append A now in omega arith;
      enough =
          let e = i.enough in
          let l₁ = length-append w.sent F in
          let l₂ = length-append (map frame.Packet (served s r.held L.rtr ++ placed s L.seq now)) (frame.Token t' ∷ []) in
          let l₃ = length-map (served s r.held L.rtr ++ placed s L.seq now) frame.Packet in
          let l₄ = length-append (served s r.held L.rtr) (placed s L.seq now) in
          let l₅ = length-placed s L.seq now in
          omega arith;
      room = room;
      past = λ h q before at. ⊎_elim
          (λ (x : (node_of s h ≡ n) × (after_visit r L v ≡ q)). subst (λ (y : NodeState). is_past h y.last_hop ≡ true) x.1 (le-leb h L.hop (omega arith)))
          (λ (x : (node_of s h ≢ n) × (item w.nodes (node_of s h) ≡ Some q)). ⊎_elim
          (λ (same : h ≡ L.hop). absurd (x.0 (ap (node_of s) same ∙ mine)))
          (λ (apart : h ≢ L.hop). i.past h q (omega arith) x.1)
          (cases_eq h L.hop))
          (with_item_cases w.nodes n (node_of s h) (after_visit r L v) q at);
      nodes = λ m q at. ⊎_elim
          (λ (x : (m ≡ n) × (after_visit r L v ≡ q)). subst (λ (y : NodeState). NodeFits (A ++ now) (suc L.hop) (w.sent ++ F) m y) x.1 (subst (λ k. NodeFits (A ++ now) (suc L.hop) (w.sent ++ F) k (after_visit r L v)) (sym x.0) mine_fits))
          (λ (x : (m ≢ n) × (item w.nodes m ≡ Some q)). node_later A now L.hop (suc L.hop) w.sent F m q (omega arith) (i.nodes m q x.1))
          (with_item_cases w.nodes n m (after_visit r L v) q at);
    }

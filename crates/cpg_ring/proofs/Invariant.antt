-- What every event keeps. A is the agreed list, C the tokens by their hops, L the newest of them.
use Rattle.std.proofs.Common.{◌≡◌, ◌≢◌, ℕ, suc, ◌<◌, ◌≤◌, true, List, [], ◌++◌, length, Some, Contains, All, sym, subst, ⊎_elim, arith, append-nil, slice_get, length-append}
use Rattle.std.specs.FinMap.{get}
use Rattle.std.proofs.lemmas.List.Elements.{Contains-append_left, Contains-append_cases}
use Rattle.cpg_entry.specs.declared.frames.Frame.TheVariants as frame
use Rattle.cpg_ring.specs.States.{Entry, Token, Frame, Settings, NodeState}
use Rattle.cpg_ring.specs.Visits.{node_of, is_past}
use Rattle.cpg_ring.specs.Worlds.{World, item, with_item}
use Rattle.cpg_ring.proofs.Lists.{with_item_cases, get_front, item_front}
use Rattle.cpg_ring.proofs.Holding.{Agrees}

-- a data frame carries what is agreed at its place; a token is the one of its hop
abbrev pub FrameFits : Settings → List Entry → List Token → Frame → Type 0
FrameFits s A C (frame.Packet p) = (p.ring ≡ s.ring) × (item A p.place ≡ Some p.entry)
FrameFits s A C (frame.Token t) = (t.ring ≡ s.ring) × (slice_get C t.hop ≡ Some t)

pub record NodeFits (A : List Entry) (hop : ℕ) (sent : List Frame) (n : ℕ) (r : NodeState) : Type 0 where
  pub held : Agrees r.held A
  pub delivered : (place : ℕ) → 1 ≤ place → place ≤ r.delivered → (e : Entry) × (get r.held place ≡ Some e)
  pub before : (h : ℕ) → r.last_hop ≡ Some h → h < hop
  pub resent : (t : Token) → r.last_token ≡ Some t → Contains sent (frame.Token t)
  pub own : All (λ e. e.node ≡ n) r.waiting

pub record Inv (s : Settings) (w : World) (A : List Entry) (C : List Token) (L : Token) : Type 0 where
  pub frames : (f : Frame) → Contains w.sent f → FrameFits s A C f
  pub entries : (place : ℕ) (e : Entry) → item A place ≡ Some e → Contains w.sent (frame.Packet record { ring = s.ring; place = place; entry = e })
  pub tokens : (h : ℕ) (t : Token) → slice_get C h ≡ Some t → (t.hop ≡ h) × Contains w.sent (frame.Token t)
  pub newest : slice_get C L.hop ≡ Some L
  pub hops : suc L.hop ≡ length C
  pub count : length A ≡ L.seq
  pub enough : L.seq ≤ length w.sent
  pub room : L.seq ≤ s.places
  pub past : (h : ℕ) (r : NodeState) → h < L.hop → item w.nodes (node_of s h) ≡ Some r → is_past h r.last_hop ≡ true
  pub nodes : (n : ℕ) (r : NodeState) → item w.nodes n ≡ Some r → NodeFits A L.hop w.sent n r

-- node n is as given, and has sent these
abbrev pub after : World → ℕ → NodeState → List Frame → World
after w n r frames = record { nodes = with_item w.nodes n r; sent = w.sent ++ frames }

pub node_later : (A B : List Entry) (hop later : ℕ) (sent new : List Frame) (n : ℕ) (r : NodeState) → hop ≤ later → NodeFits A hop sent n r → NodeFits (A ++ B) later (sent ++ new) n r
node_later A B hop later sent new n r h f = record {
  held = record { at = λ q x g. item_front A B q x (f.held.at q x g) };
  delivered = f.delivered;
  before = λ l e. let b = f.before l e in omega arith;
  resent = λ t e. Contains-append_left sent new (frame.Token t) (f.resent t e);
  own = f.own;
}

pub frame_later : (s : Settings) (A B : List Entry) (C D : List Token) (f : Frame) → FrameFits s A C f → FrameFits s (A ++ B) (C ++ D) f
frame_later s A B C D (frame.Packet p) h = (h.0, item_front A B p.place p.entry h.1)
frame_later s A B C D (frame.Token t) h = (h.0, get_front C D t.hop t h.1)

-- an event of node n that takes no place and makes no token
pub quiet : (s : Settings) (w : World) (A : List Entry) (C : List Token) (L : Token) (n : ℕ) (r new : NodeState) (frames : List Frame) → Inv s w A C L → item w.nodes n ≡ Some r → ((f : Frame) → Contains frames f → Contains w.sent f) → r.last_hop ≡ new.last_hop → NodeFits A L.hop (w.sent ++ frames) n new → Inv s (after w n new frames) A C L
quiet s w A C L n r new frames i is again same fits = record {
  frames = λ f c. i.frames f (⊎_elim (λ x. x) (again f) (Contains-append_cases w.sent frames f c));
  entries = λ place e g. Contains-append_left w.sent frames _ (i.entries place e g);
  tokens = λ h t g. let k = i.tokens h t g in (k.0, Contains-append_left w.sent frames _ k.1);
  newest = i.newest;
  hops = i.hops;
  count = i.count;
  enough = let e = i.enough in let l = length-append w.sent frames in omega arith;
  room = i.room;
  past = λ h q before at. ⊎_elim
      (λ (x : (node_of s h ≡ n) × (new ≡ q)). subst (λ (y : NodeState). is_past h y.last_hop ≡ true) x.1 (subst (λ l. is_past h l ≡ true) same (i.past h r before (subst (λ m. item w.nodes m ≡ Some r) (sym x.0) is))))
      (λ (x : (node_of s h ≢ n) × (item w.nodes (node_of s h) ≡ Some q)). i.past h q before x.1)
      (with_item_cases w.nodes n (node_of s h) new q at);
  nodes = λ m q at. ⊎_elim
      (λ (x : (m ≡ n) × (new ≡ q)). subst (λ (y : NodeState). NodeFits A L.hop (w.sent ++ frames) m y) x.1 (subst (λ k. NodeFits A L.hop (w.sent ++ frames) k new) (sym x.0) fits))
      (λ (x : (m ≢ n) × (item w.nodes m ≡ Some q)). same_node (node_later A [] L.hop L.hop w.sent frames m q le (i.nodes m q x.1)))
      (with_item_cases w.nodes n m new q at);
}
  where
    le : L.hop ≤ L.hop
    le = omega arith

    same_node : {m : ℕ} {q : NodeState} → NodeFits (A ++ []) L.hop (w.sent ++ frames) m q → NodeFits A L.hop (w.sent ++ frames) m q
    same_node {m} {q} f = subst (λ B. NodeFits B L.hop (w.sent ++ frames) m q) (append-nil A) f

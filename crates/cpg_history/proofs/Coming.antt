-- What an event that came to the history does at its node.
use Rattle.std.proofs.Common.{◌≡◌, ℕ, zero, suc, Bool, false, true≢false, List, [], ◌∷◌, ◌++◌, length, set, slice_get, Some, refl, sym, ap, ◌∙◌, subst}
use Rattle.std.proofs.lemmas.Option.{none-some}
use Rattle.cpg_world_laws.specs.declared.events.WorldEvent.{WorldEvent}
use Rattle.cpg_board.specs.declared.words.View.{View}
use Rattle.cpg_ring.specs.States.{Frame}
use Rattle.cpg_ring.specs.Worlds.{item, with_item}
use Rattle.cpg_node.specs.Nodes.{NodeValue}
use Rattle.cpg_world_laws.specs.Worlds.{WorldValue, moves, moved, node_in, runs}
use Rattle.cpg_station.specs.Stations.{StationValue}
use Rattle.cpg_history.specs.Histories.{Came, later}
use Rattle.cpg_world_laws.specs.Replies.{Answer, IsReply, IsAnswerAt, IsAnswerOf}
use Rattle.cpg_history.specs.Members.{MemberValue, IsAt, IsNewWorld, IsPenOf, IsMember, Replied, Told, member}
use Rattle.cpg_history.specs.Traces.{TraceValue}
use Rattle.cpg_history.proofs.Runs.{runs_on}
use Rattle.cpg_history.proofs.Resting.{rests_same}

set_same : {X : Type 0} (xs : List X) (i : ℕ) (y x : X) → slice_get xs i ≡ Some x → slice_get (set xs i y) i ≡ Some y
set_same [] i y x is = absurd (none-some x is)
set_same (z ∷ xs) zero y x is = refl
set_same (z ∷ xs) (suc i) y x is = set_same xs i y x is

item_same : {X : Type 0} (xs : List X) (n : ℕ) (y x : X) → item xs n ≡ Some x → item (with_item xs n y) n ≡ Some y
item_same xs zero y x is = absurd (none-some x is)
item_same xs (suc i) y x is = set_same xs i y x is

get_last : {X : Type 0} (xs : List X) (x : X) → slice_get (xs ++ x ∷ []) (length xs) ≡ Some x
get_last [] x = refl
get_last (z ∷ xs) x = get_last xs x

length-push : {X : Type 0} (xs : List X) (x : X) → length (xs ++ x ∷ []) ≡ suc (length xs)
length-push [] x = refl
length-push (z ∷ xs) x = ap suc (length-push xs x)

pub item_last : {X : Type 0} (xs : List X) (x : X) → item (xs ++ x ∷ []) (length (xs ++ x ∷ [])) ≡ Some x
item_last xs x = ap (item (xs ++ x ∷ [])) (length-push xs x) ∙ get_last xs x

module _ {k : Bool} (start : WorldValue) (v : View) (e : WorldEvent) (stamp : ℕ) (value : NodeValue) (seen : List WorldEvent) (c : Came k v e stamp seen) (at : IsAt start v.seen (node_in e) value) where
  abbrev w : WorldValue
  w = runs start c.log

  pub was_at : IsAt start c.log (node_in e) value
  was_at = rests_same start (node_in e) v.seen c.log c.rests ∙ at

  -- the world after it
  pub world_after : runs start seen ≡ record { settings = w.settings; list = w.list; nodes = with_item w.nodes (node_in e) (moves w.sent e value).0; sent = w.sent ++ (moves w.sent e value).1 }
  world_after = ap (runs start) c.after ∙ (runs_on start c.log (e ∷ []) ∙ ap (λ o. moved w (node_in e) o (moves w.sent e)) was_at)

  pub now_at : (value' : NodeValue) → (moves w.sent e value).0 ≡ value' → IsAt start seen (node_in e) value'
  now_at value' is = ap (λ (u : WorldValue). item u.nodes (node_in e)) world_after ∙ (item_same w.nodes (node_in e) (moves w.sent e value).0 value was_at ∙ ap Some is)

  -- it is answered at its node
  pub replies : (a : Answer) → IsAnswerAt w.sent e value a → IsReply w e a
  replies a is = subst (λ o. IsAnswerOf w.sent e o a) (sym was_at) is

-- the same, told of a member that had seen as much as the view
abbrev pub replied : {k : Bool} (start : WorldValue) (v : View) (e : WorldEvent) (stamp id : ℕ) (s t : StationValue) (spare : Bool) (was is : TraceValue) (seen : List WorldEvent) (c : Came k v e stamp seen) (a : Answer) → node_in e ≡ id → IsAt start v.seen id s.node → IsAnswerAt (runs start c.log).sent e s.node a → (moves (runs start c.log).sent e s.node).0 ≡ t.node → Replied start (member id s spare v.seen was) e a (member id t spare seen is)
replied start v e stamp id s t spare old new seen c a is at told moved =
    let at' : IsAt start v.seen (node_in e) s.node = subst (λ n. IsAt start v.seen n s.node) (sym is) at in
    record {
      log = c.log;
      begins = c.before;
      was = subst (λ n. IsAt start c.log n s.node) is (was_at start v e stamp s.node seen c at');
      reply = replies start v e stamp s.node seen c at' a told;
      id = refl;
      seen = c.after;
      now = subst (λ n. IsAt start seen n t.node) is (now_at start v e stamp s.node seen c at' t.node moved);
    }

-- a call of a member adds its event, whatever was sent
abbrev pub called : {k : Bool} (start : WorldValue) (pen after : View) (m : MemberValue) (event : ℕ → WorldEvent) (e : WorldEvent) (stamp id : ℕ) (s t : StationValue) (spare : Bool) (old new : TraceValue) (a : Answer) → member id s spare pen.seen old ≡ m → e ≡ event m.id → node_in (event id) ≡ id → IsAt start pen.seen id s.node → Came k pen e stamp after.seen → ((sent : List Frame) → IsAnswerAt sent (event id) s.node a) → ((sent : List Frame) → (moves sent (event id) s.node).0 ≡ t.node) → Replied start m (event m.id) a (member id t spare after.seen new)
called {k} start pen after m event e stamp id s t spare old new a is event_is for_node at came told moved =
    let now : e ≡ event id = event_is ∙ ap (λ (m : MemberValue). event m.id) (sym is) in
    let c : Came k pen (event id) stamp after.seen = subst (λ (e : WorldEvent). Came k pen e stamp after.seen) now came in
    subst (λ (m : MemberValue). Replied start m (event m.id) a (member id t spare after.seen new)) is
    (replied start pen (event id) stamp id s t spare old new after.seen c a for_node at (told (runs start c.log).sent) (moved (runs start c.log).sent))

pub stays : (start : WorldValue) (pen after : View) (id : ℕ) (x y : NodeValue) → after ≡ later pen after.seen → IsPenOf start pen id x → IsAt start after.seen id y → IsPenOf start after id y
stays start pen after id x y is old at = (ap (λ (v : View). v.from) is ∙ old.0, ap (λ (v : View). v.to) is ∙ old.1, at)

-- an event at a pen's own node
module _ {k : Bool} (start : WorldValue) (v : View) (e event : WorldEvent) (stamp id : ℕ) (x : NodeValue) (seen : List WorldEvent) (is : e ≡ event) (for_node : node_in event ≡ id) (p : IsPenOf start v id x) (came : Came k v e stamp seen) where
  c : Came k v event stamp seen
  c = subst (λ (e : WorldEvent). Came k v e stamp seen) is came

  at' : IsAt start v.seen (node_in event) x
  at' = subst (λ n. IsAt start v.seen n x) (sym for_node) p.2

  pub told_after : (a : Answer) → ((sent : List Frame) → IsAnswerAt sent event x a) → Told start v.also event a seen
  told_after a answers = record { log = c.log; begins = c.also; reply = replies start v event stamp x seen c at' a (answers (runs start c.log).sent); seen = c.after }

  pub told_first : (a : Answer) → ((sent : List Frame) → IsAnswerAt sent event x a) → Told start [] event a seen
  told_first a answers = record { log = c.log; begins = (c.log, refl); reply = replies start v event stamp x seen c at' a (answers (runs start c.log).sent); seen = c.after }

  pub pen_after : (after : View) (y : NodeValue) → seen ≡ after.seen → after ≡ later v after.seen → ((sent : List Frame) → (moves sent event x).0 ≡ y) → IsPenOf start after id y
  pen_after after y same is moved =
      stays start v after id x y is p
      (subst (λ l. IsAt start l id y) same (subst (λ n. IsAt start seen n y) for_node (now_at start v event stamp x seen c at' y (moved (runs start c.log).sent))))

-- a station that is no spare
pub is_member : (start : WorldValue) (id : ℕ) (s : StationValue) (spare : Bool) (pen : View) → IsNewWorld start → spare ≡ false → IsPenOf start pen id s.node → IsMember start id s spare pen
is_member start id s spare pen new not p = record { begins = new; halts = λ yes. absurd (true≢false (sym yes ∙ not)); holds = λ _. p }

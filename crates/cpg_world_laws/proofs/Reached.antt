-- A world that is reached is one of its ring.
use Rattle.std.proofs.Common.{◌≡◌, ◌≢◌, ℕ, zero, suc, List, [], ◌∷◌, ◌++◌, Option, Some, None, refl, sym, ap, ◌∙◌, subst, ⊎_elim, arith, option_map, length, length-append}
use Rattle.std.proofs.lemmas.Option.{none-some, same_Some, slice_get-map}
use Rattle.cpg_cred.specs.Listed.{Listed}
use Rattle.cpg_cred.specs.declared.refusals.Refusal.{Refusal}
use Rattle.cpg_entry.specs.declared.frames.Frame.TheVariants as frame
use Rattle.cpg_record.specs.declared.events.Event.{Event}
use Rattle.cpg_ring.specs.States.{Frame, NodeState}
use Rattle.cpg_ring.specs.declared.settings.Settings.{Settings}
use Rattle.cpg_ring.specs.Visits.{up_to}
use Rattle.cpg_ring.specs.Moves.{first_token}
use Rattle.cpg_ring.specs.Worlds as ring
use Rattle.cpg_ring.specs.Worlds.{item, with_item, start}
use Rattle.cpg_ring.proofs.Lists.{with_item_cases, get_push_cases}
use Rattle.cpg_node.specs.declared.connections.Client.{Client}
use Rattle.cpg_node.specs.Nodes.{NodeValue, new_value, open_client}
use Rattle.cpg_node.specs.Calls.{connect_refusal, connected, submit_refusal, submitted, with_entry, ended_by, frame_refusal, after_frame, answers_to, node_after_take, counted, next_event}
use Rattle.cpg_entry.specs.declared.calls.Op.TheVariants.{Act}
use Rattle.cpg_world_laws.specs.declared.events.WorldEvent.{WorldEvent}
use Rattle.cpg_world_laws.specs.declared.events.WorldEvent.TheVariants.{Connect, Submit, Disconnect, Frame as Arrival, Timer, Deliver, Take, List as Listing, Groups}
use Rattle.cpg_world_laws.specs.Worlds.{WorldValue, NodeOutcome, unless, hears, moves, node_in, moved, happens, runs, new_world, Reached, ring_world}
use Rattle.cpg_world_laws.proofs.Lists.{map_through}
use Rattle.cpg_world_laws.proofs.Projecting.{Stands, Numbered, ring_event, ring_events, projects, state_of}

-- a move keeps the settings, the number and the list
record Stays (x y : NodeValue) : Type 0 where
  settings : y.ring.settings ≡ x.ring.settings
  number : y.ring.node ≡ x.ring.node
  list : y.list ≡ x.list

stays : (x : NodeValue) → Stays x x
stays x = record { settings = refl; number = refl; list = refl }

stays_unless : (r : Option Refusal) (x : NodeValue) (m : NodeOutcome) → Stays x m.0 → Stays x (unless r x m).0
stays_unless None x m s = s
stays_unless (Some why) x m s = stays x

stays_moves : (sent : List Frame) (e : WorldEvent) (x : NodeValue) → Stays x (moves sent e x).0
stays_moves sent (Connect n pid cred) x = stays_unless (connect_refusal x cred) x (connected x pid cred, []) (record { settings = refl; number = refl; list = refl })
stays_moves sent (Submit n conn call) x = stays_unless (submit_refusal x conn call) x (submitted x conn call, []) (by_client (open_client x conn))
  where
    by_client : (o : Option Client) → Stays x (with_entry x conn (Act call) o)
    by_client None = stays x
    by_client (Some c) = record { settings = refl; number = refl; list = refl }
stays_moves sent (Disconnect n conn) x = by_client (open_client x conn)
  where
    by_client : (o : Option Client) → Stays x (ended_by x conn o)
    by_client None = stays x
    by_client (Some c) = record { settings = refl; number = refl; list = refl }
stays_moves sent (Arrival n k) x = by_frame (item sent k)
  where
    by_frame : (o : Option Frame) → Stays x (hears o x).0
    by_frame None = stays x
    by_frame (Some f) = stays_unless (frame_refusal x f) x (after_frame x f, answers_to x f) (record { settings = refl; number = refl; list = refl })
stays_moves sent (Timer n) x = stays x
stays_moves sent (Deliver n) x = record { settings = refl; number = refl; list = refl }
stays_moves sent (Take n conn) x = by_client (open_client x conn)
  where
    by_event : (c : Client) (o : Option Event) → Stays x (counted x conn c o)
    by_event c None = stays x
    by_event c (Some event) = record { settings = refl; number = refl; list = refl }

    by_client : (o : Option Client) → Stays x (node_after_take x conn o)
    by_client None = stays x
    by_client (Some c) = by_event c (next_event x conn c)
stays_moves sent (Listing n conn g) x = stays x
stays_moves sent (Groups n conn) x = stays x

-- ---- settings, list and numbers stay

pub same_settings : (w : WorldValue) (e : WorldEvent) → ((happens w e).settings ≡ w.settings) × ((happens w e).list ≡ w.list)
same_settings w e = by_node (item w.nodes (node_in e))
  where
    by_node : (o : Option NodeValue) → ((moved w (node_in e) o (moves w.sent e)).settings ≡ w.settings) × ((moved w (node_in e) o (moves w.sent e)).list ≡ w.list)
    by_node None = (refl, refl)
    by_node (Some x) = (refl, refl)

pub numbered_on : (w : WorldValue) (e : WorldEvent) → Numbered w → Numbered (happens w e)
numbered_on w e numbered = by_node (item w.nodes (node_in e)) refl
  where
    by_node : (o : Option NodeValue) → item w.nodes (node_in e) ≡ o → Numbered (moved w (node_in e) o (moves w.sent e))
    by_node None is m y at = numbered m y at
    by_node (Some x) is m y at = ⊎_elim
        (λ (here : (m ≡ node_in e) × ((moves w.sent e x).0 ≡ y)).
        let s = numbered (node_in e) x is in
        let t = stays_moves w.sent e x in
        restand (subst (λ (z : NodeValue). Stands w m z) here.1 (subst (λ k. Stands w k (moves w.sent e x).0) (sym here.0) (record { settings = t.settings ∙ s.settings; number = t.number ∙ s.number; list = t.list ∙ s.list }))))
        (λ (there : (m ≢ node_in e) × (item w.nodes m ≡ Some y)). restand (numbered m y there.1))
        (with_item_cases w.nodes (node_in e) m (moves w.sent e x).0 y at)
      where
        restand : Stands w m y → Stands (moved w (node_in e) (Some x) (moves w.sent e)) m y
        restand s = record { settings = s.settings; number = s.number; list = s.list }

pub length-up_to : (n : ℕ) → length (up_to n) ≡ n
length-up_to zero = refl
length-up_to (suc n) = let e = length-up_to n in let l = length-append (up_to n) (suc n ∷ []) in omega arith

pub up_to_at : (n k i : ℕ) → item (up_to n) (suc k) ≡ Some i → i ≡ suc k
up_to_at zero k i is = absurd (none-some i is)
up_to_at (suc n) k i is = ⊎_elim
    (λ before. up_to_at n k i before)
    (λ (last : (k ≡ length (up_to n)) × (suc n ≡ i)). let a = last.0 in let b = last.1 in let l = length-up_to n in omega arith)
    (get_push_cases (up_to n) (suc n) k i is)

numbered_new : (s : Settings) (list : Listed) → Numbered (new_world s list)
numbered_new s list zero x at = absurd (none-some x at)
numbered_new s list (suc k) x at = by_number (item (up_to s.nodes) (suc k)) refl (sym (slice_get-map (λ n. new_value s n list) (up_to s.nodes) k) ∙ at)
  where
    by_number : (o : Option ℕ) → item (up_to s.nodes) (suc k) ≡ o → option_map (λ n. new_value s n list) o ≡ Some x → Stands (new_world s list) (suc k) x
    by_number None is made = absurd (none-some x made)
    by_number (Some i) is made = subst (λ (z : NodeValue). Stands (new_world s list) (suc k) z) (same_Some (new_value s i list) x made) (record { settings = refl; number = up_to_at s.nodes k i is; list = refl })

pub numbered_runs : (w : WorldValue) (es : List WorldEvent) → Numbered w → Numbered (runs w es)
numbered_runs w [] numbered = numbered
numbered_runs w (e ∷ es) numbered = numbered_runs (happens w e) es (numbered_on w e numbered)

-- ---- the ring's run

pub run_on : (s : Settings) (w : ring.World) (a b : List ring.Event) → ring.run s w (a ++ b) ≡ ring.run s (ring.run s w a) b
run_on s w [] b = refl
run_on s w (e ∷ a) b = run_on s (ring.happens s w e) a b

pub runs_ring : (w : WorldValue) (es : List WorldEvent) → Numbered w → ring_world (runs w es) ≡ ring.run w.settings (ring_world w) (ring_events w es)
runs_ring w [] numbered = refl
runs_ring w (e ∷ es) numbered =
    runs_ring (happens w e) es (numbered_on w e numbered)
    ∙ (ap (λ s. ring.run s (ring_world (happens w e)) (ring_events (happens w e) es)) (same_settings w e).0
    ∙ (ap (λ (v : ring.World). ring.run w.settings v (ring_events (happens w e) es)) (projects w e numbered)
    ∙ sym (run_on w.settings (ring_world w) (ring_event w e) (ring_events (happens w e) es))))

new_ring : (s : Settings) (list : Listed) → ring_world (new_world s list) ≡ start s
new_ring s list = ap (λ (nodes : List NodeState). let world : ring.World = record { nodes = nodes; sent = frame.Token (first_token s) ∷ [] } in world) (map_through state_of (λ n. new_value s n list) (up_to s.nodes))

pub record RingReached (w : WorldValue) : Type 0 where
  pub events : List ring.Event
  pub run : ring.run w.settings (start w.settings) events ≡ ring_world w
  pub numbered : Numbered w

pub ring_reached : (w : WorldValue) → Reached w → RingReached w
ring_reached w reached = record {
  events = ring_events begin reached.0;
  run = ap (λ (v : ring.World). ring.run w.settings v (ring_events begin reached.0)) (sym (new_ring w.settings w.list)) ∙ (sym (runs_ring begin reached.0 fresh) ∙ ap ring_world reached.1);
  numbered = subst Numbered reached.1 (numbered_runs begin reached.0 fresh);
}
  where
    begin : WorldValue
    begin = new_world w.settings w.list

    fresh : Numbered begin
    fresh = numbered_new w.settings w.list

-- a run goes on by one event
pub runs_on : (w : WorldValue) (a b : List WorldEvent) → runs w (a ++ b) ≡ runs (runs w a) b
runs_on w [] b = refl
runs_on w (e ∷ a) b = runs_on (happens w e) a b

pub reached_on : (w : WorldValue) (e : WorldEvent) → Reached w → Reached (happens w e)
reached_on w e reached = (reached.0 ++ e ∷ [], ap (λ (v : WorldValue). v) (begins ∙ (runs_on (new_world w.settings w.list) reached.0 (e ∷ []) ∙ ap (λ (v : WorldValue). happens v e) reached.1)))
  where
    begins : runs (new_world (happens w e).settings (happens w e).list) (reached.0 ++ e ∷ []) ≡ runs (new_world w.settings w.list) (reached.0 ++ e ∷ [])
    begins = ap (λ s. runs (new_world s (happens w e).list) (reached.0 ++ e ∷ [])) (same_settings w e).0 ∙ ap (λ l. runs (new_world w.settings l) (reached.0 ++ e ∷ [])) (same_settings w e).1

-- Each event of the ring that brings nothing in is one event of the world.
use Rattle.std.proofs.Common.{◌≡◌, ℕ, List, [], ◌∷◌, Option, Some, None, All, refl, sym, ap, ◌∙◌}
use Rattle.std.specs.List.{AllByRecursion}
use Rattle.std.proofs.lemmas.List.Elements.{All-nil, All-append, All-from_recursion, recursion_from_All}
use Rattle.cpg_ring.specs.States.{NodeState}
use Rattle.cpg_ring.specs.Worlds as ring
use Rattle.cpg_ring.specs.Worlds.{item, Enqueue, EnqueueEnd, Arrive, Timer as Timeout, Deliver as Delivery, receive, send_again, deliver}
use Rattle.cpg_entry.specs.declared.entries.Entry.{Entry}
use Rattle.cpg_node.specs.Nodes.{NodeValue}
use Rattle.cpg_world_laws.specs.declared.events.WorldEvent.{WorldEvent}
use Rattle.cpg_world_laws.specs.declared.events.WorldEvent.TheVariants.{Frame as Arrival, Timer, Deliver}
use Rattle.cpg_world_laws.specs.Worlds.{WorldValue, node_in, happens, runs, ring_world}
use Rattle.cpg_world_laws.proofs.Projecting.{Numbered, event_at, event_if, projects, item_state}
use Rattle.cpg_world_laws.proofs.Reached.{numbered_on, same_settings}

-- such events of the ring are such events of the world
pub record Carries (Kind : ring.Event → Type 0) (Other : WorldEvent → Type 0) : Type 0 where
  pub no_call : (e : Entry) → Kind (Enqueue e) → ⊥
  pub no_end : (e : Entry) → Kind (EnqueueEnd e) → ⊥
  pub arrives : (n k : ℕ) → Kind (Arrive n k) → Other (Arrival n k)
  pub fires : (n : ℕ) → Kind (Timeout n) → Other (Timer n)
  pub delivers : (n : ℕ) → Kind (Delivery n) → Other (Deliver n)

-- an event that does at its node what the ring's event does
lifts : (w : WorldValue) (n : ℕ) (e : WorldEvent) (at : ring.Event) (move : NodeState → ring.RingOutcome) → Numbered w → node_in e ≡ n → ((x : NodeValue) → event_at e x ≡ at ∷ []) → ring.happens w.settings (ring_world w) at ≡ ring.moved (ring_world w) n (item (ring_world w).nodes n) move → ring_world (happens w e) ≡ ring.happens w.settings (ring_world w) at
lifts w n e at move numbered node one is = by_node (item w.nodes (node_in e)) refl
  where
    by_node : (o : Option NodeValue) → item w.nodes (node_in e) ≡ o → ring_world (happens w e) ≡ ring.happens w.settings (ring_world w) at
    by_node None none =
        projects w e numbered
        ∙ (ap (λ o. ring.run w.settings (ring_world w) (event_if e o)) none
        ∙ sym (is ∙ (ap (λ m. ring.moved (ring_world w) m (item (ring_world w).nodes m) move) (sym node) ∙ ap (λ o. ring.moved (ring_world w) (node_in e) o move) (item_state w (node_in e) None none))))
    by_node (Some x) there =
        projects w e numbered
        ∙ (ap (λ o. ring.run w.settings (ring_world w) (event_if e o)) there
        ∙ ap (ring.run w.settings (ring_world w)) (one x))

module _ (Kind : ring.Event → Type 0) (Other : WorldEvent → Type 0) (carries : Carries Kind Other) where
  one_lifts : (w : WorldValue) → Numbered w → (at : ring.Event) → Kind at → (e : WorldEvent) × Other e × (ring_world (happens w e) ≡ ring.happens w.settings (ring_world w) at)
  one_lifts w numbered (Enqueue e) kind = absurd (carries.no_call e kind)
  one_lifts w numbered (EnqueueEnd e) kind = absurd (carries.no_end e kind)
  one_lifts w numbered (Arrive n k) kind = (Arrival n k, carries.arrives n k kind, lifts w n (Arrival n k) (Arrive n k) (receive w.settings n (item w.sent k)) numbered refl (λ x. refl) refl)
  one_lifts w numbered (Timeout n) kind = (Timer n, carries.fires n kind, lifts w n (Timer n) (Timeout n) (λ r. send_again r r.last_token) numbered refl (λ x. refl) refl)
  one_lifts w numbered (Delivery n) kind = (Deliver n, carries.delivers n kind, lifts w n (Deliver n) (Delivery n) deliver numbered refl (λ x. refl) refl)

  -- events of the world that do what those of the ring do
  pub record Lifted (w : WorldValue) (es : List ring.Event) : Type 0 where
    pub events : List WorldEvent
    pub kind : All Other events
    pub same : ring_world (runs w events) ≡ ring.run w.settings (ring_world w) es

  all_lift : (w : WorldValue) → Numbered w → (es : List ring.Event) → AllByRecursion Kind es → Lifted w es
  all_lift w numbered [] kinds = record { events = []; kind = All-nil Other; same = refl }
  all_lift w numbered (at ∷ es) kinds =
      let one = one_lifts w numbered at kinds.0 in
      let e : WorldEvent = one.0 in
      let more = all_lift (happens w e) (numbered_on w e numbered) es kinds.1 in
      record {
        events = e ∷ more.events;
        kind = All-append Other (e ∷ []) more.events (All-from_recursion Other (e ∷ []) (one.1, tt)) more.kind;
        same =
            more.same
            ∙ (ap (λ s. ring.run s (ring_world (happens w e)) es) (same_settings w e).0
            ∙ ap (λ (v : ring.World). ring.run w.settings v es) one.2);
      }

  pub lifted : (w : WorldValue) → Numbered w → (es : List ring.Event) → All Kind es → Lifted w es
  lifted w numbered es kinds = all_lift w numbered es (recursion_from_All Kind es kinds)

-- What a world admits is what its ring admits.
use Rattle.std.proofs.Common.{◌≡◌, ◌≢◌, ℕ, Bool, true, false, List, [], ◌∷◌, ◌++◌, map, Option, Some, None, refl, sym, ap, ◌∙◌, subst, ⊎_elim, append-nil, option_map, if◌then◌else◌, ◌==◌, append_assoc, ne_eqb}
use Rattle.std.proofs.lemmas.Bool.{cases_eq}
use Rattle.std.proofs.lemmas.Option.{none-some}
use Rattle.cpg_cred.specs.declared.refusals.Refusal.{Refusal}
use Rattle.cpg_cred.specs.declared.refusals.Refusal.TheVariants.{QueueFull}
use Rattle.cpg_entry.specs.declared.calls.Call.{Call}
use Rattle.cpg_entry.specs.declared.calls.Op.TheVariants.{Act, Gone}
use Rattle.cpg_ring.specs.States.{Entry}
use Rattle.cpg_ring.specs.declared.settings.Settings.{Settings}
use Rattle.cpg_ring.specs.Moves.{is_full}
use Rattle.cpg_ring.specs.Worlds as ring
use Rattle.cpg_ring.specs.Worlds.{item, Enqueue, EnqueueEnd}
use Rattle.cpg_ring.specs.Claims as claims
use Rattle.cpg_ring.specs.Claims.{if_room, if_there}
use Rattle.cpg_node.specs.declared.connections.Client.{Client}
use Rattle.cpg_node.specs.Nodes.{NodeValue, open_client, entry_by}
use Rattle.cpg_node.specs.Calls.{submit_refusal_by, submit_refusal, call_refusal, first_of}
use Rattle.cpg_world_laws.specs.declared.events.WorldEvent.{WorldEvent}
use Rattle.cpg_world_laws.specs.declared.events.WorldEvent.TheVariants.{Connect, Submit, Disconnect, Frame as Arrival, Timer, Deliver, Take, List as Listing, Groups}
use Rattle.cpg_world_laws.specs.Worlds.{WorldValue, node_in, happens, ring_world, entry_of, if_admitted, admits}
use Rattle.cpg_world_laws.specs.Claims.{admits_at, admitted}
use Rattle.cpg_world_laws.proofs.Lists.{item_map}
use Rattle.cpg_world_laws.proofs.Projecting.{Numbered, event_at, event_if, ring_event, ring_events, projects, state_of}
use Rattle.cpg_world_laws.proofs.Reached.{numbered_on, same_settings}

admitted_on : (s : Settings) (w : ring.World) (n : ℕ) (a b : List ring.Event) → claims.admitted s w n (a ++ b) ≡ claims.admitted s w n a ++ claims.admitted s (ring.run s w a) n b
admitted_on s w n [] b = refl
admitted_on s w n (e ∷ a) b = ap (λ l. claims.admits w n e ++ l) (admitted_on s (ring.happens s w e) n a b) ∙ sym (append_assoc (claims.admits w n e) _ _)

-- what an event of another node admits
elsewhere : (n : ℕ) (e : WorldEvent) (o : Option NodeValue) → node_in e ≢ n → admits_at n e o ≡ []
elsewhere n e None apart = refl
elsewhere n e (Some x) apart = ap (λ b. if b then admits e x else []) (ne_eqb (node_in e) n apart)

one_admitted : (s : Settings) (w : ring.World) (n : ℕ) (e : ring.Event) → claims.admitted s w n (e ∷ []) ≡ claims.admits w n e
one_admitted s w n e = append-nil (claims.admits w n e)

-- a submitted call
submits : (w : WorldValue) (n m conn : ℕ) (call : Call) (x : NodeValue) → item w.nodes m ≡ Some x → x.ring.node ≡ m → (o : Option Client) (r : Option Refusal) → submit_refusal_by x call o ≡ r →
    claims.admitted w.settings (ring_world w) n (map Enqueue (if_admitted r (entry_of x conn (Act call) o))) ≡ (if m == n then if_admitted r (entry_of x conn (Act call) o) else [])
submits w n m conn call x is number o (Some why) r = by_test (m == n)
  where
    by_test : (b : Bool) → ◌≡◌ {A = List Entry} [] (if b then [] else [])
    by_test true = refl
    by_test false = refl
submits w n m conn call x is number None None r = absurd (none-some _ (sym r))
submits w n m conn call x is number (Some c) None r =
    one_admitted w.settings (ring_world w) n (Enqueue e)
    ∙ (ap (λ k. if k == n then if_room (item (ring_world w).nodes n) e else []) number
    ∙ ⊎_elim here there (cases_eq m n))
  where
    e : Entry
    e = entry_by x conn c (Act call)

    full : (b : Bool) → is_full x.ring.state ≡ b → first_of (call_refusal call) (if b then Some QueueFull else None) ≡ None → is_full x.ring.state ≡ false
    full false is h = is
    full true is h = absurd (no_refusal (call_refusal call) h)
      where
        no_refusal : (t : Option Refusal) → first_of t (Some QueueFull) ≡ None → ⊥
        no_refusal None h = none-some _ (sym h)
        no_refusal (Some why) h = none-some _ (sym h)

    here : m ≡ n → (if m == n then if_room (item (ring_world w).nodes n) e else []) ≡ (if m == n then e ∷ [] else [])
    here same =
        let at = item_map state_of w.nodes n ∙ ap (option_map state_of) (subst (λ k. item w.nodes k ≡ Some x) same is) in
        ap (λ o. if m == n then if_room o e else []) at ∙ ap (λ b. if m == n then (if b then [] else e ∷ []) else []) (full (is_full x.ring.state) refl r)

    there : m ≢ n → (if m == n then if_room (item (ring_world w).nodes n) e else []) ≡ (if m == n then e ∷ [] else [])
    there apart = ap (λ b. if b then if_room (item (ring_world w).nodes n) e else []) (ne_eqb m n apart) ∙ sym (ap (λ b. if b then e ∷ [] else []) (ne_eqb m n apart))

ends : (w : WorldValue) (n m conn : ℕ) (x : NodeValue) → item w.nodes m ≡ Some x → x.ring.node ≡ m → (o : Option Client) →
    claims.admitted w.settings (ring_world w) n (map EnqueueEnd (entry_of x conn Gone o)) ≡ (if m == n then entry_of x conn Gone o else [])
ends w n m conn x is number None = by_test (m == n)
  where
    by_test : (b : Bool) → ◌≡◌ {A = List Entry} [] (if b then [] else [])
    by_test true = refl
    by_test false = refl
ends w n m conn x is number (Some c) =
    one_admitted w.settings (ring_world w) n (EnqueueEnd e)
    ∙ (ap (λ k. if k == n then if_there (item (ring_world w).nodes n) e else []) number
    ∙ ⊎_elim here there (cases_eq m n))
  where
    e : Entry
    e = entry_by x conn c Gone

    here : m ≡ n → (if m == n then if_there (item (ring_world w).nodes n) e else []) ≡ (if m == n then e ∷ [] else [])
    here same =
        let at = item_map state_of w.nodes n ∙ ap (option_map state_of) (subst (λ k. item w.nodes k ≡ Some x) same is) in
        ap (λ o. if m == n then if_there o e else []) at

    there : m ≢ n → (if m == n then if_there (item (ring_world w).nodes n) e else []) ≡ (if m == n then e ∷ [] else [])
    there apart = ap (λ b. if b then if_there (item (ring_world w).nodes n) e else []) (ne_eqb m n apart) ∙ sym (ap (λ b. if b then e ∷ [] else []) (ne_eqb m n apart))

nothing : (b : Bool) → ◌≡◌ {A = List Entry} [] (if b then [] else [])
nothing true = refl
nothing false = refl

at_node : (w : WorldValue) (n : ℕ) (e : WorldEvent) (x : NodeValue) → item w.nodes (node_in e) ≡ Some x → x.ring.node ≡ node_in e → claims.admitted w.settings (ring_world w) n (event_at e x) ≡ (if node_in e == n then admits e x else [])
at_node w n (Submit m conn call) x is number = submits w n m conn call x is number (open_client x conn) (submit_refusal x conn call) refl
at_node w n (Disconnect m conn) x is number = ends w n m conn x is number (open_client x conn)
at_node w n (Connect m pid cred) x is number = nothing (m == n)
at_node w n (Arrival m k) x is number = nothing (m == n)
at_node w n (Timer m) x is number = nothing (m == n)
at_node w n (Deliver m) x is number = nothing (m == n)
at_node w n (Take m conn) x is number = nothing (m == n)
at_node w n (Listing m conn g) x is number = nothing (m == n)
at_node w n (Groups m conn) x is number = nothing (m == n)

event_admits : (w : WorldValue) (n : ℕ) (e : WorldEvent) → Numbered w → claims.admitted w.settings (ring_world w) n (ring_event w e) ≡ admits_at n e (item w.nodes n)
event_admits w n e numbered = by_node (item w.nodes (node_in e)) refl
  where
    by_node : (o : Option NodeValue) → item w.nodes (node_in e) ≡ o → claims.admitted w.settings (ring_world w) n (event_if e o) ≡ admits_at n e (item w.nodes n)
    by_node None is = ⊎_elim
        (λ same. sym (ap (admits_at n e) (subst (λ k. item w.nodes k ≡ None) same is)))
        (λ apart. sym (elsewhere n e (item w.nodes n) apart))
        (cases_eq (node_in e) n)
    by_node (Some x) is = at_node w n e x is (numbered (node_in e) x is).number ∙ ⊎_elim
        (λ same. sym (ap (admits_at n e) (subst (λ k. item w.nodes k ≡ Some x) same is)))
        (λ apart. ap (λ b. if b then admits e x else []) (ne_eqb (node_in e) n apart) ∙ sym (elsewhere n e (item w.nodes n) apart))
        (cases_eq (node_in e) n)

-- over a run
pub run_admits : (w : WorldValue) (n : ℕ) (es : List WorldEvent) → Numbered w → claims.admitted w.settings (ring_world w) n (ring_events w es) ≡ admitted w n es
run_admits w n [] numbered = refl
run_admits w n (e ∷ es) numbered =
    admitted_on w.settings (ring_world w) n (ring_event w e) (ring_events (happens w e) es)
    ∙ (ap (λ l. l ++ claims.admitted w.settings (ring.run w.settings (ring_world w) (ring_event w e)) n (ring_events (happens w e) es)) (event_admits w n e numbered)
    ∙ (ap (λ (v : ring.World). admits_at n e (item w.nodes n) ++ claims.admitted w.settings v n (ring_events (happens w e) es)) (sym (projects w e numbered))
    ∙ (ap (λ s. admits_at n e (item w.nodes n) ++ claims.admitted s (ring_world (happens w e)) n (ring_events (happens w e) es)) (sym (same_settings w e).0)
    ∙ ap (λ l. admits_at n e (item w.nodes n) ++ l) (run_admits (happens w e) n es (numbered_on w e numbered)))))

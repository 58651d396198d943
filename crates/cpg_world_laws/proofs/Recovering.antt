-- What a ring recovers, its connections can take.
use Rattle.std.proofs.Common.{◌≡◌, ℕ, List, [], ◌∷◌, ◌++◌, length, take, Option, Some, sym, ap, ◌∙◌, subst, option_map, arith}
use Rattle.std.proofs.lemmas.List.{take_all}
use Rattle.std.proofs.lemmas.List.Elements.{All-append}
use Rattle.cpg_record.specs.Events.{inbox}
use Rattle.cpg_record.specs.Judging.{judged}
use Rattle.cpg_ring.specs.States.{Entry, IsSettings}
use Rattle.cpg_ring.specs.declared.settings.Settings.{Settings}
use Rattle.cpg_ring.specs.Worlds as ring
use Rattle.cpg_ring.specs.Worlds.{item, agreed}
use Rattle.cpg_ring.specs.Claims.{Agreement}
use Rattle.cpg_ring.specs.Progress as progress
use Rattle.cpg_ring.specs.Progress.{AllDelivered, DeliveredTo, HasHops, NoneWaits, hops_for}
use Rattle.cpg_node.specs.declared.connections.Client.{Client}
use Rattle.cpg_node.specs.Nodes.{NodeValue, conn_id, delivered_entries, inbox_of}
use Rattle.cpg_world_laws.specs.declared.events.WorldEvent.{WorldEvent}
use Rattle.cpg_world_laws.specs.Worlds.{WorldValue, happens, runs, Reached, ring_world}
use Rattle.cpg_world_laws.specs.Claims.{taken_in}
use Rattle.cpg_world_laws.specs.Progress.{IsHearing, IsAfterLoss, AllTold, CatchesUp, Recovers}
use Rattle.cpg_world_laws.proofs.Lists.{item_map}
use Rattle.cpg_world_laws.proofs.Growing.{delivered_are}
use Rattle.cpg_world_laws.proofs.Projecting.{state_of}
use Rattle.cpg_world_laws.proofs.Reached.{ring_reached, reached_on, same_settings, runs_on}
use Rattle.cpg_world_laws.proofs.Received.{open_is}
use Rattle.cpg_world_laws.proofs.Lifting.{Carries, lifted}
use Rattle.cpg_world_laws.proofs.Taking.{AllTook, all_take}

-- What the ring promises.
pub record Below : Type 0 where
  pub agreement : (s : Settings) (w : ring.World) → IsSettings s → ring.Reached s w → Agreement s w
  pub catches_up : (s : Settings) (w : ring.World) → IsSettings s → ring.Reached s w → progress.CatchesUp s w
  pub recovers : (s : Settings) (w : ring.World) (done : ℕ) → IsSettings s → ring.Reached s w → DeliveredTo w done → HasHops s w (hops_for s w done) → progress.Recovers s w

pub reached_runs : (w : WorldValue) (es : List WorldEvent) → Reached w → Reached (runs w es)
reached_runs w [] reached = reached
reached_runs w (e ∷ es) reached = reached_runs (happens w e) es (reached_on w e reached)

pub settings_runs : (w : WorldValue) (es : List WorldEvent) → IsSettings w.settings → IsSettings (runs w es).settings
settings_runs w [] settings = settings
settings_runs w (e ∷ es) settings = settings_runs (happens w e) es (subst IsSettings (sym (same_settings w e).0) settings)

pub hearing_carries : Carries progress.IsHearing IsHearing
hearing_carries = record { no_call = λ e h. h; no_end = λ e h. h; arrives = λ n k h. tt; fires = λ n h. absurd h; delivers = λ n h. tt }

loss_carries : (lost : ℕ) → Carries (progress.IsAfterLoss lost) (IsAfterLoss lost)
loss_carries lost = record { no_call = λ e h. h; no_end = λ e h. h; arrives = λ n k h. h; fires = λ n h. tt; delivers = λ n h. tt }

-- where all is delivered, a node delivered all that is agreed
pub all_entries : (w : WorldValue) → Agreement w.settings (ring_world w) → AllDelivered (ring_world w) → (n : ℕ) (x : NodeValue) → item w.nodes n ≡ Some x → delivered_entries x.ring.state ≡ agreed w.sent
all_entries w held delivered n x at =
    let there : item (ring_world w).nodes n ≡ Some x.ring.state = item_map state_of w.nodes n ∙ ap (option_map state_of) at in
    let are = delivered_are x.ring.state.held (agreed w.sent) x.ring.state.delivered
    (λ place low high. held.delivered_held n x.ring.state place there low high)
    (λ place e g. held.held_as_agreed n x.ring.state place e there g) in
    let all : x.ring.state.delivered ≡ length (agreed w.sent) = delivered n x.ring.state there in
    are.1 ∙ take_all x.ring.state.delivered (agreed w.sent) (omega arith)

module _ (below : Below) where
  -- where a node delivered all, a connection that took its inbox has had all that is agreed
  all_told : (w : WorldValue) → IsSettings w.settings → Reached w → AllDelivered (ring_world w) → AllTook w → AllTold w
  all_told w settings reached delivered took n conn x c at opens =
      let r = ring_reached w reached in
      let entries : delivered_entries x.ring.state ≡ agreed w.sent = all_entries w (below.agreement w.settings (ring_world w) settings (r.events, r.run)) delivered n x at in
      ap (λ (o : Option Client). take (taken_in o) (inbox_of x conn)) (open_is x conn c opens)
      ∙ (take_all c.taken (inbox_of x conn) (took n conn x c at opens)
      ∙ ap (λ (es : List Entry). inbox (judged es) (conn_id x conn)) entries)

  pub catches_up : (w : WorldValue) → IsSettings w.settings → Reached w → CatchesUp w
  catches_up w settings reached =
      let r = ring_reached w reached in
      let a = below.catches_up w.settings (ring_world w) settings (r.events, r.run) in
      let first = lifted progress.IsHearing IsHearing hearing_carries w r.numbered a.events a.hearing in
      let v = runs w first.events in
      let takes = all_take IsHearing (λ n conn. tt) v in
      let u = runs v takes.events in
      let joined : runs w (first.events ++ takes.events) ≡ u = runs_on w first.events takes.events in
      let same : ring_world u ≡ ring.run w.settings (ring_world w) a.events = takes.takes.ring ∙ first.same in
      let delivered : AllDelivered (ring_world u) = subst AllDelivered (sym same) a.delivered in
      let told : AllTold u = all_told u (settings_runs v takes.events (settings_runs w first.events settings)) (reached_runs v takes.events (reached_runs w first.events reached)) delivered takes.goal in
      record {
        events = first.events ++ takes.events;
        hearing = All-append IsHearing first.events takes.events first.kind takes.kind;
        delivered = subst (λ (z : WorldValue). AllDelivered (ring_world z)) (sym joined) delivered;
        told = subst AllTold (sym joined) told;
        sent = ap (λ (z : WorldValue). z.sent) joined ∙ (ap (λ (z : ring.World). z.sent) same ∙ a.sent);
      }

  pub recovers : (w : WorldValue) (done : ℕ) → IsSettings w.settings → Reached w → DeliveredTo (ring_world w) done → HasHops w.settings (ring_world w) (hops_for w.settings (ring_world w) done) → Recovers w
  recovers w done settings reached low room =
      let r = ring_reached w reached in
      let lost : ℕ = length w.sent in
      let a = below.recovers w.settings (ring_world w) done settings (r.events, r.run) low room in
      let first = lifted (progress.IsAfterLoss lost) (IsAfterLoss lost) (loss_carries lost) w r.numbered a.events a.after_loss in
      let v = runs w first.events in
      let takes = all_take (IsAfterLoss lost) (λ n conn. tt) v in
      let u = runs v takes.events in
      let joined : runs w (first.events ++ takes.events) ≡ u = runs_on w first.events takes.events in
      let same : ring_world u ≡ ring.run w.settings (ring_world w) a.events = takes.takes.ring ∙ first.same in
      let whole : ring_world (runs w (first.events ++ takes.events)) ≡ ring.run w.settings (ring_world w) a.events = ap ring_world joined ∙ same in
      let delivered : AllDelivered (ring_world u) = subst AllDelivered (sym same) a.delivered in
      let told : AllTold u = all_told u (settings_runs v takes.events (settings_runs w first.events settings)) (reached_runs v takes.events (reached_runs w first.events reached)) delivered takes.goal in
      record {
        events = first.events ++ takes.events;
        after_loss = All-append (IsAfterLoss lost) first.events takes.events first.kind takes.kind;
        delivered = subst AllDelivered (sym whole) a.delivered;
        told = subst AllTold (sym joined) told;
        placed = ap (λ (z : ring.World). length (agreed z.sent)) whole ∙ a.placed;
        waiting = λ fits. subst NoneWaits (sym whole) (a.waiting fits);
      }

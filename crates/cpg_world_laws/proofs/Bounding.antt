-- A fair stretch of a world is one of its ring.
use Rattle.std.proofs.Common.{sum_by, ◌≡◌, ℕ, zero, suc, ◌<◌, ◌≤◌, List, [], ◌∷◌, length, refl, sym, ap, ◌∙◌, subst, arith}
use Rattle.cpg_record.specs.Events.{inbox}
use Rattle.cpg_record.specs.Judging.{judged}
use Rattle.cpg_ring.specs.States.{Entry, Token, IsSettings}
use Rattle.cpg_ring.specs.declared.settings.Settings.{Settings}
use Rattle.cpg_ring.specs.Visits.{up_to}
use Rattle.cpg_ring.specs.Worlds as ring
use Rattle.cpg_ring.specs.Worlds.{agreed}
use Rattle.cpg_ring.specs.Claims.{Agreement}
use Rattle.cpg_ring.specs.Progress as progress
use Rattle.cpg_ring.specs.Progress.{wanted_places}
use Rattle.cpg_ring.specs.Fairness as fairness
use Rattle.cpg_ring.specs.Fairness.{Bounded, BoundedAtStart, GoodHop, IsNewest}
use Rattle.cpg_ring.proofs.Counting.{leads_to as ring_leads_to}
use Rattle.cpg_node.specs.Nodes.{conn_id}
use Rattle.cpg_world_laws.specs.declared.events.WorldEvent.{WorldEvent}
use Rattle.cpg_world_laws.specs.Worlds.{WorldValue, happens, runs, Reached, ring_world}
use Rattle.cpg_world_laws.specs.Progress.{IsHearing}
use Rattle.cpg_world_laws.specs.Fairness.{GoodTurn, Fair, BoundedWait, HasTurn, GrowsAsAdmitted, events_of, all_admitted}
use Rattle.cpg_world_laws.proofs.Projecting.{Numbered, ring_events}
use Rattle.cpg_world_laws.proofs.Reached.{ring_reached, runs_ring, numbered_runs, same_settings, runs_on}
use Rattle.cpg_world_laws.proofs.Orders.{run_admits}
use Rattle.cpg_world_laws.proofs.Lifting.{lifted}
use Rattle.cpg_world_laws.proofs.Recovering.{reached_runs, settings_runs, hearing_carries, all_entries}

-- What the ring promises.
pub record Below : Type 0 where
  pub agreement : (s : Settings) (w : ring.World) → IsSettings s → ring.Reached s w → Agreement s w
  pub fair : (s : Settings) (w v : ring.World) (turns : ℕ) → IsSettings s → ring.Reached s w → fairness.Fair s turns w v → Bounded s w v turns
  pub grows : (s : Settings) (w : ring.World) (events : List ring.Event) → IsSettings s → ring.Reached s w → fairness.GrowsAsAdmitted s w events
  pub at_start : (s : Settings) (w v : ring.World) (turns more : ℕ) (led : fairness.Fair s turns w v) → IsSettings s → ring.Reached s w → progress.all_admitted s w (fairness.events_of s turns w v led) ≤ more → BoundedAtStart s w v turns more
  pub has_turn : (s : Settings) (w : ring.World) (t : Token) → IsSettings s → ring.Reached s w → IsNewest w t → t.hop < s.hops → fairness.HasTurn s w

settings_kept : (w : WorldValue) (es : List WorldEvent) → (runs w es).settings ≡ w.settings
settings_kept w [] = refl
settings_kept w (e ∷ es) = settings_kept (happens w e) es ∙ (same_settings w e).0

turn_is : (w v : WorldValue) → Numbered w → GoodTurn w v → fairness.GoodTurn w.settings (ring_world w) (ring_world v)
turn_is w v numbered t = record {
  events = ring_events w t.events;
  leads = sym (runs_ring w t.events numbered) ∙ ap ring_world t.leads;
  good = t.good;
}

fair_is : (k : ℕ) (w v : WorldValue) → Numbered w → Fair k w v → fairness.Fair w.settings k (ring_world w) (ring_world v)
fair_is zero w v numbered is = ap ring_world is
fair_is (suc k) w v numbered (x, turn, rest) =
    let same : x.settings ≡ w.settings = ap (λ (u : WorldValue). u.settings) (sym turn.leads) ∙ settings_kept w turn.events in
    (ring_world x, turn_is w x numbered turn, subst (λ s. fairness.Fair s k (ring_world x) (ring_world v)) same (fair_is k x v (subst Numbered turn.leads (numbered_runs w turn.events numbered)) rest))

fair_reached : (k : ℕ) (w v : WorldValue) → IsSettings w.settings → Reached w → Fair k w v → IsSettings v.settings × Reached v
fair_reached zero w v settings reached is = (subst (λ (u : WorldValue). IsSettings u.settings) is settings, subst Reached is reached)
fair_reached (suc k) w v settings reached (x, turn, rest) = fair_reached k x v
    (subst (λ (u : WorldValue). IsSettings u.settings) turn.leads (settings_runs w turn.events settings))
    (subst Reached turn.leads (reached_runs w turn.events reached))
    rest

pub bounded : Below → (w v : WorldValue) (turns : ℕ) → IsSettings w.settings → Reached w → Fair turns w v → BoundedWait w v turns
bounded below w v turns settings reached fair =
    let r = ring_reached w reached in
    record {
      ring = below.fair w.settings (ring_world w) (ring_world v) turns settings (r.events, r.run) (fair_is turns w v r.numbered fair);
      told = λ n conn x c delivered at opens took.
          let end = fair_reached turns w v settings reached fair in
          let there = ring_reached v end.1 in
          took ∙ ap (λ (es : List Entry). inbox (judged es) (conn_id x conn)) (all_entries v (below.agreement v.settings (ring_world v) end.0 (there.events, there.run)) delivered n x at);
    }

-- the world admits what its ring does
same_admitted : (w : WorldValue) (events : List WorldEvent) → Numbered w → progress.all_admitted w.settings (ring_world w) (ring_events w events) ≡ all_admitted w events
same_admitted w events numbered i = sum_by (λ n. length (run_admits w n events numbered i)) (up_to w.settings.nodes)

pub grows : Below → (w : WorldValue) (events : List WorldEvent) → IsSettings w.settings → Reached w → GrowsAsAdmitted w events
grows below w events settings reached =
    let r = ring_reached w reached in
    let g = below.grows w.settings (ring_world w) (ring_events w events) settings (r.events, r.run) in
    let end = runs_ring w events r.numbered in
    let same = same_admitted w events r.numbered in
    let wanted = g.wanted in
    let most = g.agreed in
    let count = ap wanted_places end in
    let long = ap (λ (v : ring.World). length (agreed v.sent)) end in
    record { wanted = omega arith; agreed = omega arith }

leads_to : (turns : ℕ) (w v : WorldValue) (led : Fair turns w v) → runs w (events_of turns w v led) ≡ v
leads_to zero w v is = is
leads_to (suc more) w v (x, turn, rest) =
    runs_on w turn.events (events_of more x v rest)
    ∙ (ap (λ u. runs u (events_of more x v rest)) turn.leads ∙ leads_to more x v rest)

-- By both counts what is agreed or waits grows as much.
pub at_start : Below → (w v : WorldValue) (turns more : ℕ) (led : Fair turns w v) → IsSettings w.settings → Reached w → all_admitted w (events_of turns w v led) ≤ more → BoundedAtStart w.settings (ring_world w) (ring_world v) turns more
at_start below w v turns more led settings reached few =
    let r = ring_reached w reached in
    let fair = fair_is turns w v r.numbered led in
    let events = fairness.events_of w.settings turns (ring_world w) (ring_world v) fair in
    let a = (below.grows w.settings (ring_world w) events settings (r.events, r.run)).wanted in
    let b = (grows below w (events_of turns w v led) settings reached).wanted in
    let c = ap wanted_places (ring_leads_to w.settings turns (ring_world w) (ring_world v) fair) in
    let d = ap (λ u. wanted_places (ring_world u)) (leads_to turns w v led) in
    below.at_start w.settings (ring_world w) (ring_world v) turns more fair settings (r.events, r.run) (omega arith)

pub has_turn : Below → (w : WorldValue) (t : Token) → IsSettings w.settings → Reached w → IsNewest (ring_world w) t → t.hop < w.settings.hops → HasTurn w
has_turn below w t settings reached new room =
    let r = ring_reached w reached in
    let a = below.has_turn w.settings (ring_world w) t settings (r.events, r.run) new room in
    let turn = lifted progress.IsHearing IsHearing hearing_carries w r.numbered a.events a.hearing in
    record { events = turn.events; hearing = turn.kind; good = subst (GoodHop (ring_world w)) (sym turn.same) a.good }

use Rattle.std.proofs.Common.{◌≡◌, ◌∙◌, ◌+◌, ◌<◌, ◌≤◌, get_or, length, refl, sym, ap, subst, arith}
use mathlib.Core.List.{IsPrefix}
use Rattle.cpg_history.specs.Histories.{FrontValue}
use Rattle.cpg_history.specs.Members.{MemberValue}
use Rattle.cpg_daemon.proofs.Meeting.{next_begins, caught_next, all_caught}
use Rattle.cpg_daemon.proofs.stopping.catch_up.Goals as goal

pub catch_up-requires : goal.catch_up-requires
catch_up-requires g c =
    let less : c.loop-station.station-index < length c.loop-station.stations = omega arith in
    let same : c.again.result.seen ≡ c.args.front.now.seen = ap (λ (f : FrontValue). f.seen) c.again.ensures.again ∙ ap (λ (f : FrontValue). f.seen) c.loop-station.invariant.1 in
    subst (IsPrefix (get_or c.loop-station.stations c.loop-station.station-index c.station-item.result).seen) (sym same)
    (next_begins c.loop-station.station-index c.loop-station.stations c.station-item.result c.args.front.now.seen less c.loop-station.invariant.0)

pub loop-station-preserved : goal.loop-station-preserved
loop-station-preserved g c =
    let same : c.again.result.seen ≡ c.args.front.now.seen = ap (λ (f : FrontValue). f.seen) c.again.ensures.again ∙ ap (λ (f : FrontValue). f.seen) c.loop-station.invariant.1 in (
      caught_next c.loop-station.station-index (c.loop-station.station-index + 1) c.loop-station.stations c.catch_up.new.self c.args.front.now.seen refl (ap (λ (m : MemberValue). m.seen) c.catch_up.ensures ∙ same) c.loop-station.invariant.0,
      c.again.ensures.front ∙ c.loop-station.invariant.1,
    )

pub returns-clause-stations : goal.returns-clause-stations
returns-clause-stations g c =
    let end : length c.loop-station.stations ≤ c.loop-station.station-index = omega arith in
    all_caught c.loop-station.station-index c.loop-station.stations c.args.front.now.seen end c.loop-station.invariant.0

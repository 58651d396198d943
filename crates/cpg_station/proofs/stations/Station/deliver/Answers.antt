use Rattle.std.proofs.Common.{◌≡◌, Some, sym, ap, ◌∙◌, subst}
use Rattle.cpg_node.specs.Calls.{place_to_deliver}
use Rattle.cpg_record.specs.Places.{record_at}
use Rattle.cpg_board.specs.Seats.{IsSeatOf, records_of}
use Rattle.cpg_station.specs.Stations.{StationValue}
use Rattle.cpg_station.proofs.Steps.{kept_delivered, next_place}
use Rattle.cpg_station.proofs.stations.Station.deliver.Goals as goal

pub invariant_of-self : goal.invariant_of-self
invariant_of-self g c = (
  subst (λ cells. IsSeatOf cells c.stand.new.seat) c.requires c.stand.ensures.seat.0,
  kept_delivered c.self.inside.node c.share.new.self c.stand.new.seat c.in-Some.judgement c.stand.ensures.kept (sym c.in_ok-judgement.ensures.ok ∙ c.in-Some.is)
      (ap (record_at (records_of c.stand.new.seat)) (sym c.in-Ok.ensures.ok.0) ∙ c.in-Ok.ensures.ok.1)
      (c.share.ensures ∙ c.in-Ok-commit.ensures.ok),
)

pub returns-in-Ok-commit-clause-place : goal.returns-in-Ok-commit-clause-place
returns-in-Ok-commit-clause-place g c =
    subst (λ (s : StationValue). Some c.in-Ok.place ≡ place_to_deliver s.node) c.self.view_is
    (next_place c.self.inside.node c.in-Some.judgement c.in-Ok.place (sym c.in_ok-judgement.ensures.ok ∙ c.in-Some.is) c.in-Ok.ensures.number)

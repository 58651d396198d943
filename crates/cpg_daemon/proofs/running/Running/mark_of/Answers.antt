use Rattle.std.proofs.Common.{◌≡◌, false, sym, subst, ◌∙◌}
use Rattle.cpg_daemon.specs.Clusters.{IsMarkIn}
use Rattle.cpg_daemon.proofs.Marks.{marked}
use Rattle.cpg_daemon.proofs.running.Running.mark_of.Goals as goal

pub returns : goal.returns
returns g c =
    let member = c.args.station.now in
    let node = c.args.node in
    let place = c.safe_at-place.result in
    let own : member.spare ≡ false = sym c.is_spare.ensures ∙ c.if-is_spare.false in
    let same : member.id ≡ node = sym c.id.ensures ∙ (sym c.get.ensures.value ∙ (c.if-get.false ∙ c.get-2.ensures.value)) in
    let start = g.B.HistoryName.start in
    subst (λ seen. IsMarkIn start seen node place) (sym c.front-2.ensures.front)
    (marked start member node place same (c.stands.ensures.node own) (c.safe_at-place.ensures.own own same))

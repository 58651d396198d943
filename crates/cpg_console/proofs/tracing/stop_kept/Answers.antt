use Rattle.std.proofs.Common.{◌≡◌, sym, subst, ◌∙◌}
use Rattle.cpg_daemon.specs.Clusters.{ClusterValue}
use Rattle.cpg_console.proofs.Traced.{was_kept}
use Rattle.cpg_console.proofs.tracing.stop_kept.Goals as goal

pub returns : goal.returns
returns g c =
    was_kept g.K.KeepsEnds.keeps g.B.HistoryName.start c.stop_traced-members.result.1.seen c.stop_traced-members.result.0.items c.args.cluster.nodes c.args.keeper.now c.keep.new.self
    (sym c.stop_traced-members.result.0.ok.0 ∙ c.stop_traced-members.ensures.members) (subst (λ (running : ClusterValue). running.nodes ≡ g.B.HistoryName.start.settings.nodes) c.deref.ensures c.stands.ensures.nodes) c.stop_traced-members.ensures.front c.keep.ensures

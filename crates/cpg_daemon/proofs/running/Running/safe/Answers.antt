use Rattle.cpg_daemon.proofs.Marks.{mark_is_safe}
use Rattle.cpg_daemon.proofs.running.Running.safe.Goals as goal

pub returns : goal.returns
returns g c = mark_is_safe g.B.HistoryName.start c.mark-place.result.1.seen c.args.node c.mark-place.result.0 c.mark-place.ensures

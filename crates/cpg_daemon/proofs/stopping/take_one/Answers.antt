use Rattle.std.proofs.Common.{sym, subst}
use Rattle.cpg_history.specs.Members.{Began}
use Rattle.cpg_daemon.proofs.Meeting.{one_more_began}
use Rattle.cpg_daemon.proofs.stopping.take_one.Goals as goal

pub returns-clause-front : goal.returns-clause-front
returns-clause-front g c =
    subst (λ ms. Began ms c.meet.new.pens.seen) (sym c.push_reserved.ensures.items)
    (one_more_began c.args.stations.now.items c.meet.result c.args.pens.now.seen c.meet.new.pens.seen c.requires.front c.meet.ensures.pens c.meet.ensures.station)

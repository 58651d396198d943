use Rattle.cpg_history.proofs.Serving.{caught_up}
use Rattle.cpg_history.proofs.members.Member.catch_up.Goals as goal

pub invariant_of-self : goal.invariant_of-self
invariant_of-self g c =
    let m = c.self.inside in
    caught_up g.B.HistoryName.start m.id m.station m.spare m.pen c.catch_up.new.pen c.args.front m.trace c.self.invariant.0 c.self.invariant.1 c.catch_up.ensures

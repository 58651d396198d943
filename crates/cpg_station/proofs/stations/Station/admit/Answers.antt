use Rattle.std.proofs.Common.{ap, ◌∙◌, is_ok}
use Rattle.cpg_station.proofs.Admitting.{turned_away}
use Rattle.cpg_station.proofs.stations.Station.admit.Goals as goal

pub returns-in-Err-clause-err : goal.returns-in-Err-clause-err
returns-in-Err-clause-err g c =
    turned_away c.args.list.now c.args.node c.args.pid c.args.cred c.is_ok-accepted.result c.args.self.now c.connect.new.self c.turn_away.new.self (λ _. ⊥) _ c.turn_away.result (c.is_ok-accepted.ensures.value ∙ ap is_ok c.accepts.ensures)
    c.in-Err.ensures.err c.in-Err.ensures.answer c.turn_away.ensures.alike c.turn_away.ensures.unlike

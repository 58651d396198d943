use Rattle.cpg_station.proofs.Sessions.{submit_err}
use Rattle.cpg_station.proofs.stations.Station.submit_for.Goals as goal

pub returns-clause-err : goal.returns-clause-err
returns-clause-err g c = submit_err c.args.self.now c.watch.new.self c.submit.new.self c.args.who.now c.args.call _ c.submit.result c.in_default.ensures.ok.0.1 c.in_default.ensures.ok.1 c.submit.ensures.answer c.submit.ensures.back c.submit.ensures.err

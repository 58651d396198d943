use Rattle.cpg_serve.proofs.Doing.{as_many, served_by}
use Rattle.cpg_serve.proofs.served.Served.serve.Goals as goal

pub returns-clause-count : goal.returns-clause-count
returns-clause-count c = as_many c.args.self.now c.does_all.new.self c.args.deeds.now c.does_all.new.outcomes.items c.does_all.ensures

pub returns-clause-served : goal.returns-clause-served
returns-clause-served c = served_by c.args.self.now c.does_all.new.self c.args.deeds.now c.does_all.new.outcomes.items c.memory.ensures c.does_all.ensures

use Rattle.cpg_record.proofs.Named.{on_ok, on_err}
use Rattle.cpg_group.proofs.Placed.{within_keys}
use Rattle.cpg_group.proofs.Stops.{log_there, logs_same, logs_set}
use Rattle.cpg_group.proofs.logs.ConnectionLogs.take_in.Goals as goal

pub pair_mut-log-requires : goal.pair_mut-log-requires
pair_mut-log-requires c = within_keys c.args.self.now.kept.entries c.in-Some.index c.of.result c.in-Some.ensures

pub lengthen-requires-clause-log : goal.lengthen-requires-clause-log
lengthen-requires-clause-log c =
    log_there c.args.self.now.kept.entries c.in-Some.index c.of.result c.pair_mut-log.result.0.now c.pair_mut-log.result.1.now c.pair_mut-log.ensures.unique c.pair_mut-log.ensures.value c.in-Some.ensures c.args.records.now c.args.next.now c.of.ensures c.requires.logs

pub returns-in-Some-clause-longer : goal.returns-in-Some-clause-longer
returns-in-Some-clause-longer c =
    on_ok c.lengthen.result
    (logs_set c.args.self.now.kept.entries c.in-Some.index c.of.result c.pair_mut-log.result.0.now c.pair_mut-log.result.1.now c.pair_mut-log.ensures.unique c.pair_mut-log.ensures.value c.in-Some.ensures c.args.records.now c.args.next.now c.of.ensures c.requires.logs c.lengthen.new.log)
    c.lengthen.ensures.longer

pub returns-in-Some-clause-same : goal.returns-in-Some-clause-same
returns-in-Some-clause-same c =
    on_err c.lengthen.result
    (logs_same c.args.self.now.kept.entries c.in-Some.index c.of.result c.pair_mut-log.result.0.now c.pair_mut-log.result.1.now c.pair_mut-log.ensures.unique c.pair_mut-log.ensures.value c.in-Some.ensures c.args.records.now c.args.next.now c.of.ensures c.requires.logs c.lengthen.new.log)
    c.lengthen.ensures.same

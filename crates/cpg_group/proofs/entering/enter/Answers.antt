use Rattle.cpg_record.specs.Judging.{record_of}
use Rattle.cpg_record.proofs.Named.{on_ok, on_err}
use Rattle.cpg_group.proofs.Placed.{within_keys}
use Rattle.cpg_group.proofs.Stops.{log_there, logs_same, logs_set}
use Rattle.cpg_group.proofs.entering.enter.Goals as goal

pub pair_mut-log-requires : goal.pair_mut-log-requires
pair_mut-log-requires c = within_keys c.args.logs.now.kept.entries c.in-Some.index c.of.result c.in-Some.ensures

pub enter_log-requires-clause-log : goal.enter_log-requires-clause-log
enter_log-requires-clause-log c =
    log_there c.args.logs.now.kept.entries c.in-Some.index c.of.result c.pair_mut-log.result.0.now c.pair_mut-log.result.1.now c.pair_mut-log.ensures.unique c.pair_mut-log.ensures.value c.in-Some.ensures c.args.records.now (record_of c.args.records.now c.args.next.now.entry) c.of.ensures c.requires.logs

pub returns-in-Some-clause-longer : goal.returns-in-Some-clause-longer
returns-in-Some-clause-longer c =
    on_ok c.enter_log.result
    (logs_set c.args.logs.now.kept.entries c.in-Some.index c.of.result c.pair_mut-log.result.0.now c.pair_mut-log.result.1.now c.pair_mut-log.ensures.unique c.pair_mut-log.ensures.value c.in-Some.ensures c.args.records.now (record_of c.args.records.now c.args.next.now.entry) c.of.ensures c.requires.logs c.enter_log.new.log)
    c.enter_log.ensures.longer

pub returns-in-Some-clause-kept : goal.returns-in-Some-clause-kept
returns-in-Some-clause-kept c =
    on_err c.enter_log.result
    (logs_same c.args.logs.now.kept.entries c.in-Some.index c.of.result c.pair_mut-log.result.0.now c.pair_mut-log.result.1.now c.pair_mut-log.ensures.unique c.pair_mut-log.ensures.value c.in-Some.ensures c.args.records.now (record_of c.args.records.now c.args.next.now.entry) c.of.ensures c.requires.logs c.enter_log.new.log)
    c.enter_log.ensures.kept

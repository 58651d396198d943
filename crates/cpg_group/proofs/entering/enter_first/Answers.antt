use Rattle.std.proofs.Common.{ap, ◌∙◌}
use Rattle.cpg_record.specs.declared.records.Record.{Record}
use Rattle.cpg_record.specs.Connections.{conn_of}
use Rattle.cpg_record.specs.Judging.{record_of}
use Rattle.cpg_group.proofs.Stops.{AreConnectionLogs-added}
use Rattle.cpg_group.proofs.entering.enter_first.Goals as goal

pub returns-clause-longer : goal.returns-clause-longer
returns-clause-longer c =
    let next : Record = record_of c.args.records.now c.args.next.now.entry in
    AreConnectionLogs-added c.args.logs.now.kept.entries c.reserve.new.self c.insert.new.self.entries c.args.records.now next c.of.result c.enter_log.new.log
    c.requires.logs c.requires.absent c.reserve.ensures.entries
    (c.of.ensures ∙ ap (λ (r : Record). conn_of r.entry) c.in_ok-enter_log.ensures.ok) c.in_ok-insert.ensures.entries c.in_ok-enter_log.ensures.longer

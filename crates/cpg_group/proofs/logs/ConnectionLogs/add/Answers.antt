use Rattle.std.proofs.Common.{ap, ◌∙◌}
use Rattle.cpg_record.specs.Connections.{conn_of}
use Rattle.cpg_group.proofs.Stops.{AreConnectionLogs-added}
use Rattle.cpg_group.proofs.logs.ConnectionLogs.add.Goals as goal

pub returns-clause-longer : goal.returns-clause-longer
returns-clause-longer c =
    AreConnectionLogs-added c.args.self.now.kept.entries c.reserve.new.self c.insert.new.self.entries c.args.records.now c.args.next.now c.of.result c.lengthen.new.log
    c.requires.logs c.requires.absent c.reserve.ensures.entries c.of.ensures c.in_ok-insert.ensures.entries c.in_ok-lengthen.ensures.longer

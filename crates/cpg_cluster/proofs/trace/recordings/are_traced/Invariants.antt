use Rattle.std.proofs.Common.{take}
use Rattle.cpg_cluster.specs.TraceScripts.{HaveTraces}
use Rattle.cpg_cluster.proofs.trace.recordings.are_traced.Given as goal

abbrev pub invariant-loop-station : goal.invariant-loop-station
invariant-loop-station g l = HaveTraces g.B.HistoryName.start l.front.seen (take l.station-index l.stations)

use Rattle.std.proofs.Common.{take}
use Rattle.std.specs.Io.KnownBytes.{Appends}
use Rattle.cpg_cluster.specs.TraceScripts.{AreFirstNumbers, lines_of}
use Rattle.cpg_cluster.proofs.trace.writing.write_script.Given as goal

abbrev pub invariant-loop-entry : goal.invariant-loop-entry
invariant-loop-entry g l =
    AreFirstNumbers l.script l.numbers.items × Appends (g.W.Write.contents l.initial.writer) (g.W.Write.contents l.writer) (lines_of l.script (take l.entry-index l.script))

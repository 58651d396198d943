use Rattle.std.specs.Io.Buffered.{writer_contents}
use Rattle.cpg_console.proofs.Flushed.{printed, printed_late}
use Rattle.cpg_console.proofs.runs.run_flushed.Goals as goal

pub returns-clause-output : goal.returns-clause-output
returns-clause-output g c =
    printed (g.R.Read.remaining c.args.reader.now) c.args.run.now c.run_script-done.result c.hand_on-flushed.result c.failure_after.result
    (writer_contents g.W.Write.contents c.args.writer.now) (writer_contents g.W.Write.contents c.run_script-done.new.writer)
    (writer_contents g.W.Write.contents c.hand_on-flushed.new.writer)
    c.failure_after.ensures c.run_script-done.ensures.ok c.run_script-done.ensures.err c.hand_on-flushed.ensures.kept

pub returns-clause-late : goal.returns-clause-late
returns-clause-late g c =
    printed_late c.run_script-done.result c.hand_on-flushed.result c.failure_after.result
    (writer_contents g.W.Write.contents c.args.writer.now) (writer_contents g.W.Write.contents c.run_script-done.new.writer)
    (writer_contents g.W.Write.contents c.hand_on-flushed.new.writer)
    c.failure_after.ensures c.run_script-done.ensures.late c.hand_on-flushed.ensures.kept

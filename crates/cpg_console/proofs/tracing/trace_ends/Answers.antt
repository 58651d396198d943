use Rattle.std.proofs.Common.{inr}
use Rattle.std.proofs.KnownBytes.{Appends-kept}
use Rattle.cpg_console.proofs.Fronts.{all_of, whatever}
use Rattle.cpg_console.specs.Tracing.{IsPartlyTraced}
use Rattle.cpg_console.proofs.tracing.trace_ends.Goals as goal

pub returns-clause-err : goal.returns-clause-err
returns-clause-err g c =
    let old = g.T.Write.contents c.args.writer.now in
    let new = g.T.Write.contents c.hand_on.new.writer in
    whatever c.hand_on.result (IsPartlyTraced g.B.HistoryName.start c.args.front.seen c.args.members.items c.args.heading.now old new)
    (inr (c.in_ok-recording.recording.script.items, c.in_ok-recording.recording.cut, c.in_ok-recording.ensures.ok, all_of old new _ (Appends-kept old (g.T.Write.contents c.write_trace.new.writer) new _ c.in_ok-write_trace.ensures.ok c.hand_on.ensures.kept)))

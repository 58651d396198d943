use Rattle.std.proofs.Common.{suc, ◌+◌, ◌<◌, length, take, drop, refl, sym, subst, arith}
use Rattle.std.specs.Io.KnownBytes.{Appends}
use Rattle.std.proofs.KnownBytes.{Appends-trans}
use Rattle.cpg_text.specs.Streams.{AppendsFront}
use Rattle.cpg_cluster.specs.TraceLines.{event_line}
use Rattle.cpg_cluster.specs.TraceScripts.{lines_of, numbered}
use Rattle.cpg_cluster.proofs.Ordered.{item_at}
use Rattle.cpg_cluster.proofs.Written.{front_of_second, lines_next, lines_around}
use Rattle.cpg_cluster.proofs.trace.writing.write_script.Goals as goal

pub returns-in-Err-clause-err : goal.returns-in-Err-clause-err
returns-in-Err-clause-err g c =
    let script = c.args.script.now in
    let i = c.loop-entry.entry-index in
    let r = c.entry-item.result in
    let within : c.loop-entry.entry-index < length c.args.script.now = omega arith in
    subst (AppendsFront (g.W.Write.contents c.args.writer.now) (g.W.Write.contents c.write_entry.new.writer)) (lines_around script i r (item_at script i r within (sym c.entry-item.is)))
    (front_of_second (g.W.Write.contents c.args.writer.now) (g.W.Write.contents c.loop-entry.writer) (g.W.Write.contents c.write_entry.new.writer) (lines_of script (take i script)) (event_line (numbered script r.source r.event)) (lines_of script (drop (suc i) script)) c.loop-entry.invariant.1 c.in-Err.ensures.err)

pub loop-entry-preserved : goal.loop-entry-preserved
loop-entry-preserved g c =
    let script = c.args.script.now in
    let i = c.loop-entry.entry-index in
    let r = c.entry-item.result in
    let within : c.loop-entry.entry-index < length c.args.script.now = omega arith in (
      c.loop-entry.invariant.0,
      subst (Appends (g.W.Write.contents c.args.writer.now) (g.W.Write.contents c.write_entry.new.writer)) (lines_next script i (i + 1) r (item_at script i r within (sym c.entry-item.is)) refl)
          (Appends-trans (g.W.Write.contents c.args.writer.now) (g.W.Write.contents c.loop-entry.writer) (g.W.Write.contents c.write_entry.new.writer) (lines_of script (take i script)) (event_line (numbered script r.source r.event)) c.loop-entry.invariant.1 c.in-Ok.ensures.ok),
    )

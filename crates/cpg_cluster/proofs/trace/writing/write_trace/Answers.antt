use Rattle.std.proofs.Common.{◌++◌, subst}
use Rattle.std.specs.Io.KnownBytes.{Appends}
use Rattle.std.proofs.KnownBytes.{Appends-trans}
use Rattle.cpg_text.specs.Streams.{AppendsFront}
use Rattle.cpg_cluster.specs.TraceScripts.{script_text, end_text, trace_text}
use Rattle.cpg_cluster.proofs.Written.{front_of_first, front_of_second, front_of_last, on_err, on_err_so}
use Rattle.cpg_cluster.proofs.trace.writing.write_trace.Goals as goal

pub returns-in_err-write_whole-clause-err : goal.returns-in_err-write_whole-clause-err
returns-in_err-write_whole-clause-err g c =
    let heading = c.args.heading.now in
    let script = c.args.recording.now.script.items in
    let cut = c.args.recording.now.cut in
    on_err c.from_residual.result (AppendsFront (g.W.Write.contents c.args.writer.now) (g.W.Write.contents c.write_whole.new.writer) (trace_text heading script cut))
    (front_of_first (g.W.Write.contents c.args.writer.now) (g.W.Write.contents c.write_whole.new.writer) (heading ++ script_text script) (end_text cut)
    (front_of_first (g.W.Write.contents c.args.writer.now) (g.W.Write.contents c.write_whole.new.writer) heading (script_text script) c.in_err-write_whole.ensures.err))

pub returns-in_err-write_script-clause-err : goal.returns-in_err-write_script-clause-err
returns-in_err-write_script-clause-err g c =
    let heading = c.args.heading.now in
    let script = c.args.recording.now.script.items in
    let cut = c.args.recording.now.cut in
    on_err c.from_residual-in_err-write_script.result (AppendsFront (g.W.Write.contents c.args.writer.now) (g.W.Write.contents c.write_script.new.writer) (trace_text heading script cut))
    (front_of_second (g.W.Write.contents c.args.writer.now) (g.W.Write.contents c.write_whole.new.writer) (g.W.Write.contents c.write_script.new.writer) heading (script_text script) (end_text cut) c.in_ok-write_whole.ensures.ok (subst (λ l. AppendsFront (g.W.Write.contents c.write_whole.new.writer) (g.W.Write.contents c.write_script.new.writer) (script_text l)) c.as_slice.ensures.value c.in_err-write_script.ensures.err))

pub returns-clause-err : goal.returns-clause-err
returns-clause-err g c =
    let heading = c.args.heading.now in
    let script = c.args.recording.now.script.items in
    let cut = c.args.recording.now.cut in
    let before = Appends-trans (g.W.Write.contents c.args.writer.now) (g.W.Write.contents c.write_whole.new.writer) (g.W.Write.contents c.write_script.new.writer) heading (script_text script) c.in_ok-write_whole.ensures.ok (subst (λ l. Appends (g.W.Write.contents c.write_whole.new.writer) (g.W.Write.contents c.write_script.new.writer) (script_text l)) c.as_slice.ensures.value c.in_ok-write_script.ensures.ok) in
    on_err_so c.write_end.result (AppendsFront (g.W.Write.contents c.write_script.new.writer) (g.W.Write.contents c.write_end.new.writer) (end_text cut)) (AppendsFront (g.W.Write.contents c.args.writer.now) (g.W.Write.contents c.write_end.new.writer) (trace_text heading script cut))
    (front_of_last (g.W.Write.contents c.args.writer.now) (g.W.Write.contents c.write_script.new.writer) (g.W.Write.contents c.write_end.new.writer) (heading ++ script_text script) (end_text cut) before) c.write_end.ensures.err

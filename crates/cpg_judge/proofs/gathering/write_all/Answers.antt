use Rattle.std.proofs.Common.{subst}
use Rattle.std.specs.Io.KnownBytes.{Appends}
use Rattle.cpg_text.specs.Streams.{AppendsFront}
use Rattle.cpg_judge.proofs.Behind.{gathers_cut, gathers_written}
use Rattle.cpg_judge.proofs.gathering.write_all.Goals as goal

pub returns-in-Ok-clause-lines : goal.returns-in-Ok-clause-lines
returns-in-Ok-clause-lines g c = gathers_written _ _ _ _ (subst (Appends (g.W.Write.contents c.args.writer.now) (g.W.Write.contents c.write_whole.new.writer)) c.as_slice.ensures.value c.in-Ok.ensures.ok) c.clear.ensures.items

pub returns-in-Err-clause-lines : goal.returns-in-Err-clause-lines
returns-in-Err-clause-lines g c = gathers_cut _ _ _ _ (subst (AppendsFront (g.W.Write.contents c.args.writer.now) (g.W.Write.contents c.write_whole.new.writer)) c.as_slice.ensures.value c.in-Err.ensures.err)

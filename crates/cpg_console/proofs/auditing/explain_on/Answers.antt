use Rattle.cpg_console.proofs.Audited.{part_told}
use Rattle.cpg_console.proofs.auditing.explain_on.Goals as goal

pub returns-in-Err-explain_over-clause-tells : goal.returns-in-Err-explain_over-clause-tells
returns-in-Err-explain_over-clause-tells g c =
    part_told (g.R.Read.remaining c.args.reader.now) c.args.inquiry.now.asked c.args.settings c.args.foundation.list c.in-Ok.cluster g.B.HistoryName.start g.B.BoardName.cells c.in-Err-explain_over.fault
    c.undelivered.result (g.W.Write.contents c.args.writer.now) (g.W.Write.contents c.explain_over.new.writer)
    c.in-Ok.ensures.ok c.requires.name.2 c.undelivered.ensures c.in-Err-explain_over.ensures.ends c.in-Err-explain_over.ensures.err

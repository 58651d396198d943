use Rattle.std.proofs.Common.{List, [], subst}
use Rattle.std.specs.Prelude.{IfErr}
use Rattle.cpg_record.specs.declared.records.Record.{Record}
use Rattle.cpg_record.specs.Judging.{entries_of}
use Rattle.cpg_why.specs.Scripts.{LeavesEntries}
use Rattle.cpg_why.proofs.steps.explaining.tell_world.Goals as goal

pub returns-clause-err : goal.returns-clause-err
returns-clause-err g c =
    subst
    (λ (rs : List Record). IfErr c.why_of_records.result
    (λ fault. LeavesEntries g.F.Tells.form [] (entries_of rs) c.args.asked fault (g.W.Write.contents c.args.writer.now) (g.W.Write.contents c.why_of_records.new.writer)))
    c.find_longest.ensures.longest c.why_of_records.ensures.err

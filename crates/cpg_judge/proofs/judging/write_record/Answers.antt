use Rattle.std.proofs.Common.{Option, sym, ap}
use Rattle.std.specs.List.{concat}
use Rattle.cpg_record.specs.declared.records.Record.{Record}
use Rattle.cpg_record.specs.Judging.{judged}
use Rattle.cpg_judge.specs.Judging.{record_by, told_at, told_by}
use Rattle.cpg_judge.proofs.Behind.{gathers_and, gathers_put}
use Rattle.cpg_judge.proofs.judging.write_record.Goals as goal

pub returns-clause-lines : goal.returns-clause-lines
returns-clause-lines g c =
    let f = g.P.PutsJudged.form c.args.puts.now in
    let place = c.args.place in
    let lines = told_at f (judged c.args.policy.now) place in
    gathers_and c.write_much.result _ _ _ _ _ _ lines
    (gathers_put _ _ _ (concat (record_by f place c.record_of.result.now)) lines (ap (λ (o : Option Record). concat (told_by f place o)) (sym c.record_of.ensures)) c.in_ok-put_record.ensures.ok)
    c.write_much.ensures

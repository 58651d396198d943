use Rattle.std.proofs.lemmas.Result.{err_from_is_err_and}
use Rattle.cpg_judge.specs.Judging.{lines_told}
use Rattle.cpg_judge.proofs.Behind.{all_gathered, gathered_left, gathers_and}
use Rattle.cpg_judge.proofs.Told.{stopped_at_count, stopped_in_records, told}
use Rattle.cpg_judge.proofs.judging.write_lines.Goals as goal

pub returns-in_err-write_records-clause-err : goal.returns-in_err-write_records-clause-err
returns-in_err-write_records-clause-err g c =
    let failed = err_from_is_err_and c.from_residual.result c.from_residual.ensures.1 in
    rw (failed.1, failed.2) (stopped_in_records (g.P.PutsJudged.form c.args.puts.now) c.args.policy.now _ _ _ _ c.requires.none _ c.in_err-write_records.ensures.lines)

pub returns-in_err-put_count-clause-err : goal.returns-in_err-put_count-clause-err
returns-in_err-put_count-clause-err g c =
    let failed = err_from_is_err_and c.from_residual-in_err-put_count.result c.from_residual-in_err-put_count.ensures.1 in
    rw (failed.1, failed.2) (stopped_at_count (g.P.PutsJudged.form c.args.puts.now) c.args.policy.now _ _ _ _ c.requires.none c.in_ok-write_records.ensures.lines _ c.put_count.new.lines.items c.in_err-put_count.ensures.memory)

pub returns-in_err-write_inboxes-clause-err : goal.returns-in_err-write_inboxes-clause-err
returns-in_err-write_inboxes-clause-err g c =
    let failed = err_from_is_err_and c.from_residual-in_err-write_inboxes.result c.from_residual-in_err-write_inboxes.ensures.1 in
    let all = told (g.P.PutsJudged.form c.args.puts.now) c.args.policy.now _ _ _ _ c.requires.none c.in_ok-write_records.ensures.lines _ _ _ _ (g.P.PutsJudged.form c.write_records.new.puts) c.len.result c.connections.result.now
    c.in_ok-write_records.ensures.same c.len.ensures.value c.in_ok-put_count.ensures.ok c.connections.ensures c.in_err-write_inboxes.ensures in
    rw (failed.1, failed.2) (gathered_left _ _ _ _ (lines_told (g.P.PutsJudged.form c.args.puts.now) c.args.policy.now) all)

pub returns-clause-ok : goal.returns-clause-ok
returns-clause-ok g c =
    let lines = lines_told (g.P.PutsJudged.form c.args.puts.now) c.args.policy.now in
    let all = told (g.P.PutsJudged.form c.args.puts.now) c.args.policy.now _ _ _ _ c.requires.none c.in_ok-write_records.ensures.lines _ _ _ _ (g.P.PutsJudged.form c.write_records.new.puts) c.len.result c.connections.result.now
    c.in_ok-write_records.ensures.same c.len.ensures.value c.in_ok-put_count.ensures.ok c.connections.ensures c.in_ok-write_inboxes.ensures in
    all_gathered c.write_all.result _ _ _ lines c.write_all.ensures.none (gathers_and c.write_all.result _ _ _ _ _ _ lines all c.write_all.ensures.lines)

pub returns-clause-err : goal.returns-clause-err
returns-clause-err g c =
    let lines = lines_told (g.P.PutsJudged.form c.args.puts.now) c.args.policy.now in
    let all = told (g.P.PutsJudged.form c.args.puts.now) c.args.policy.now _ _ _ _ c.requires.none c.in_ok-write_records.ensures.lines _ _ _ _ (g.P.PutsJudged.form c.write_records.new.puts) c.len.result c.connections.result.now
    c.in_ok-write_records.ensures.same c.len.ensures.value c.in_ok-put_count.ensures.ok c.connections.ensures c.in_ok-write_inboxes.ensures in
    gathered_left c.write_all.result _ _ _ lines (gathers_and c.write_all.result _ _ _ _ _ _ lines all c.write_all.ensures.lines)

use Rattle.std.proofs.Common.{◌≡◌, ◌≤◌, length}
use Rattle.std.specs.Prelude.{Ok}
use Rattle.cpg_record.specs.Judging.{most_places}
use Rattle.cpg_judge.specs.Scripts.{entries_of_script}
use Rattle.cpg_why.proofs.Chained.{if_ok_then}
use Rattle.cpg_why.proofs.Few.{entries_few}
use Rattle.cpg_why.proofs.scripts.read_entries.Goals as goal

pub returns-clause-few : goal.returns-clause-few
returns-clause-few c =
    if_ok_then c.read_script.result (λ entries. entries_of_script c.args.script.now ≡ Ok entries.items) (λ entries. length entries.items ≤ most_places)
    (λ entries is. entries_few c.args.script.now entries.items is) c.read_script.ensures.ok

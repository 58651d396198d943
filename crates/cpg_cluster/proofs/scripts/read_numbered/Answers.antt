use Rattle.std.proofs.Common.{◌≡◌, ℕ, List, Result, Ok, IfOk, IfErr, subst}
use Rattle.cpg_text.specs.Reading.{FailsAs}
use Rattle.cpg_cluster.specs.declared.commands.Numbered.{Numbered}
use Rattle.cpg_cluster.proofs.Scripted as scripted
use Rattle.cpg_cluster.proofs.scripts.read_numbered.Goals as goal

pub returns-clause-ok : goal.returns-clause-ok
returns-clause-ok c =
    let e = scripted.read_numbered c.args.nodes c.args.numbers.now c.args.script.now c.requires.numbers in
    subst (λ (read : Result (List Numbered) ℕ). IfOk c.read_script.result (λ lines. read ≡ Ok lines.items)) e c.read_script.ensures.ok

pub returns-clause-err : goal.returns-clause-err
returns-clause-err c =
    let e = scripted.read_numbered c.args.nodes c.args.numbers.now c.args.script.now c.requires.numbers in
    subst (λ (read : Result (List Numbered) ℕ). IfErr c.read_script.result (λ refused. FailsAs read refused)) e c.read_script.ensures.err

use Rattle.std.proofs.Common.{length, sym, ap, ◌∙◌}
use Rattle.cpg_text.specs.Lines.{is_ignored}
use Rattle.cpg_judge.specs.Scripts.{entry_in}
use Rattle.cpg_judge.proofs.Reading.{found_one}
use Rattle.cpg_judge.proofs.scripts.judge_line.Goals as goal

pub returns-clause-ok : goal.returns-clause-ok
returns-clause-ok c =
    let line = c.trim-line.ensures in
    let says = ap is_ignored (sym line) ∙ sym c.is_ignored.ensures ∙ c.if-is_ignored.false in
    let is = ap (λ l. entry_in (length c.args.policy.now) l) (sym line) ∙ sym c.in_ok-found.ensures.entry in
    found_one entry_in c.enter_found.result _ c.args.policy.now c.enter_found.new.policy c.args.number c.args.line.now _ says is c.enter_found.ensures.ok c.enter_found.ensures.err

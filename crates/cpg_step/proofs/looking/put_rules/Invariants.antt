use Rattle.std.proofs.Common.{◌≡◌, ◌++◌, map, take}
use Rattle.std.specs.List.{concat}
use Rattle.cpg_step.specs.Looks.{rule_by}
use Rattle.cpg_step.proofs.looking.put_rules.Given as goal

abbrev pub invariant-loop-index : goal.invariant-loop-index
invariant-loop-index g l = l.lines.items ≡ l.initial.lines.items ++ concat (map (rule_by (g.F.TellsLooks.form l.form)) (take l.index l.table))

use Rattle.std.proofs.Common.{◌≡◌, ◌++◌, take, codes}
use Rattle.std.specs.List.{flat_map}
use Rattle.cpg_print.proofs.answers.put_names.Given as goal

abbrev pub invariant-loop-name : goal.invariant-loop-name
invariant-loop-name l = l.line.items ≡ l.initial.line.items ++ flat_map (λ name. codes " " ++ name) (take l.name-index l.names)

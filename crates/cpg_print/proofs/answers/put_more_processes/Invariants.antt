use Rattle.std.proofs.Common.{◌≡◌, ◌++◌, take, codes}
use Rattle.std.specs.List.{flat_map}
use Rattle.cpg_print.specs.Records.{process_text}
use Rattle.cpg_print.proofs.answers.put_more_processes.Given as goal

abbrev pub invariant-loop-process : goal.invariant-loop-process
invariant-loop-process l = l.line.items ≡ l.initial.line.items ++ flat_map (λ process. codes "," ++ process_text process) (take l.process-index l.processes)

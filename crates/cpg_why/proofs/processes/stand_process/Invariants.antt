use Rattle.std.proofs.Common.{◌≡◌, ◌++◌, take}
use Rattle.std.specs.List.{flat_map}
use Rattle.cpg_record.specs.Judging.{judged}
use Rattle.cpg_why.specs.Processes.{stand_if}
use Rattle.cpg_why.proofs.processes.stand_process.Given as goal

abbrev pub invariant-loop-conn : goal.invariant-loop-conn
invariant-loop-conn l = l.list.items ≡ l.initial.list.items ++ flat_map (stand_if (judged l.policy) l.pid l.place) (take l.conn-index l.conns)

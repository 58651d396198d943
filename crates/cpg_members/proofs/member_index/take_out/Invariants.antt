use Rattle.std.proofs.Common.{take}
use Rattle.cpg_members.specs.Processes.{TakesOut}
use Rattle.cpg_members.proofs.member_index.take_out.Given as goal

abbrev pub invariant-loop-member : goal.invariant-loop-member
invariant-loop-member l = TakesOut l.conn (take l.member-index l.members) l.initial.processes.keys l.processes.keys

use Rattle.std.proofs.Common.{take}
use Rattle.cpg_members.specs.Processes.{AreProcesses}
use Rattle.cpg_members.proofs.member_index.processes_of.Given as goal

abbrev pub invariant-loop-member : goal.invariant-loop-member
invariant-loop-member l = AreProcesses l.processes.keys (take l.member-index l.members)

use Rattle.std.proofs.Common.{ap, subst, take_all, ◌∙◌}
use Rattle.cpg_members.specs.Processes.{process_in, AreProcesses}
use Rattle.cpg_members.proofs.Indexed.{one_more}
use Rattle.cpg_members.proofs.member_index.processes_of.Goals as goal

pub loop-member-preserved : goal.loop-member-preserved
loop-member-preserved c =
    one_more c.args.members.now c.loop-member.member-index c.member-item.result c.of_member.result c.loop-member.processes.keys c.insert.new.self.keys
    c.loop-member-test.true c.loop-member.invariant (c.of_member.ensures ∙ ap process_in c.member-item.is) c.in_ok-insert.ensures.updates.0

pub returns-clause-ok : goal.returns-clause-ok
returns-clause-ok c = subst (AreProcesses c.loop-member.processes.keys) (take_all c.loop-member.member-index c.args.members.now c.loop-member-test.false) c.loop-member.invariant

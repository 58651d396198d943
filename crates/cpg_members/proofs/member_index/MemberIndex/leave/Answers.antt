use Rattle.std.proofs.Common.{sym, subst}
use Rattle.cpg_record.specs.Connections.{conn_of}
use Rattle.cpg_members.specs.Processes.{Leaves}
use Rattle.cpg_members.proofs.member_index.MemberIndex.leave.Goals as goal

pub keep_rest-requires-clause-left : goal.keep_rest-requires-clause-left
keep_rest-requires-clause-left c = subst (λ members. Leaves (conn_of c.args.past.now.entry) members c.args.past.now.members) (sym c.self.view_is) c.requires

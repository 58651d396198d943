use Rattle.std.proofs.Common.{sym, ap, subst, arith, ◌∙◌}
use Rattle.cpg_record.specs.Connections.{conn_of}
use Rattle.cpg_members.specs.Processes.{kept_of, AreKept, TakesOut}
use Rattle.cpg_members.proofs.Indexed.{few_stay, leavers_out}
use Rattle.cpg_members.proofs.member_index.keep_rest.Goals as goal

pub returns-in-Some : goal.returns-in-Some
returns-in-Some c = (
  search arith,
  leavers_out (conn_of c.args.past.now.entry) c.args.before.now c.args.past.now.members c.in-Some.kept.value.keys c.take_out.new.processes.keys
      (subst (λ boxed. AreKept (kept_of boxed) c.args.before.now) c.in-Some.is c.requires.kept).1 c.requires.left.1
      (subst (λ conn. TakesOut conn c.args.before.now c.in-Some.kept.value.keys c.take_out.new.processes.keys) c.of-conn.ensures
      (subst (λ members. TakesOut c.of-conn.result members c.in-Some.kept.value.keys c.take_out.new.processes.keys) c.as_slice.ensures
      (subst (λ set. TakesOut c.of-conn.result c.as_slice.result.now set.keys c.take_out.new.processes.keys) c.deref_mut.ensures.value c.take_out.ensures)))
      c.requires.left.0,
)

pub returns-in_default : goal.returns-in_default
returns-in_default c =
    subst (λ boxed. AreKept (kept_of boxed) c.args.past.now.members) (sym c.in_default.is)
    (few_stay (conn_of c.args.past.now.entry) c.args.before.now c.args.past.now.members c.requires.left.0
    (subst (λ boxed. AreKept (kept_of boxed) c.args.before.now) c.in_default.is c.requires.kept))

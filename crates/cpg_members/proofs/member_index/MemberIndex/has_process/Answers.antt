use Rattle.std.proofs.Common.{ap, subst, ◌∙◌}
use Rattle.std.specs.List.{list_any}
use Rattle.cpg_record.specs.Verdicts.{has_process}
use Rattle.cpg_members.specs.Processes.{kept_of, process_in, is_process, AreKept}
use Rattle.cpg_members.proofs.member_index.MemberIndex.has_process.Goals as goal

pub returns-in-Some : goal.returns-in-Some
returns-in-Some c =
    c.contains.ensures
    ∙ ap (λ set. list_any (is_process c.of.result) set.keys) c.deref.ensures
    ∙ (subst (λ boxed. AreKept (kept_of boxed) c.self.inside.members) c.in-Some.is c.self.invariant).1 c.of.result
    ∙ ap (λ p. list_any (λ member. is_process (process_in member) p) c.self.inside.members) c.of.ensures
    ∙ ap (has_process c.args.entry.now) c.self.view_is

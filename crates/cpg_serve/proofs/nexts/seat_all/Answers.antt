use Rattle.std.proofs.Common.{List, ◌∙◌, ap, length, subst}
use Rattle.std.specs.Prelude.{IfErr}
use Rattle.std.proofs.lemmas.Result.{on_ok_weaker}
use Rattle.cpg_record.specs.Membership.{Membership, memberships}
use Rattle.cpg_node.specs.Nodes.{records_of}
use Rattle.cpg_serve.specs.Refusals.{WhyNotJoined}
use Rattle.cpg_serve.proofs.Whole.{seated_by}
use Rattle.cpg_serve.proofs.nexts.seat_all.Goals as goal

pub returns : goal.returns
returns c = record {
  ok = on_ok_weaker c.join_all.result
      (λ joined. seated_by c.args.numbers.now c.as_slice.result.now c.in_ok-all.all.items (records_of c.args.old.now) c.audit.result.now c.args.node.now c.join_all.new.node c.as_slice.ensures.value c.in_ok-all.ensures.ok c.audit.ensures joined)
      c.join_all.ensures.ok;
  why = λ es b. subst (λ (m : List Membership). IfErr c.join_all.result (λ why. WhyNotJoined c.args.numbers.now c.args.node.now (length es) m why)) (c.as_slice.ensures.value ∙ c.in_ok-all.ensures.ok ∙ ap memberships c.audit.ensures) (c.join_all.ensures.why es b);
}

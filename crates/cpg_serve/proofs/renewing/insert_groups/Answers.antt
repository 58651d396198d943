use Rattle.std.proofs.Common.{List, ℕ, map, arith, rules, subst}
use Rattle.std.proofs.lemmas.List.{take_all}
use Rattle.cpg_serve.specs.Renewing.{all_inserts}
use Rattle.cpg_serve.specs.Carrying.{HasPut, table_of}
use Rattle.cpg_serve.proofs.Begun.{put_groups_more}
use Rattle.cpg_serve.proofs.Refused.{groups_why}
use Rattle.cpg_node.specs.Nodes.{records_of}
use Rattle.cpg_serve.proofs.renewing.insert_groups.Goals as goal

pub loop-group-preserved : goal.loop-group-preserved
loop-group-preserved c = record {
  put = λ root is. put_groups_more root (records_of c.args.old.now) c.args.groups.now c.loop-group.group-index c.group-item.result c.args.node.now c.loop-group.node c.insert_group.new.node c.loop-group-test.true c.group-item.is
      (c.loop-group.invariant.put root is) (c.in_ok-insert_group.ensures.ok root is);
}

pub returns : goal.returns
returns c = record {
  ok = λ root own. subst (λ (l : List (List ℕ)). HasPut root (all_inserts root (map (table_of (records_of c.args.old.now)) l)) c.args.node.now c.loop-group.node)
      (take_all c.loop-group.group-index c.args.groups.now (omega (arith, c.loop-group-test.false))) (c.loop-group.invariant.put root own);
  why = λ root es own r b. tt;
}

pub returns-in_err-insert_group-clause-why : goal.returns-in_err-insert_group-clause-why
returns-in_err-insert_group-clause-why c = λ root es own r b.
    let why = groups_why root (records_of c.args.old.now) c.args.groups.now c.loop-group.group-index c.group-item.result c.args.node.now c.loop-group.node es _ c.loop-group-test.true c.group-item.is (c.loop-group.invariant.put root own) r b
    (λ fs s d. c.in_err-insert_group.ensures.why root fs own s d) in
    search rules

use Rattle.std.proofs.Common.{◌≡◌, [], ℕ, List, length, subst}
use Rattle.std.proofs.lemmas.Result.{on_ok_weaker}
use Rattle.cpg_node.specs.Nodes.{records_of}
use Rattle.cpg_record.specs.RuleTables.{rules_of}
use Rattle.cpg_rules.specs.Tables.{Rules}
use Rattle.cpg_serve.proofs.Begun.{put_empty, put_table}
use Rattle.cpg_serve.proofs.Refused.{few_rules, put_same}
use Rattle.cpg_serve.proofs.renewing.insert_group.Goals as goal

pub returns-in-None : goal.returns-in-None
returns-in-None c = record {
  ok = λ root own. put_empty root (records_of c.args.old.now) c.args.group.now c.args.node.now
      (subst (λ (g : List ℕ). rules_of (records_of c.args.old.now) g ≡ []) c.as_slice.ensures c.in-None.ensures);
  why = λ root es own r b. tt;
}

pub returns-in-Some : goal.returns-in-Some
returns-in-Some c = record {
  ok = on_ok_weaker c.insert_all.result
      (λ put. λ root own. put_table root (records_of c.args.old.now) c.args.group.now c.in-Some.table.now c.args.node.now c.insert_all.new.node
      (subst (λ (g : List ℕ). c.in-Some.table.now ≡ rules_of (records_of c.args.old.now) g) c.as_slice.ensures c.in-Some.ensures) (put root own))
      c.insert_all.ensures.ok;
  why = λ root es own r b. put_same c.args.node.now.ring.settings c.args.group.now (records_of c.args.old.now) c.in-Some.table.now (length es) c.insert_all.result
      (subst (λ (g : List ℕ). c.in-Some.table.now ≡ rules_of (records_of c.args.old.now) g) c.as_slice.ensures c.in-Some.ensures) (c.insert_all.ensures.why root es own r b);
}

pub insert_all-requires : goal.insert_all-requires
insert_all-requires c = few_rules c.args.old.now c.as_slice.result.now c.in-Some.table.now c.in-Some.ensures

use Rattle.std.proofs.Common.{rules}
use Rattle.std.proofs.lemmas.Result.{on_ok_weaker}
use Rattle.cpg_node.specs.Nodes.{records_of}
use Rattle.cpg_serve.proofs.Unbegun.{groups_not, root_not}
use Rattle.cpg_serve.proofs.Whole.{tables_by}
use Rattle.cpg_serve.proofs.nexts.put_tables.Goals as goal

pub returns-in_err-insert_groups-clause-why : goal.returns-in_err-insert_groups-clause-why
returns-in_err-insert_groups-clause-why c = λ root es own r b.
    let why = groups_not (records_of c.args.old.now) c.audit.result.now c.as_slice.result.now c.in_ok-groups.groups.keys c.args.node.now es _ c.as_slice.ensures.keys c.in_ok-groups.ensures.ok c.audit.ensures (c.in_err-insert_groups.ensures.why root es own r b) in
    search rules

pub returns : goal.returns
returns c = record {
  ok = on_ok_weaker c.part.result
      (λ parted. tables_by c.as_slice.result.now c.in_ok-groups.groups.keys (records_of c.args.old.now) c.audit.result.now c.args.node.now c.insert_groups.new.node c.part.new.node c.as_slice.ensures.keys
      c.in_ok-groups.ensures.ok c.audit.ensures c.in_ok-insert_groups.ensures.ok parted)
      c.part.ensures.ok;
  why = λ root es own r b. root_not root (records_of c.args.old.now) c.audit.result.now c.as_slice.result.now c.in_ok-groups.groups.keys c.args.node.now c.insert_groups.new.node es c.part.result c.as_slice.ensures.keys
      c.in_ok-groups.ensures.ok c.audit.ensures own (c.in_ok-insert_groups.ensures.ok root own) r b c.part.ensures.why;
}

use Rattle.std.proofs.Common.{◌≡◌, map, take}
use Rattle.cpg_node.specs.Nodes.{records_of}
use Rattle.cpg_serve.specs.Renewing.{Root, all_inserts}
use Rattle.cpg_serve.specs.Carrying.{HasPut, table_of}
use Rattle.cpg_serve.proofs.renewing.insert_groups.Given as goal

abbrev pub invariant-loop-group : goal.invariant-loop-group
invariant-loop-group l = record {
  put : (root : Root) → root.conn ≡ l.conn → HasPut root (all_inserts root (map (table_of (records_of l.old)) (take l.group-index l.groups))) l.fn.node l.node;
}

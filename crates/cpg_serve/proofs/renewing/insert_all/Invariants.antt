use Rattle.std.proofs.Common.{◌≡◌, ◌≤◌, ◌-◌, length, take}
use Rattle.cpg_serve.specs.Renewing.{Root, bare, inserts}
use Rattle.cpg_serve.specs.Carrying.{HasPut}
use Rattle.cpg_serve.proofs.renewing.insert_all.Given as goal

abbrev pub invariant-loop-rule : goal.invariant-loop-rule
invariant-loop-rule l = record {
  put : (root : Root) → root.conn ≡ l.conn → HasPut root (inserts root l.group 0 (bare (take l.index l.table))) l.fn.node l.node;
  within : l.index ≤ length l.table;
}

abbrev pub decreases-loop-rule : goal.decreases-loop-rule
decreases-loop-rule l = length l.table - l.index

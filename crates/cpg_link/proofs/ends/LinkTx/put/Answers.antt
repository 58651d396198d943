use Rattle.std.proofs.Common.{ap}
use Rattle.cpg_link.specs.declared.passes.Known.{Known}
use Rattle.cpg_link.proofs.Carrying.{sends, behind}
use Rattle.cpg_link.proofs.ends.LinkTx.put.Goals as goal

pub push_as-requires-clause-rule : goal.push_as-requires-clause-rule
push_as-requires-clause-rule g c =
    let may = ap (λ (v : Known g.row.T.Denot). v.puts) c.self.invariant.1 in
    (sends _ _ _ _ may, behind _ _ may)

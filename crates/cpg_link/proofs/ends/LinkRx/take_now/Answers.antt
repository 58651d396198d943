use Rattle.std.proofs.Common.{ap}
use Rattle.cpg_link.specs.declared.passes.Known.{Known}
use Rattle.cpg_link.proofs.Carrying.{gets}
use Rattle.cpg_link.proofs.ends.LinkRx.take_now.Goals as goal

pub try_pop_as-requires-clause-rule : goal.try_pop_as-requires-clause-rule
try_pop_as-requires-clause-rule g c = gets _ _ (ap (λ (v : Known g.row.T.Denot). v.takes) c.self.invariant.1)

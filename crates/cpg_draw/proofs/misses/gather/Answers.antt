use Rattle.std.proofs.Common.{arith}
use Rattle.cpg_draw.proofs.Overtaken.{from_first}
use Rattle.cpg_draw.proofs.misses.gather.Goals as goal

pub returns-clause-ok : goal.returns-clause-ok
returns-clause-ok c = from_first c.args.nodes c.loop-index.index c.args.arrows.now c.loop-index.misses.items (omega arith) c.loop-index.invariant.put

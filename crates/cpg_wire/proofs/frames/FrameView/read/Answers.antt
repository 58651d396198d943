use Rattle.std.proofs.Common.{arith}
use Rattle.cpg_wire.proofs.Answered.{seen_in_range}
use Rattle.cpg_wire.proofs.Ending.{seen_last}
use Rattle.cpg_wire.proofs.frames.FrameView.read.Goals as goal

pub returns-clause-range : goal.returns-clause-range
returns-clause-range c = seen_in_range c.args.bytes.now c.read_whole.result (λ i. omega (arith, c.type_inv.bytes i)) c.read_whole.ensures

pub returns-clause-last : goal.returns-clause-last
returns-clause-last c = seen_last c.args.bytes.now c.read_whole.result (λ i. omega (arith, c.type_inv.bytes i)) c.read_whole.ensures

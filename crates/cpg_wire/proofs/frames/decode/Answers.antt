use Rattle.std.proofs.Common.{arith}
use Rattle.cpg_wire.proofs.Answered.{found, malformed, refused, in_range}
use Rattle.cpg_wire.proofs.frames.decode.Goals as goal

pub returns-clause-ok : goal.returns-clause-ok
returns-clause-ok c = found c.args.bytes.now c.answer.result (λ i. omega (arith, c.type_inv.bytes i)) c.answer.ensures

pub returns-clause-err : goal.returns-clause-err
returns-clause-err c = refused c.args.bytes.now c.answer.result c.answer.ensures

pub returns-clause-malformed : goal.returns-clause-malformed
returns-clause-malformed c = malformed c.args.bytes.now c.answer.result (λ i. omega (arith, c.type_inv.bytes i)) c.answer.ensures

pub returns-clause-range : goal.returns-clause-range
returns-clause-range c = in_range c.args.bytes.now c.answer.result (found c.args.bytes.now c.answer.result (λ i. omega (arith, c.type_inv.bytes i)) c.answer.ensures)

use Rattle.std.proofs.Common.{arith}
use Rattle.cpg_wire.specs.Reading.{places_at}
use Rattle.cpg_wire.proofs.Loop.{goes_on, ends, is_done}
use Rattle.cpg_wire.proofs.tokens.read_places.Goals as goal

pub loop-preserved : goal.loop-preserved
loop-preserved c = record {
  read = rw c.push.ensures.items (goes_on c.loop.places.items c.args.count c.loop.counter c.loop.last c.args.high c.loop.input c.in_ok-last.last c.u32_within.new.self (places_at c.args.count 0 c.args.high c.args.input.now) c.loop-test.true c.in_ok-last.ensures.reads c.loop.invariant.read);
  below = omega (arith, c.in_ok-last.ensures.range);
  so_many = omega (arith, c.push.ensures.len);
}

pub returns : goal.returns
returns c = is_done c.loop.places.items c.args.count c.loop.counter c.loop.last c.args.high c.loop.input (places_at c.args.count 0 c.args.high c.args.input.now) c.loop-test.false c.loop.invariant.read

pub returns-in_err-last : goal.returns-in_err-last
returns-in_err-last c = rw c.from_residual.ensures (ends c.loop.places.items c.args.count c.loop.counter c.loop.last c.args.high c.loop.input (places_at c.args.count 0 c.args.high c.args.input.now) c.loop-test.true c.in_err-last.ensures.reads c.loop.invariant.read)

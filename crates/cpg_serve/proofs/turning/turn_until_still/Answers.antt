use Rattle.std.proofs.Common.{arith, rules, ◌<◌, length}
use Rattle.cpg_serve.proofs.Turns.{brisk_same, brisk_turn, moving_by, none_next, turned_delivered, turned_then}
use Rattle.cpg_serve.proofs.turning.turn_until_still.Goals as goal

pub returns-in_err-place_some-clause-did : goal.returns-in_err-place_some-clause-did
returns-in_err-place_some-clause-did c = turned_then c.args.node.now c.loop-node.node c.place_some.new.node c.loop-node.invariant.did c.place_some.ensures.did

pub returns-in_err-place_some-clause-why : goal.returns-in_err-place_some-clause-why
returns-in_err-place_some-clause-why c = λ t placed is.
    let s = c.loop-node.invariant.did.lone t placed is in
    let why = moving_by c.args.node.now.ring c.loop-node.node.ring c.place_some.new.node.ring _ c.loop-node.invariant.brisk (c.in_err-place_some.ensures.why s.token s.more s.is) in
    search rules

pub loop-node-preserved : goal.loop-node-preserved
loop-node-preserved c =
    let some : 0 < length c.loop-node.node.ring.state.waiting = omega (arith, c.loop-node-test.true, c.waiting.ensures) in
    let turned = turned_then c.args.node.now c.loop-node.node c.place_some.new.node c.loop-node.invariant.did c.place_some.ensures.did in
    let brisk = brisk_turn c.args.node.now.ring c.loop-node.node.ring c.place_some.new.node.ring c.in_ok-place_some.ensures.turn c.loop-node.invariant.did.lone c.loop-node.invariant.brisk
    (none_next c.loop-node.node c.loop-node.invariant.still) some c.in_ok-place_some.ensures.less in
    record {
      did = turned_delivered c.args.node.now c.place_some.new.node c.deliver_all-in-loop-node.new.node turned c.deliver_all-in-loop-node.ensures.did;
      brisk = brisk_same c.args.node.now.ring c.place_some.new.node.ring c.deliver_all-in-loop-node.new.node.ring turned.lone brisk c.deliver_all-in-loop-node.ensures.did.waiting
          c.deliver_all-in-loop-node.ensures.did.last c.deliver_all-in-loop-node.ensures.did.alike.settings;
      still = c.in_ok-deliver_all-2.ensures.ok;
    }

pub returns-in_err-deliver_all-2-clause-did : goal.returns-in_err-deliver_all-2-clause-did
returns-in_err-deliver_all-2-clause-did c =
    let turned = turned_then c.args.node.now c.loop-node.node c.place_some.new.node c.loop-node.invariant.did c.place_some.ensures.did in
    turned_delivered c.args.node.now c.place_some.new.node c.deliver_all-in-loop-node.new.node turned c.deliver_all-in-loop-node.ensures.did

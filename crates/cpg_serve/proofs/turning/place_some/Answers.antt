use Rattle.std.proofs.Common.{refl, arith, rules}
use Rattle.cpg_serve.proofs.Turns.{has_turned, none_next, refused_is, stuck_is}
use Rattle.cpg_serve.proofs.turning.place_some.Goals as goal

pub returns-in_err-turn-clause-why : goal.returns-in_err-turn-clause-why
returns-in_err-turn-clause-why c = λ t placed is.
    let why = refused_is c.args.node.now c.turn.new.self _ _ t placed refl c.in_err-turn.ensures.answer is c.requires.some in
    search rules

pub returns-then-waiting-before-clause-did : goal.returns-then-waiting-before-clause-did
returns-then-waiting-before-clause-did c = (has_turned c.args.node.now c.turn.new.self _ c.if-not-branch.false c.in_ok-turn.ensures.answer c.turn.ensures.kept).0

pub returns-else-waiting-before-clause-did : goal.returns-else-waiting-before-clause-did
returns-else-waiting-before-clause-did c = (has_turned c.args.node.now c.turn.new.self _ c.if-not-branch.false c.in_ok-turn.ensures.answer c.turn.ensures.kept).0

pub returns-else-waiting-before-clause-why : goal.returns-else-waiting-before-clause-why
returns-else-waiting-before-clause-why c = λ t placed is.
    let turn = has_turned c.args.node.now c.turn.new.self _ c.if-not-branch.false c.in_ok-turn.ensures.answer c.turn.ensures.kept in
    stuck_is c.args.node.now.ring c.turn.new.self.ring t placed is turn.1 (none_next c.args.node.now c.requires.still) c.requires.some
    (omega (arith, c.if-waiting-before.false, c.waiting.ensures, c.waiting-before.ensures))

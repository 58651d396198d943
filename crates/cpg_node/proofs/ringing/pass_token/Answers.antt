use Rattle.std.proofs.Common.{subst}
use Rattle.cpg_entry.specs.Ranges.{IsToken}
use Rattle.cpg_ring.specs.declared.visit.Visit.{Visit}
use Rattle.cpg_node.proofs.Keeping.{heard_token}
use Rattle.cpg_node.proofs.ringing.pass_token.Goals as goal

pub returns-clause-kept : goal.returns-clause-kept
returns-clause-kept c =
    let next = subst (λ (v : Visit). IsToken v.token) c.in_ok-next.ensures.answer.1 c.in_ok-next.ensures.in_range.token in
    heard_token c.args.ring.now _ c.args.token.now c.requires.sound c.in_ok-next.ensures.answer.0 next c.in_ok-accept.ensures.ok

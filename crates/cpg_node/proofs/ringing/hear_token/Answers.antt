use Rattle.std.proofs.Common.{All, sym, ap, ◌∙◌, subst, map, ◌++◌, ◌∷◌, []}
use Rattle.cpg_entry.specs.declared.frames.Frame.TheVariants as frames
use Rattle.cpg_node.specs.Answers.{spelled, CanBeSpelled}
use Rattle.cpg_entry.specs.Ranges.{IsPacket, IsToken}
use Rattle.cpg_ring.specs.declared.visit.Visit.{Visit}
use Rattle.cpg_node.proofs.Keeping.{packets_ruled, heard_token, visit_few}
use Rattle.cpg_node.proofs.ringing.hear_token.Goals as goal

pub spell_visit-requires : goal.spell_visit-requires
spell_visit-requires c =
    let next = subst (λ (v : Visit). IsToken v.token) c.in_ok-visit.ensures.answer.1 c.in_ok-visit.ensures.in_range.token in
    record {
      packets = subst (λ (v : Visit). All IsPacket v.packets) (sym c.in_ok-visit.ensures.answer.1) (packets_ruled c.args.ring.now c.args.token.now c.requires.sound next);
      token = c.in_ok-visit.ensures.in_range.token;
    }

pub returns-clause-kept : goal.returns-clause-kept
returns-clause-kept c =
    let next = subst (λ (v : Visit). IsToken v.token) c.in_ok-visit.ensures.answer.1 c.in_ok-visit.ensures.in_range.token in
    heard_token c.args.ring.now _ c.args.token.now c.requires.sound c.in_ok-visit.ensures.answer.0 next c.in_ok-accept.ensures.ok

pub returns-clause-range : goal.returns-clause-range
returns-clause-range c = subst (λ (v : Visit). All CanBeSpelled (map frames.Packet v.packets ++ frames.Token v.token ∷ [])) c.in_ok-visit.ensures.answer.1 c.in_ok-list.ensures.range

pub returns-clause-few : goal.returns-clause-few
returns-clause-few c = visit_few c.args.ring.now c.args.token.now _ c.requires.token (c.in_ok-list.ensures.ok ∙ ap (λ (v : Visit). spelled (map frames.Packet v.packets ++ frames.Token v.token ∷ [])) c.in_ok-visit.ensures.answer.1)

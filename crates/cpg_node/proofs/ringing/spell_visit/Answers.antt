use Rattle.std.proofs.Common.{All, map, ap, subst, ◌∙◌}
use Rattle.std.proofs.lemmas.List.Elements.{All-push}
use Rattle.cpg_entry.specs.declared.frames.Frame.TheVariants as frames
use Rattle.cpg_node.specs.Answers.{spelled, CanBeSpelled}
use Rattle.cpg_node.proofs.Keeping.{spelled_push}
use Rattle.cpg_node.proofs.ringing.spell_visit.Goals as goal

pub returns-clause-ok : goal.returns-clause-ok
returns-clause-ok c = c.in_ok-push.ensures.items ∙ spelled_push (map frames.Packet c.args.visit.now.packets) (frames.Token c.args.visit.now.token) _ _ (c.in_ok-list.ensures.ok ∙ ap (λ ps. spelled (map frames.Packet ps)) c.as_slice.ensures) c.in_ok-encode_token_in.ensures.ok.3

pub returns-clause-range : goal.returns-clause-range
returns-clause-range c = All-push CanBeSpelled (map frames.Packet c.args.visit.now.packets) (frames.Token c.args.visit.now.token)
    (subst (λ ps. All CanBeSpelled (map frames.Packet ps)) c.as_slice.ensures c.in_ok-list.ensures.range)
    (c.in_ok-encode_token_in.ensures.ok.0, c.in_ok-encode_token_in.ensures.ok.1)

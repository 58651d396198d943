use Rattle.std.proofs.Common.{sym, ap, ◌∙◌}
use Rattle.std.specs.Option.{option_copied}
use Rattle.cpg_node.proofs.Keeping.{can_judge}
use Rattle.cpg_node.proofs.nodes.Node.judge_next.Goals as goal

pub judge-requires : goal.judge-requires
judge-requires c = can_judge c.self.inside.ring c.policy.result.now _ (c.policy.ensures ∙ c.self.invariant.judged) c.self.invariant.sound (sym c.next_place.ensures.entry ∙ ap option_copied c.in-Some.is)

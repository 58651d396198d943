use Rattle.std.proofs.Common.{sym, ap, ◌∙◌, ◌++◌, ◌∷◌, [], Ok}
use Rattle.cpg_world_laws.specs.declared.replies.Reply.TheVariants as reply
use Rattle.cpg_world.proofs.Sending.{timer_sends}
use Rattle.cpg_world.proofs.meeting.meet_timer.Goals as goal

pub returns-in-Some-clause-met : goal.returns-in-Some-clause-met
returns-in-Some-clause-met c =
    let t = timer_sends c.reads_what_is_spelled.ensures.again c.args.node.now c.args.sent.now.items c.in-Some.bytes c.push_reserved.new.self.items c.requires.spelled (sym c.in-Some.is ∙ c.in_ok-timer.ensures.ok) c.in_ok-timer.ensures.range (c.push_reserved.ensures.items ∙ ap (λ l. l ++ c.in-Some.bytes ∷ []) c.in_ok-reserve.ensures.items) in
    (ap (λ n. Ok (reply.Sent n)) (sym t.1), c.in_ok-timer.ensures.same, t.0.frames)

pub returns-in-Some-clause-spelled : goal.returns-in-Some-clause-spelled
returns-in-Some-clause-spelled c = (timer_sends c.reads_what_is_spelled.ensures.again c.args.node.now c.args.sent.now.items c.in-Some.bytes c.push_reserved.new.self.items c.requires.spelled (sym c.in-Some.is ∙ c.in_ok-timer.ensures.ok) c.in_ok-timer.ensures.range (c.push_reserved.ensures.items ∙ ap (λ l. l ++ c.in-Some.bytes ∷ []) c.in_ok-reserve.ensures.items)).0.spelled

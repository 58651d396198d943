use Rattle.std.proofs.Common.{◌≡◌, ◌∙◌, ◌∷◌}
use Rattle.cpg_daemon.specs.Submitting.{SubmitsOne}
use Rattle.cpg_daemon.proofs.Submitting.{one_more}
use Rattle.cpg_daemon.proofs.running.Running.submit_each.Goals as goal

pub loop-call-preserved : goal.loop-call-preserved
loop-call-preserved g c =
    let start = g.B.HistoryName.start in
    let so_far = c.loop-call.invariant in
    let one : SubmitsOne start c.loop-call.session c.in-Some.call c.submit_to.new.session = c.in_default-submit_to.ensures in
    let first : c.loop-call.calls.items ≡ c.in-Some.call ∷ c.pop_front.new.self.items = c.in-Some.ensures.items in
    record {
      first = one_more start c.args.session.now c.args.calls.now.items c.loop-call.calls.items c.loop-call.session c.in-Some.call c.pop_front.new.self.items c.submit_to.new.session so_far.first first one;
      who = one.who ∙ so_far.who;
      seat = one.seat ∙ so_far.seat;
    }

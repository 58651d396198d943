use Rattle.std.proofs.Common.{◌≡◌, ◌∙◌, true, Ok, Err, Some, subst, sym, rules}
use Rattle.cpg_daemon.specs.Taking.{TakesNext, IsTakenMany}
use Rattle.cpg_daemon.proofs.Taking.{same_id, begins_on, one_more, ends}
use Rattle.cpg_daemon.proofs.running.Running.take_many.Goals as goal

pub returns-in_err-take_onto-clause-events : goal.returns-in_err-take_onto-clause-events
returns-in_err-take_onto-clause-events g c =
    let start = g.B.HistoryName.start in
    let why = c.in_err-take_onto.field-0.0 in
    let is : c.from_residual.result ≡ Err why = search rules in
    let last = c.in_err-take_onto.ensures.err in
    subst (λ answer. IsTakenMany start c.args.most c.args.session.now c.args.events.now.items answer c.take_onto.new.events.items c.take_onto.new.session) (sym is)
    (c.loop-taken.taken, c.loop-taken-test.true, ends start c.args.session.now c.args.events.now.items c.loop-taken.taken c.loop-taken.events.items c.loop-taken.session (Err why) c.take_onto.new.events.items c.take_onto.new.session c.loop-taken.invariant.onto last.0 last.1)

pub loop-taken-preserved : goal.loop-taken-preserved
loop-taken-preserved g c =
    let start = g.B.HistoryName.start in
    let more : c.in_ok-take_onto.field-0 ≡ true = search rules in
    let next : TakesNext start c.loop-taken.session c.loop-taken.events.items true c.take_onto.new.events.items c.take_onto.new.session =
    subst (λ more. TakesNext start c.loop-taken.session c.loop-taken.events.items more c.take_onto.new.events.items c.take_onto.new.session) more c.in_ok-take_onto.ensures.ok in
    let so_far = c.loop-taken.invariant in
    record {
      onto = one_more start c.args.session.now c.args.events.now.items c.loop-taken.taken c.loop-taken.events.items c.loop-taken.session next.0 c.take_onto.new.events.items c.take_onto.new.session so_far.onto next.1 next.2;
      same = same_id start c.loop-taken.session (Ok (Some next.0)) c.take_onto.new.session next.1 ∙ so_far.same;
      seat = begins_on c.args.session.now.seat c.loop-taken.session.seat c.take_onto.new.session.seat so_far.seat next.1.seat;
    }

use Rattle.std.proofs.Common.{◌≡◌, false, [], Some, Ok, refl, sym, ap, subst, arith}
use Rattle.cpg_world_laws.specs.declared.events.WorldEvent.TheVariants.{Connect}
use Rattle.cpg_world_laws.specs.declared.replies.Reply.TheVariants as reply
use Rattle.cpg_station.specs.Admitting.{StopsAdmitting}
use Rattle.cpg_station.specs.Stations.{StationValue}
use Rattle.cpg_board.specs.Words.{is_counted}
use Rattle.cpg_history.specs.Histories.{FrontValue}
use Rattle.cpg_board.specs.declared.words.View.{View}
use Rattle.cpg_history.specs.Members.{MemberValue, HasTrace, IsMember, Told}
use Rattle.cpg_history.proofs.Answering.{connects, connects_at}
use Rattle.cpg_history.proofs.Coming.{told_first, pen_after, is_member}
use Rattle.cpg_history.proofs.Noting.{has_noted, recorded_quiet, unless_quiet}
use Rattle.cpg_node.specs.Calls.{connect_refusal, connected}
use Rattle.cpg_history.proofs.Serving.{no_spare, other_stops, refused_stays}
use Rattle.cpg_history.proofs.members.Member.admit_as.Given as given
use Rattle.cpg_history.proofs.members.Member.admit_as.Goals as goal
use Rattle.cpg_history.proofs.members.Member.admit_as.Goals.{In-Ok}

-- the member is the node that is asked for
asked_for : (g : given.Over) → (c : In-Ok g) → c.args.node ≡ c.self.inside.id
asked_for g c = omega (arith, c.if-get.false, c.get.ensures.value, c.get-2.ensures.value)

-- it runs
runs : (g : given.Over) → (c : In-Ok g) → c.self.inside.spare ≡ false
runs g c = let m = c.self.inside in no_spare g.B.HistoryName.start m.id m.station m.spare m.pen c.self.invariant.0 c.in-Ok.ensures.station.0

pub returns-then-get-clause-err : goal.returns-then-get-clause-err
returns-then-get-clause-err g c =
    let m = c.self.inside in
    subst (λ (n : MemberValue). StopsAdmitting c.args.list.now c.args.node c.args.pid c.args.cred n.station c.halt.new.self) c.self.view_is
    (other_stops g.B.HistoryName.start m.id m.station m.spare m.pen c.self.invariant.0 c.args.list.now c.args.node c.args.pid c.args.cred c.halt.new.self (λ same. absurd (omega (arith, same, c.if-get.true, c.get.ensures.value, c.get-2.ensures.value))) c.halt.ensures)

pub invariant_of-self-in-Ok : goal.invariant_of-self-in-Ok
invariant_of-self-in-Ok g c =
    let place = (goal.at.invariant_of-self-in-Ok g c).In-Ok in
    let own = asked_for g place in
    let not = runs g place in
    let start = g.B.HistoryName.start in
    let m = c.self.inside in
    let x = m.station.node in
    let event = Connect c.args.node c.args.pid c.args.cred in
    let after = pen_after start m.pen g.E.Happens.event event c.add-stamp.result m.id x c.add-stamp.new.pen.seen c.requires.event own (c.self.invariant.0.holds not) c.add-stamp.ensures.came c.add-stamp.new.pen c.admit.new.self.node refl c.add-stamp.ensures.pen
    (λ sent. connects_at sent c.args.node x c.admit.new.self.node c.args.pid c.args.cred c.in-Ok.ensures.room (ap (λ (u : StationValue). u.node) c.in-Ok.ensures.station.1)) in
    subst (λ (v : View). IsMember start m.id c.admit.new.self m.spare v × HasTrace (is_counted g.B.HistoryName.table) start m.id m.spare v.seen c.note.new.self) (sym c.front-front.ensures.pen) (
      is_member start m.id c.admit.new.self m.spare c.add-stamp.new.pen c.self.invariant.0.begins not after,
      has_noted start m.pen g.E.Happens.event event c.add-stamp.result m.id m.spare c.add-stamp.new.pen.seen m.trace c.note.new.self 0 c.add-stamp.result (Some event) c.self.invariant.1 not c.requires.event own c.add-stamp.ensures.came
          (λ counted. recorded_quiet counted start m.pen g.E.Happens.event event c.add-stamp.result m.id x c.add-stamp.new.pen.seen c.requires.event own (c.self.invariant.0.holds not) c.add-stamp.ensures.came (λ sent. unless_quiet (connect_refusal x c.args.cred) x (connected x c.args.pid c.args.cred)) (λ log. refl))
          c.note.ensures,
    )

pub invariant_of-self-in-Err : goal.invariant_of-self-in-Err
invariant_of-self-in-Err g c =
    let own : c.self.inside.id ≡ c.args.node = omega (arith, c.if-get.false, c.get.ensures.value, c.get-2.ensures.value) in
    let m = c.self.inside in
    (refused_stays g.B.HistoryName.start m.id m.station m.spare m.pen c.self.invariant.0 c.args.list.now c.args.node c.args.pid c.args.cred c.in-Err.refusal c.admit.new.self c.requires.list own c.in-Err.ensures.err, c.self.invariant.1)

pub returns-in-Ok-clause-history : goal.returns-in-Ok-clause-history
returns-in-Ok-clause-history g c =
    let place = (goal.at.returns-in-Ok-clause-history g c).In-Ok in
    let conn = c.in-Ok.who.id.conn in
    let event = Connect c.args.node c.args.pid c.args.cred in
    let x = c.self.inside.station.node in
    subst (λ (f : FrontValue). Told g.B.HistoryName.start [] event (Ok (reply.Connected conn)) f.seen) (sym c.front-front.ensures.front)
    (told_first g.B.HistoryName.start c.self.inside.pen g.E.Happens.event event c.add-stamp.result c.self.inside.id x c.add-stamp.new.pen.seen c.requires.event (asked_for g place) (c.self.invariant.0.holds (runs g place)) c.add-stamp.ensures.came (Ok (reply.Connected conn))
    (λ sent. connects sent c.args.node x c.args.pid c.args.cred conn c.in-Ok.ensures.room c.in-Ok.ensures.number))

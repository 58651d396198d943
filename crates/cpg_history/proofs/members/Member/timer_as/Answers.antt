use Rattle.std.proofs.Common.{◌≡◌, ◌∙◌, length, true, Some, Ok, refl, sym, ap, subst}
use Rattle.cpg_ring.specs.Worlds.{send_again}
use Rattle.cpg_world_laws.specs.declared.events.WorldEvent.{WorldEvent}
use Rattle.cpg_world_laws.specs.declared.events.WorldEvent.TheVariants.{Timer}
use Rattle.cpg_world_laws.specs.declared.replies.Reply.TheVariants as reply
use Rattle.cpg_board.specs.declared.words.View.{View}
use Rattle.cpg_board.specs.Words.{is_counted}
use Rattle.cpg_history.specs.Histories.{FrontValue, Came}
use Rattle.cpg_history.specs.Members.{MemberValue, HasTrace, IsMember, Replied, WasSent, member, how_many}
use Rattle.cpg_history.proofs.Coming.{stays, is_member}
use Rattle.cpg_history.specs.Traces.{HasNumber, WasRecorded, recorded_of}
use Rattle.cpg_history.proofs.Hearing.{timed, timer_called, one_token, no_token, token_count}
use Rattle.cpg_history.proofs.Noting.{has_noted, recorded, first_number}
use Rattle.cpg_history.proofs.members.Member.timer_as.Goals as goal
use Rattle.cpg_history.proofs.members.Member.timer_as.Goals.{in-None, in-Some}

pub invariant_of-result : goal.invariant_of-result
invariant_of-result g c =
    let start = g.B.HistoryName.start in
    let x = c.self.inside.station.node in
    let id = c.self.inside.id in
    let is : g.E.Happens.event ≡ Timer id = c.requires ∙ ap (λ (m : MemberValue). Timer m.id) (sym c.self.view_is) in
    let came : Came (is_counted g.B.HistoryName.table) c.self.inside.pen (Timer id) c.add-stamp.result c.add-stamp.new.pen.seen = subst (λ (e : WorldEvent). Came (is_counted g.B.HistoryName.table) c.self.inside.pen e c.add-stamp.result c.add-stamp.new.pen.seen) is c.add-stamp.ensures.came in
    let sent = timed c.reads_what_is_spelled.ensures.again start c.self.inside.pen c.add-stamp.result id x c.add-stamp.new.pen.seen c.in-Some.bytes came (c.self.invariant.0.holds c.if-self.false).2 (sym c.in-Some.is ∙ c.in-Ok.ensures.ok) c.in-Ok.ensures.range in
    subst (λ (f : FrontValue). WasSent start f.seen f.number c.in-Some.bytes × (is_counted g.B.HistoryName.table ≡ true → HasNumber start f.seen c.add-stamp.result 0 f.number)) (sym c.front-front.ensures.front)
    (sent, λ counted. first_number counted start c.self.inside.pen (Timer id) c.add-stamp.result x c.add-stamp.new.pen.seen came (c.self.invariant.0.holds c.if-self.false).2)

pub invariant_of-self : goal.invariant_of-self
invariant_of-self g c =
    let start = g.B.HistoryName.start in
    let m = c.self.inside in
    let x = m.station.node in
    let p = c.self.invariant.0.holds c.if-self.false in
    let is : g.E.Happens.event ≡ Timer m.id = c.requires ∙ ap (λ (m : MemberValue). Timer m.id) (sym c.self.view_is) in
    let came : Came (is_counted g.B.HistoryName.table) m.pen (Timer m.id) c.add-stamp.result c.add-stamp.new.pen.seen = subst (λ (e : WorldEvent). Came (is_counted g.B.HistoryName.table) m.pen e c.add-stamp.result c.add-stamp.new.pen.seen) is c.add-stamp.ensures.came in
    let count = token_count x.ring.state x.ring.state.last_token c.in-Ok.token c.how_many-sent.result c.in-Ok.ensures.ok c.how_many-sent.ensures in
    let replied = timer_called start m.pen c.add-stamp.new.pen c.args.self.now g.E.Happens.event c.add-stamp.result m.id m.station c.timer.new.self m.spare m.trace c.note.new.self (length (send_again x.ring.state x.ring.state.last_token).1) c.self.view_is c.requires p.2 c.add-stamp.ensures.came c.in-Ok.ensures.same refl in
    let one : is_counted g.B.HistoryName.table ≡ true → WasRecorded start c.add-stamp.new.pen.seen (recorded_of c.add-stamp.result c.how_many-sent.result c.add-stamp.result (Timer m.id)) = λ counted. recorded counted start m.pen (Timer m.id) c.add-stamp.result x c.add-stamp.new.pen.seen came p.2 c.how_many-sent.result c.add-stamp.result (Timer m.id) count refl in
    subst (λ (v : View). IsMember start m.id c.timer.new.self m.spare v × HasTrace (is_counted g.B.HistoryName.table) start m.id m.spare v.seen c.note.new.self) (sym c.front-front.ensures.pen) (
      is_member start m.id c.timer.new.self m.spare c.add-stamp.new.pen c.self.invariant.0.begins c.if-self.false
          (stays start m.pen c.add-stamp.new.pen m.id x c.timer.new.self.node c.add-stamp.ensures.pen p replied.now),
      has_noted start m.pen g.E.Happens.event (Timer m.id) c.add-stamp.result m.id m.spare c.add-stamp.new.pen.seen m.trace c.note.new.self c.how_many-sent.result c.add-stamp.result (Some (Timer m.id)) c.self.invariant.1 c.if-self.false is refl c.add-stamp.ensures.came one c.note.ensures,
    )

pub returns-after-token-clause-ok : goal.returns-after-token-clause-ok
returns-after-token-clause-ok g c =
    let start = g.B.HistoryName.start in
    let s = c.self.inside.station in
    let p = c.self.invariant.0.holds c.if-self.false in
    subst (λ (v : View). Replied start c.args.self.now (Timer c.args.self.now.id) (Ok (reply.Sent (how_many c.match-token.result))) (member c.self.inside.id c.timer.new.self c.self.inside.spare v.seen c.note.new.self)) (sym c.front-front.ensures.pen)
    (timer_called start c.self.inside.pen c.add-stamp.new.pen c.args.self.now g.E.Happens.event c.add-stamp.result c.self.inside.id s c.timer.new.self c.self.inside.spare c.self.inside.trace c.note.new.self (how_many c.match-token.result) c.self.view_is c.requires p.2 c.add-stamp.ensures.came c.in-Ok.ensures.same count)
  where
    count : length (send_again c.self.inside.station.node.ring.state c.self.inside.station.node.ring.state.last_token).1 ≡ how_many c.match-token.result
    count = elim c.match-token.branch [
      | in-None w ↦ no_token c.self.inside.station.node.ring.state c.self.inside.station.node.ring.state.last_token (sym w.in-None.is ∙ c.in-Ok.ensures.ok) ∙ sym (ap (λ o. how_many o) w.result-is)
      | in-Some w ↦ one_token c.self.inside.station.node.ring.state c.self.inside.station.node.ring.state.last_token w.in-Some.bytes (sym w.in-Some.is ∙ c.in-Ok.ensures.ok) ∙ sym (ap (λ o. how_many o) w.result-is)
    ]

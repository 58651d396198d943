use Rattle.std.proofs.lemmas.Result.{IfOk-at_ok}
use Rattle.cpg_daemon.specs.Sessions.{SessionValue}
use Rattle.cpg_daemon.proofs.Repeating.{keeps_none}
use Rattle.cpg_daemon.proofs.running.Running.take_from.Goals as goal

pub invariant_of-session-in-None : goal.invariant_of-session-in-None
invariant_of-session-in-None g c =
    let was = c.session.inside in
    let now = c.take_for-answer.new in
    let is = c.take_for-answer.ensures in
    let ok = c.in_ok-taken.was in
    let before : SessionValue = record { who = was.who; seat = was.seat; seen = was.front.seen } in
    let after : SessionValue = record { who = now.who; seat = now.seat; seen = now.front.seen } in
    (is.seat.0, keeps_none g.B.HistoryName.start before after now.self.station.node c.in_ok-taken.taken c.told_at-session-inside.result c.in-None.is (IfOk-at_ok _ ok is.who) (IfOk-at_ok _ ok is.end) (IfOk-at_ok _ ok is.history) c.told_at-session-inside.ensures)

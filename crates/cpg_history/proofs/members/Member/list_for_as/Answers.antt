use Rattle.std.proofs.Common.{◌≡◌, ◌∙◌, true, refl, sym, ap}
use Rattle.cpg_node.specs.Nodes.{open_client}
use Rattle.cpg_node.specs.Answers.{IsListAnswer}
use Rattle.cpg_station.specs.Stations.{StationValue}
use Rattle.cpg_station.specs.Serving.{HearsSession}
use Rattle.cpg_world_laws.specs.declared.events.WorldEvent.TheVariants.{List}
use Rattle.cpg_history.specs.Members.{Told, is_answer}
use Rattle.cpg_history.proofs.Answering.{list_reply, lists_reply, told_ok, told_err, where_answered}
use Rattle.cpg_history.proofs.Called.{may_add, member_after, told_so}
use Rattle.cpg_history.proofs.members.Member.list_for_as.Given as given
use Rattle.cpg_history.proofs.members.Member.list_for_as.Goals as goal
use Rattle.cpg_history.proofs.members.Member.list_for_as.Goals.{Else-not-is_answer}

-- the node has answered
is_one : (g : given.Over) → (c : Else-not-is_answer g) → is_answer c.list_for-listed.result ≡ true
is_one g c = sym c.is_answer.ensures ∙ c.if-not-is_answer.false

-- it has heard the session, and lists what the session may see
answered : (g : given.Over) → (c : Else-not-is_answer g) → HearsSession c.self.inside.station c.args.who.now × (c.list_for-listed.new.self ≡ c.self.inside.station) × IsListAnswer c.self.inside.station.node c.args.group.now (open_client c.self.inside.station.node c.args.who.now.id.conn) c.list_for-listed.result
answered g c = where_answered (HearsSession c.self.inside.station c.args.who.now × (c.list_for-listed.new.self ≡ c.self.inside.station) × IsListAnswer c.self.inside.station.node c.args.group.now (open_client c.self.inside.station.node c.args.who.now.id.conn) c.list_for-listed.result) c.list_for-listed.result (is_one g c) c.list_for-listed.ensures.ok c.list_for-listed.ensures.denied

pub add_for-stamp-requires : goal.add_for-stamp-requires
add_for-stamp-requires g c =
    let it = answered g (goal.at.add_for-stamp-requires g c).Else-not-is_answer in
    may_add g.B.HistoryName.start c.self.inside c.self.invariant c.args.who.now it.0 c.requires.event refl

pub invariant_of-self-2 : goal.invariant_of-self-2
invariant_of-self-2 g c =
    let it = answered g (goal.at.invariant_of-self-2 g c).Else-not-is_answer in
    member_after g.B.HistoryName.start c.self.inside c.self.invariant c.args.who.now it.0 c.requires.event refl c.args.front.now c.add_for-stamp.new.pen c.add_for-stamp.result c.add_for-stamp.ensures.came
    c.list_for-listed.new.self c.note.new.self c.list-event.result c.add_for-stamp.ensures.pen (λ sent. sym (ap (λ (u : StationValue). u.node) it.1)) (λ sent. refl) (λ log. refl) c.list-event.ensures c.note.ensures

-- the session is told that answer
tells : (g : given.Over) → (c : goal.After-note g) → Told g.B.HistoryName.start c.args.front.now.seen (List c.args.who.now.id.node c.args.who.now.id.conn c.args.group.now) (list_reply c.list_for-listed.result) c.add_for-stamp.new.front.seen
tells g c =
    let place = (goal.at.returns-clause-history g c).Else-not-is_answer in
    let it = answered g place in
    told_so g.B.HistoryName.start c.self.inside c.self.invariant c.args.who.now it.0 c.requires.event refl c.args.front.now c.add_for-stamp.new.pen c.add_for-stamp.result c.add_for-stamp.ensures.came
    c.add_for-stamp.ensures.front (list_reply c.list_for-listed.result) (λ sent. lists_reply c.self.inside.station.node c.args.group.now (open_client c.self.inside.station.node c.args.who.now.id.conn) c.list_for-listed.result (is_one g place) it.2)

pub returns-clause-history : goal.returns-clause-history
returns-clause-history g c = told_ok g.B.HistoryName.start c.args.front.now.seen c.add_for-stamp.new.front.seen (List c.args.who.now.id.node c.args.who.now.id.conn c.args.group.now) c.list_for-listed.result (tells g c)

pub returns-clause-err : goal.returns-clause-err
returns-clause-err g c = told_err g.B.HistoryName.start c.args.front.now.seen c.add_for-stamp.new.front.seen (List c.args.who.now.id.node c.args.who.now.id.conn c.args.group.now) c.list_for-listed.result (is_one g (goal.at.returns-clause-err g c).Else-not-is_answer) (tells g c)

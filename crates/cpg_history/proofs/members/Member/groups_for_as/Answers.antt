use Rattle.std.proofs.Common.{Some, Ok, refl, sym, ap}
use Rattle.cpg_node.specs.Nodes.{open_client}
use Rattle.cpg_station.specs.Stations.{StationValue}
use Rattle.cpg_world_laws.specs.declared.events.WorldEvent.TheVariants.{Groups}
use Rattle.cpg_world_laws.specs.declared.replies.Reply.TheVariants as reply
use Rattle.cpg_history.proofs.Answering.{names}
use Rattle.cpg_history.proofs.Called.{may_add, member_after, told_so}
use Rattle.cpg_history.proofs.members.Member.groups_for_as.Goals as goal

pub add_for-stamp-requires : goal.add_for-stamp-requires
add_for-stamp-requires g c = may_add g.B.HistoryName.start c.self.inside c.self.invariant c.args.who.now c.in_ok-names.ensures.ok.0 c.requires.event refl

pub invariant_of-self-2 : goal.invariant_of-self-2
invariant_of-self-2 g c =
    member_after g.B.HistoryName.start c.self.inside c.self.invariant c.args.who.now c.in_ok-names.ensures.ok.0 c.requires.event refl c.args.front.now c.add_for-stamp.new.pen c.add_for-stamp.result c.add_for-stamp.ensures.came
    c.groups_for.new.self c.note.new.self (Some (Groups c.args.who.now.id.node c.args.who.now.id.conn)) c.add_for-stamp.ensures.pen (λ sent. sym (ap (λ (u : StationValue). u.node) c.in_ok-names.ensures.ok.1)) (λ sent. refl) (λ log. refl) refl c.note.ensures

pub returns-clause-history : goal.returns-clause-history
returns-clause-history g c =
    told_so g.B.HistoryName.start c.self.inside c.self.invariant c.args.who.now c.in_ok-names.ensures.ok.0 c.requires.event refl c.args.front.now c.add_for-stamp.new.pen c.add_for-stamp.result c.add_for-stamp.ensures.came
    c.add_for-stamp.ensures.front (Ok (reply.Groups c.in_ok-names.names)) (λ sent. names c.self.inside.station.node (open_client c.self.inside.station.node c.args.who.now.id.conn) c.in_ok-names.names c.in_ok-names.ensures.ok.2)

use Rattle.std.proofs.Common.{Ok, refl, ap}
use Rattle.cpg_node.specs.Calls.{submit_refusal, submitted}
use Rattle.cpg_history.proofs.Noting.{unless_quiet}
use Rattle.cpg_station.specs.Stations.{StationValue}
use Rattle.cpg_world_laws.specs.declared.replies.Reply.TheVariants as reply
use Rattle.cpg_history.proofs.Answering.{submits, submits_at}
use Rattle.cpg_history.proofs.Called.{may_add, member_after, told_so}
use Rattle.cpg_history.proofs.members.Member.submit_for_as.Goals as goal

pub add_for-stamp-requires : goal.add_for-stamp-requires
add_for-stamp-requires g c = may_add g.B.HistoryName.start c.self.inside c.self.invariant c.args.who.now c.in-Ok.ensures.ok c.requires refl

pub invariant_of-self : goal.invariant_of-self
invariant_of-self g c =
    member_after g.B.HistoryName.start c.self.inside c.self.invariant c.args.who.now c.in-Ok.ensures.ok c.requires refl c.args.front.now c.add_for-stamp.new.pen c.add_for-stamp.result c.add_for-stamp.ensures.came
    c.submit_for.new.self c.note.new.self c.submit-event.result c.add_for-stamp.ensures.pen (λ sent. submits_at sent c.args.who.now.id.node c.self.inside.station.node c.submit_for.new.self.node c.args.who.now.id.conn c.args.call (c.in-Ok.ensures.heard c.in-Ok.ensures.ok).0 (ap (λ (u : StationValue). u.node) (c.in-Ok.ensures.heard c.in-Ok.ensures.ok).1)) (λ sent. unless_quiet (submit_refusal c.self.inside.station.node c.args.who.now.id.conn c.args.call) c.self.inside.station.node (submitted c.self.inside.station.node c.args.who.now.id.conn c.args.call)) (λ log. refl) c.submit-event.ensures c.note.ensures

pub returns-in-Ok-clause-history : goal.returns-in-Ok-clause-history
returns-in-Ok-clause-history g c =
    told_so g.B.HistoryName.start c.self.inside c.self.invariant c.args.who.now c.in-Ok.ensures.ok c.requires refl c.args.front.now c.add_for-stamp.new.pen c.add_for-stamp.result c.add_for-stamp.ensures.came
    c.add_for-stamp.ensures.front (Ok reply.Admitted) (λ sent. submits sent c.args.who.now.id.node c.self.inside.station.node c.args.who.now.id.conn c.args.call (c.in-Ok.ensures.heard c.in-Ok.ensures.ok).0)

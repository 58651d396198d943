use Rattle.std.proofs.Common.{◌≡◌, Result, Some, Ok, Err, refl, sym, ap, subst}
use Rattle.cpg_cred.specs.declared.refusals.Refusal.{Refusal}
use Rattle.cpg_cred.specs.declared.refusals.Refusal.TheVariants.{Stopped}
use Rattle.cpg_station.specs.Serving.{HearsSession, halted_of}
use Rattle.cpg_history.proofs.Serving.{known_closes}
use Rattle.cpg_station.specs.Stations.{StationValue}
use Rattle.cpg_world_laws.specs.declared.events.WorldEvent.TheVariants.{Disconnect}
use Rattle.cpg_world_laws.specs.declared.replies.Reply.TheVariants as reply
use Rattle.cpg_history.specs.Members.{MemberValue}
use Rattle.cpg_history.proofs.Answering.{disconnects}
use Rattle.cpg_history.proofs.Called.{may_add, member_after, told_so}
use Rattle.cpg_history.proofs.members.Member.close_for_as.Goals as goal

pub add_for-stamp-requires : goal.add_for-stamp-requires
add_for-stamp-requires g c = may_add g.B.HistoryName.start c.self.inside c.self.invariant c.args.who.now c.in-Ok.ensures.ok c.requires refl

pub invariant_of-self : goal.invariant_of-self
invariant_of-self g c =
    member_after g.B.HistoryName.start c.self.inside c.self.invariant c.args.who.now c.in-Ok.ensures.ok c.requires refl c.args.front.now c.add_for-stamp.new.pen c.add_for-stamp.result c.add_for-stamp.ensures.came
    c.close_for.new.self c.note.new.self (Some (Disconnect c.args.who.now.id.node c.args.who.now.id.conn)) c.add_for-stamp.ensures.pen (λ sent. sym (ap (λ (u : StationValue). u.node) (c.in-Ok.ensures.heard c.in-Ok.ensures.ok).1)) (λ sent. refl) (λ log. refl) refl c.note.ensures

pub returns-in-Ok-clause-history : goal.returns-in-Ok-clause-history
returns-in-Ok-clause-history g c =
    told_so g.B.HistoryName.start c.self.inside c.self.invariant c.args.who.now c.in-Ok.ensures.ok c.requires refl c.args.front.now c.add_for-stamp.new.pen c.add_for-stamp.result c.add_for-stamp.ensures.came
    c.add_for-stamp.ensures.front (Ok reply.Closed) (λ sent. disconnects sent c.args.who.now.id.node c.self.inside.station.node c.args.who.now.id.conn (known_closes c.self.inside.station.node c.args.who.now c.in-Ok.ensures.ok.1))

pub returns-in-Err-clause-unheard : goal.returns-in-Err-clause-unheard
returns-in-Err-clause-unheard g c =
    subst (λ (m : MemberValue). ¬ HearsSession m.station c.args.who.now → (◌≡◌ {A = Result (Unit {0}) Refusal} (Err c.in-Err.refusal) (Err Stopped)) × (c.close_for.new.self ≡ halted_of m.station)) c.self.view_is c.in-Err.ensures.unheard

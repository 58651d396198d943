use Rattle.std.proofs.Common.{◌∙◌, ℕ, Option, Some, IfSome, Ok, refl, sym, ap, subst}
use Rattle.cpg_world_laws.specs.declared.events.WorldEvent.TheVariants.{Deliver}
use Rattle.cpg_world_laws.specs.declared.replies.Reply.TheVariants as reply
use Rattle.cpg_station.specs.Delivering.{Delivers}
use Rattle.cpg_history.specs.Members.{MemberValue, Replied, member}
use Rattle.cpg_history.proofs.Noting.{has_noted, recorded_quiet}
use Rattle.cpg_history.proofs.Coming.{called, stays, is_member}
use Rattle.cpg_history.proofs.members.Member.deliver_as.Given as given
use Rattle.cpg_history.proofs.members.Member.deliver_as.Goals as goal

delivers : (g : given.Over) → (c : goal.After-note g) → Delivers c.in-Ok-Some.place c.self.inside.station c.deliver.new.self
delivers g c = subst (λ (o : Option ℕ). IfSome o (λ p. Delivers p c.self.inside.station c.deliver.new.self)) c.in-Ok-Some.field-0-is c.in-Ok-Some.ensures.some

inside : (g : given.Over) → (c : goal.After-note g) → Replied g.B.HistoryName.start c.args.self.now (Deliver c.args.self.now.id) (Ok (reply.Delivered (Some c.in-Ok-Some.place))) (member c.self.inside.id c.deliver.new.self c.self.inside.spare c.add-stamp.new.pen.seen c.note.new.self)
inside g c =
    called g.B.HistoryName.start c.self.inside.pen c.add-stamp.new.pen c.args.self.now (λ n. Deliver n) g.E.Happens.event c.add-stamp.result c.self.inside.id c.self.inside.station c.deliver.new.self c.self.inside.spare c.self.inside.trace c.note.new.self (Ok (reply.Delivered (Some c.in-Ok-Some.place))) c.self.view_is c.requires.event refl (c.self.invariant.0.holds c.if-self.false).2 c.add-stamp.ensures.came
    (λ sent. ap (λ place. Ok (reply.Delivered place)) (sym c.in-Ok-Some.field-0-is ∙ c.in-Ok-Some.ensures.place))
    (λ sent. sym (delivers g c).node)

pub invariant_of-self : goal.invariant_of-self
invariant_of-self g c =
    let m = c.self.inside in
    let own = c.self.invariant.0.holds c.if-self.false in
    let is = c.requires.event ∙ ap (λ (n : MemberValue). Deliver n.id) (sym c.self.view_is) in (
      is_member g.B.HistoryName.start m.id c.deliver.new.self m.spare c.add-stamp.new.pen c.self.invariant.0.begins c.if-self.false
          (stays g.B.HistoryName.start m.pen c.add-stamp.new.pen m.id m.station.node c.deliver.new.self.node c.add-stamp.ensures.pen own (inside g c).now),
      has_noted g.B.HistoryName.start m.pen g.E.Happens.event (Deliver m.id) c.add-stamp.result m.id m.spare c.add-stamp.new.pen.seen m.trace c.note.new.self 0 c.add-stamp.result (Some (Deliver m.id)) c.self.invariant.1 c.if-self.false is refl c.add-stamp.ensures.came
          (λ counted. recorded_quiet counted g.B.HistoryName.start m.pen g.E.Happens.event (Deliver m.id) c.add-stamp.result m.id m.station.node c.add-stamp.new.pen.seen is refl own c.add-stamp.ensures.came (λ sent. refl) (λ log. refl))
          c.note.ensures,
    )

pub returns-in-Ok-Some-clause-some : goal.returns-in-Ok-Some-clause-some
returns-in-Ok-Some-clause-some g c = (subst (λ (m : MemberValue). Delivers c.in-Ok-Some.place m.station c.deliver.new.self) c.self.view_is (delivers g c), inside g c)

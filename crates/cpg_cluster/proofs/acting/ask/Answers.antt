use Rattle.std.proofs.Common.{◌≤◌, ◌-◌, length, IfSome, refl, sym, subst}
use Rattle.std.proofs.lemmas.List.Elements.{All-set}
use Rattle.cpg_daemon.specs.Sessions.{SessionValue}
use Rattle.cpg_cluster.specs.Answers.{IsServed}
use Rattle.cpg_cluster.proofs.AtNumbers.{at_none, at_number}
use Rattle.cpg_cluster.proofs.acting.ask.Goals as goal

pub returns-then-not-is_given-clause-answer : goal.returns-then-not-is_given-clause-answer
returns-then-not-is_given-clause-answer g c =
    at_none (IsServed g.B.HistoryName.start c.args.asked.now) c.args.number c.args.slots.now.items (λ given. c.if-not-is_given.ensures.1 (given.0, subst (λ l. c.args.number ≤ length l) (sym c.as_slice.ensures.value) given.1)) (refl, refl)

pub returns-clause-answer : goal.returns-clause-answer
returns-clause-answer g c =
    let given = c.if-not-is_given.ensures.0 refl in
    at_number (IsServed g.B.HistoryName.start c.args.asked.now) c.args.number c.args.slots.now.items c.serve_open.result c.index_mut.result.now c.serve_open.new.slot
    given.0 (subst (λ l. c.args.number ≤ length l) c.as_slice.ensures.value given.1) (sym c.index_mut.ensures.value) c.serve_open.ensures.answer

pub returns-clause-within : goal.returns-clause-within
returns-clause-within g c =
    All-set (λ slot. IfSome slot (λ (session : SessionValue). session.who.id.node ≤ c.args.running.now.nodes)) c.args.slots.now.items (c.args.number - 1) c.serve_open.new.slot c.serve_open.ensures.within c.requires

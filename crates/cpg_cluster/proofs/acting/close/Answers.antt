use Rattle.std.proofs.Common.{◌≤◌, length, refl, sym, subst}
use Rattle.cpg_cluster.specs.Answers.{IsEnded, seen_of}
use Rattle.cpg_cluster.proofs.AtNumbers.{at_none, at_number}
use Rattle.cpg_cluster.proofs.acting.close.Goals as goal

pub returns-then-not-is_given-clause-answer : goal.returns-then-not-is_given-clause-answer
returns-then-not-is_given-clause-answer g c =
    at_none (IsEnded g.B.HistoryName.start (seen_of c.args.known.now) (seen_of c.args.known.now)) c.args.number c.args.slots.now.items (λ given. c.if-not-is_given.ensures.1 (given.0, subst (λ l. c.args.number ≤ length l) (sym c.as_slice.ensures.value) given.1)) (refl, refl, refl)

pub returns-clause-answer : goal.returns-clause-answer
returns-clause-answer g c =
    let given = c.if-not-is_given.ensures.0 refl in
    at_number (IsEnded g.B.HistoryName.start (seen_of c.args.known.now) (seen_of c.close_open.new.known)) c.args.number c.args.slots.now.items c.close_open.result c.index_mut.result.now c.close_open.new.slot
    given.0 (subst (λ l. c.args.number ≤ length l) c.as_slice.ensures.value given.1) (sym c.index_mut.ensures.value) c.close_open.ensures.answer

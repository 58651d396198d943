use Rattle.std.proofs.Common.{◌+◌, ap, sym, ◌∙◌, arith}
use Rattle.std.specs.List.{slice_get}
use Rattle.std.proofs.lemmas.Option.{slice_get_within}
use Rattle.cpg_judge.proofs.Passing.{counts_grow, is_earlier, is_later, stops_at, passes_on}
use Rattle.cpg_judge.proofs.inboxes.count_on.Goals as goal

pub returns-then-not-is_upto : goal.returns-then-not-is_upto
returns-then-not-is_upto c = λ test rs after places passed low within.
    let no = is_later c.args.places.now c.args.passed c.args.last c.is_upto.result c.is_upto.ensures c.if-not-is_upto.true in
    stops_at test rs c.args.last within c.args.passed (omega (arith, passed, counts_grow test rs after c.args.last low within))
    (λ p is. no p (ap (λ ps. slice_get ps c.args.passed) places ∙ is))

pub overflow_add-next : goal.overflow_add-next
overflow_add-next c =
    let here = is_earlier c.args.places.now c.args.passed c.args.last c.is_upto.result c.is_upto.ensures c.if-not-is_upto.false in
    omega (arith, slice_get_within c.args.places.now c.args.passed here.place here.stands)

pub returns-else-is_upto : goal.returns-else-is_upto
returns-else-is_upto c = λ test rs after places passed low within.
    let here = is_earlier c.args.places.now c.args.passed c.args.last c.is_upto.result c.is_upto.ensures c.if-not-is_upto.false in
    let no = is_later c.args.places.now (c.args.passed + 1) c.args.last c.is_upto-2.result c.is_upto-2.ensures c.if-is_upto.false in
    let one = passes_on test rs c.args.last within c.args.passed here.place (ap (λ ps. slice_get ps c.args.passed) (sym places) ∙ here.stands) here.upto in
    stops_at test rs c.args.last within (c.args.passed + 1) (omega (arith, one))
    (λ p is. no p (ap (λ ps. slice_get ps (c.args.passed + 1)) places ∙ is))

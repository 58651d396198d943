use Rattle.std.proofs.Common.{ap, length, arith}
use Rattle.cpg_record.specs.Judging.{judged}
use Rattle.cpg_record.specs.Nexts.{acts_in}
use Rattle.cpg_json.proofs.Hearing.{counts, cut_between}
use Rattle.cpg_json.proofs.stretches.places_between.Goals as goal
use Rattle.cpg_json.proofs.stretches.places_between.Goals.{else-from-to-via-then-from-to+else-to-places, else-from-to-via-else-from-to}

pub returns-then-to-places : goal.returns-then-to-places
returns-then-to-places c =
    let rs = judged c.args.policy.now in
    let q = acts_in c.args.group.now in
    cut_between q rs c.args.after c.args.last c.requires.0 c.requires.1 c.places_in-places.result.now c.count_upto-from.result c.count_upto-to.result c.places_in-places.ensures
    (c.count_upto-from.ensures q rs c.places_in-places.ensures) (c.count_upto-to.ensures q rs c.places_in-places.ensures)

pub returns-else-from-to : goal.returns-else-from-to
returns-else-from-to c =
    let rs = judged c.args.policy.now in
    let q = acts_in c.args.group.now in
    let bounds = counts q rs c.args.after c.args.last c.requires.0 c.requires.1 in
    let from = c.count_upto-from.ensures q rs c.places_in-places.ensures in
    let to = c.count_upto-to.ensures q rs c.places_in-places.ensures in
    elim c.else-from-to.branch [
      | else-from-to-via-then-from-to+else-to-places w ↦ absurd (omega (arith, w.if-to-places.false, ap length c.places_in-places.ensures, to, bounds.1))
      | else-from-to-via-else-from-to w ↦ absurd (omega (arith, w.if-from-to.false, from, to, bounds.0))
    ]

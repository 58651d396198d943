use Rattle.std.proofs.Common.{◌≡◌, ℕ, suc, ◌-◌, get_or, sym, ◌∙◌, arith}
use Rattle.std.proofs.lemmas.Option.{slice_get-get_or}
use Rattle.cpg_record.specs.Nexts.{acts_in}
use Rattle.cpg_record.proofs.Cuts.{all_themselves, non_decreasing}
use Rattle.cpg_group.proofs.Latest.{members_none, members_some, stands_there}
use Rattle.cpg_group.proofs.places.find_members.Goals as goal

pub returns-then-passed-eq0 : goal.returns-then-passed-eq0
returns-then-passed-eq0 c =
    members_none c.args.records.now c.requires.judged c.args.group.now c.args.places.now c.requires.places c.args.last c.cut_upto-passed.result
    (c.cut_upto-passed.ensures.cut (non_decreasing (λ (place : ℕ). place) c.args.places.now (acts_in c.args.group.now) c.args.records.now (all_themselves c.args.places.now ∙ c.requires.places))) c.if-passed-eq0.true

pub returns-in-None : goal.returns-in-None
returns-in-None c =
    absurd (stands_there c.args.records.now c.requires.judged c.args.group.now c.args.places.now c.requires.places c.args.last c.cut_upto-passed.result
    (c.cut_upto-passed.ensures.cut (non_decreasing (λ (place : ℕ). place) c.args.places.now (acts_in c.args.group.now) c.args.records.now (all_themselves c.args.places.now ∙ c.requires.places)))
    (c.cut_upto-passed.result - 1) (get_or c.args.places.now (c.cut_upto-passed.result - 1) 0)
    (slice_get-get_or c.args.places.now (c.cut_upto-passed.result - 1) 0 (omega (arith, c.if-passed-eq0.false, c.cut_upto-passed.ensures.within)))
    (sym c.in-None.ensures))

pub returns-in-Some : goal.returns-in-Some
returns-in-Some c =
    let some : c.cut_upto-passed.result ≡ suc (c.cut_upto-passed.result - 1) = omega (arith, c.if-passed-eq0.false) in
    members_some c.args.records.now c.requires.judged c.args.group.now c.args.places.now c.requires.places c.args.last c.cut_upto-passed.result
    (c.cut_upto-passed.ensures.cut (non_decreasing (λ (place : ℕ). place) c.args.places.now (acts_in c.args.group.now) c.args.records.now (all_themselves c.args.places.now ∙ c.requires.places)))
    (c.cut_upto-passed.result - 1) (get_or c.args.places.now (c.cut_upto-passed.result - 1) 0) c.in-Some.past.now some
    (slice_get-get_or c.args.places.now (c.cut_upto-passed.result - 1) 0 (omega (arith, c.if-passed-eq0.false, c.cut_upto-passed.ensures.within)))
    (sym c.in-Some.ensures)

use Rattle.std.proofs.Common.{◌≡◌, ℕ, List, leb, true, false, ap, subst, ◌∙◌, length, arith}
use Rattle.std.specs.List.Sorted.{IsPartitionPoint}
use Rattle.cpg_record.proofs.Cuts.{all_themselves, non_decreasing}
use Rattle.cpg_group.proofs.Counted.{count_is}
use Rattle.cpg_group.proofs.told.count_upto.Goals as goal

pub returns : goal.returns
returns c = λ test rs is.
    let cut = c.cut_upto.ensures.cut (non_decreasing (λ (place : ℕ). place) c.args.places.now test rs (all_themselves c.args.places.now ∙ is)) in
    count_is test rs c.args.last c.cut_upto.result (omega (arith, c.cut_upto.ensures.within, ap length is))
    (subst (λ (ps : List ℕ). IsPartitionPoint (λ (place : ℕ). leb place c.args.last ≡ true) (λ (place : ℕ). leb place c.args.last ≡ false) ps c.cut_upto.result) is cut)

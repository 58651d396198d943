use Rattle.std.proofs.Common.{◌≡◌, ℕ, Option, Some, None, refl, sym, subst, ◌∙◌}
use Rattle.std.specs.Prelude.{option_map}
use Rattle.cpg_record.specs.Places.{IsNextOf}
use Rattle.cpg_record.proofs.Cuts.{all_themselves, next_found, non_decreasing}
use Rattle.cpg_group.proofs.places.next_in.Goals as goal

itself : (place : Option ℕ) → option_map (λ (n : ℕ). n) place ≡ place
itself None = refl
itself (Some place) = refl

pub returns : goal.returns
returns c =
    λ test rs is. subst (IsNextOf test rs c.args.last) (itself _ ∙ sym c.place_at.ensures)
    (next_found (λ (place : ℕ). place) c.args.places.now test rs (all_themselves c.args.places.now ∙ is) c.args.last c.cut_near-passed.result (c.cut_near-passed.ensures.cut (non_decreasing (λ (place : ℕ). place) c.args.places.now test rs (all_themselves c.args.places.now ∙ is))))

use Rattle.std.proofs.Common.{arith, ap, sym, ◌∙◌, not}
use Rattle.std.proofs.lemmas.List.{map-id}
use Rattle.std.specs.Prelude.{◌==◌}
use Rattle.cpg_text.specs.Steps.{is_low}
use Rattle.cpg_text.proofs.Highest.{below, none_high}
use Rattle.cpg_text.proofs.Masks.{from_splat, masked}
use Rattle.cpg_text.proofs.runs.are_low.Goals as goal

pub returns : goal.returns
returns c =
    let v = c.args.block in
    let long = c.fits-block.0 in
    ap (λ mask. not (not (mask == 0))) (masked _ (λ x. not (is_low x)) v _ (omega (arith, long)) c.fits-block.1 (from_splat below (λ x. x) 88 16 v long (sym (map-id v))) tt) ∙ none_high v

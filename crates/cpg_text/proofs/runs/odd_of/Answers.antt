use Rattle.std.proofs.Common.{◌+◌, ◌-◌, ◌%◌, arith}
use Rattle.std.proofs.lemmas.Simd.{zip2_splat}
use Rattle.cpg_text.specs.Steps.{is_odd}
use Rattle.cpg_text.proofs.Masks.{hit, at_most, either, from_splat, masked, onto_splat}
use Rattle.cpg_text.proofs.runs.odd_of.Goals as goal

pub returns : goal.returns
returns g c =
    let v = c.args.block in
    let long = c.fits-block.0 in
    let shifted = zip2_splat (λ a b. (a + (256 - b)) % 256) v g.row.N 33 long in
    masked _ is_odd v _ (omega (arith, long, c.requires)) c.fits-block.1 (either _ _ v (from_splat at_most _ 94 g.row.N v long shifted) (onto_splat hit _ 4 g.row.N v long shifted)) tt

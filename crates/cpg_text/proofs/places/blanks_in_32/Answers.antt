use Rattle.std.proofs.Common.{arith}
use Rattle.std.proofs.lemmas.Simd.{zip2_splat}
use Rattle.cpg_text.specs.Lines.{is_blank}
use Rattle.cpg_text.proofs.Masks.{hit, either, masked}
use Rattle.cpg_text.proofs.places.blanks_in_32.Goals as goal

pub returns : goal.returns
returns c =
    let v = c.args.block in
    let long = c.fits-block.0 in
    masked _ is_blank v _ (omega arith) c.fits-block.1 (either _ _ v (zip2_splat hit v 32 32 long) (zip2_splat hit v 32 9 long)) tt

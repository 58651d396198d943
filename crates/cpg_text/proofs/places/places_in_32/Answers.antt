use Rattle.std.proofs.Common.{eqb, arith, w8}
use Rattle.std.proofs.lemmas.Simd.{bitmask_splat}
use Rattle.cpg_text.proofs.places.places_in_32.Goals as goal

pub returns : goal.returns
returns c = bitmask_splat w8 eqb c.args.block 32 c.args.byte c.fits-block.0 (omega arith)

use Rattle.std.proofs.Common.{◌+◌, ◌-◌, ◌%◌, subst, IsTrue}
use Rattle.std.proofs.lemmas.Simd.{zip2_splat}
use Rattle.std.specs.List.{list_all}
use Rattle.cpg_text.specs.Steps.{is_low}
use Rattle.cpg_text.proofs.Highest.{low_plain}
use Rattle.cpg_text.proofs.runs.past_percent.Goals as goal

pub returns : goal.returns
returns c = λ low.
    let v = c.args.block in
    low_plain v c.fits-block.1 (subst (λ l. IsTrue (list_all is_low l)) (zip2_splat (λ a b. (a + (256 - b)) % 256) v 16 38 c.fits-block.0) low)

use Rattle.std.proofs.Common.{◌-◌, ◌++◌, length, take, drop, length-append, arith}
use Rattle.std.proofs.lemmas.Simd.{length-chunk, pick_l_whole}
use Rattle.cpg_text.proofs.runs.ends_of_8.Goals as goal

pub returns : goal.returns
returns c =
    let text = c.args.text.now in
    let first = length-chunk 0 8 text c.requires in
    let last = length-chunk (length text - 8) 8 text (omega (arith, c.requires)) in
    pick_l_whole 0 (take 8 text ++ take 8 (drop (length text - 8) text)) 16 (omega (arith, length-append (take 8 text) (take 8 (drop (length text - 8) text)), first, last))

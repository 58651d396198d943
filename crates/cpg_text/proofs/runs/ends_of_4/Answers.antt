use Rattle.std.proofs.Common.{◌-◌, ◌++◌, length, take, drop, length-append, arith}
use Rattle.std.proofs.lemmas.Simd.{length-chunk, pick_l_whole}
use Rattle.cpg_text.proofs.runs.ends_of_4.Goals as goal

pub returns : goal.returns
returns c =
    let text = c.args.text.now in
    let first = length-chunk 0 4 text c.requires in
    let last = length-chunk (length text - 4) 4 text (omega (arith, c.requires)) in
    pick_l_whole 0 (take 4 text ++ take 4 (drop (length text - 4) text)) 8 (omega (arith, length-append (take 4 text) (take 4 (drop (length text - 4) text)), first, last))

use Rattle.std.proofs.Common.{◌≡◌, ◌++◌, ◌-◌, map, take}
use Rattle.arrayvec.specs.ArrayVec.{array_vec_len}
use Rattle.cpg_text.specs.Lines.{words_of}
use Rattle.cpg_text.proofs.words.take_words.Given as goal

abbrev pub invariant-loop : goal.invariant-loop
invariant-loop g l = record {
  gathered : map (λ word. word.now) l.words.items ++ take (g.row.N - l.counter) (words_of l.rest) ≡ take g.row.N (words_of l.line);
  room : array_vec_len l.words ≡ l.counter;
}

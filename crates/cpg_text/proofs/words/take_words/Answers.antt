use Rattle.std.proofs.Common.{ap, ◌+◌, ◌∙◌}
use Rattle.cpg_text.proofs.Gathered.{one_more_word}
use Rattle.cpg_text.proofs.words.take_words.Goals as goal

pub loop-preserved : goal.loop-preserved
loop-preserved g c = record {
  gathered = rw c.push.ensures.items (one_more_word g.row.N c.loop.counter _ c.in-Some.word _ _ _ c.loop-test.true c.in-Some.ensures c.loop.invariant.gathered);
  room = c.push.ensures.len ∙ ap (λ count. count + 1) c.loop.invariant.room;
}

use Rattle.std.proofs.Common.{ap, sym}
use Rattle.cpg_board.specs.Words.{words_of}
use Rattle.cpg_board.proofs.Counting.{begins}
use Rattle.cpg_board.proofs.words.Words.new.Goals as goal

pub of_words-requires : goal.of_words-requires
of_words-requires g = begins g.args.counted _ (sym (ap (λ counted. words_of counted 0) g.if-counted.true))

pub of_words-requires-else-counted : goal.of_words-requires-else-counted
of_words-requires-else-counted g = begins g.args.counted _ (sym (ap (λ counted. words_of counted 0) g.if-counted.false))

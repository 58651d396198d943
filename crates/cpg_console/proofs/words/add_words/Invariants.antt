use Rattle.std.proofs.Common.{◌≡◌, Some, map, take}
use Rattle.std.specs.List.{fold}
use Rattle.cpg_console.specs.Words.{and_word}
use Rattle.cpg_console.proofs.words.add_words.Given as goal

abbrev pub invariant-loop-word : goal.invariant-loop-word
invariant-loop-word l = fold and_word (Some l.initial.list) (map (λ word. word.now) (take l.word-index l.words)) ≡ Some l.list

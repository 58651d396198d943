use Rattle.std.proofs.Common.{◌≡◌, ◌+◌, ◌≤◌, length}
use Rattle.cpg_text.specs.Lines.{words_of}
use Rattle.cpg_hint.specs.Patterns.{first_mismatch}
use Rattle.cpg_hint.proofs.words.first_mismatch.Given as goal

abbrev pub invariant-loop-word : goal.invariant-loop-word
invariant-loop-word l = record {
  read : first_mismatch l.nodes 0 l.initial.pattern (words_of l.line) ≡ first_mismatch l.nodes l.index l.pattern (words_of l.word-iterator.rest.now);
  counted : l.index + length (words_of l.word-iterator.rest.now) ≤ length l.line + 1;
}

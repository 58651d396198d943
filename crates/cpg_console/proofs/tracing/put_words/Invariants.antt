use Rattle.std.proofs.Common.{◌≡◌, ◌++◌, take}
use Rattle.std.specs.List.{flat_map}
use Rattle.cpg_console.specs.Tracing.{between}
use Rattle.cpg_console.proofs.tracing.put_words.Given as goal

abbrev pub invariant-loop-word : goal.invariant-loop-word
invariant-loop-word l = l.text.items ≡ l.initial.text.items ++ flat_map (λ word. between l.before l.after word.now) (take l.word-index l.words)

use Rattle.std.proofs.Common.{◌++◌, ◌∙◌, ◌≤◌, List, ℕ, length, ap, arith}
use Rattle.std.specs.Borrow.{Bor}
use Rattle.std.specs.List.{flat_map}
use Rattle.std.proofs.lemmas.List.{take_all}
use Rattle.cpg_console.specs.Tracing.{between}
use Rattle.cpg_console.proofs.Traced.{words_between}
use Rattle.cpg_console.proofs.tracing.put_words.Goals as goal

pub returns-clause-ok : goal.returns-clause-ok
returns-clause-ok c =
    let end : length c.args.words.now ≤ c.loop-word.word-index = omega arith in
    words_between c.loop-word.text.items c.args.text.now.items c.args.before.now c.args.after.now c.args.words.now
    (c.loop-word.invariant ∙ ap (λ (words : List (Bor (List ℕ))). c.args.text.now.items ++ flat_map (λ word. between c.args.before.now c.args.after.now word.now) words) (take_all c.loop-word.word-index c.args.words.now end))

use Rattle.std.proofs.Common.{◌≡◌, ◌++◌, take}
use Rattle.cpg_hint.specs.Marks.{blanks}
use Rattle.cpg_hint.proofs.marks.put_blanks.Given as goal

abbrev pub invariant-loop-character : goal.invariant-loop-character
invariant-loop-character l = l.text.items ≡ l.initial.text.items ++ blanks (take l._character-index l.before)

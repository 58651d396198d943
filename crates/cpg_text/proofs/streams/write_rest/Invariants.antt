use Rattle.std.proofs.Common.{ℕ, List, Option, length, take, ◌≤◌}
use Rattle.std.specs.Io.KnownBytes.{Appends}
use Rattle.cpg_text.proofs.streams.write_rest.Given as goal

abbrev pub invariant-loop-turn : goal.invariant-loop-turn
invariant-loop-turn g l = record {
  within : l.done ≤ length l.text;
  written : (was : Option (List ℕ)) → Appends was (g.W.Write.contents l.initial.writer) (take l.from l.text) → Appends was (g.W.Write.contents l.writer) (take l.done l.text);
}

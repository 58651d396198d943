-- The same by sets of nodes, which no contract of a public function cites.
use Rattle.std.specs.Prelude.{ℕ, ◌==◌, bit_or, List, [], ◌∷◌, ◌++◌, if◌then◌else◌}
use Rattle.cpg_draw.specs.declared.arrows.Arrow.{Arrow}
use Rattle.cpg_draw.specs.declared.misses.Miss.{Miss}
use Rattle.cpg_draw.specs.Misses.{misses_to}
use Rattle.cpg_draw.specs.Sets.{has}

-- the nodes that frames of that sender came to
abbrev pub reached : List Arrow → ℕ → ℕ
reached [] sender = 0
reached (a ∷ later) sender = if a.node == sender then bit_or (reached later sender) a.came else reached later sender

-- all that did not come: lost is what later frames of the sender reached
abbrev pub passed_in : ℕ → List Arrow → List Miss
passed_in nodes [] = []
passed_in nodes (a ∷ later) = misses_to nodes a (has (reached later a.node)) nodes ++ passed_in nodes later

-- Which frames did not come to whom. Links keep their order: what a later frame of the same sender overtook is lost.
use Rattle.std.specs.Prelude.{ℕ, zero, suc, ◌+◌, Bool, true, false, not, ◌&&◌, ◌||◌, ◌==◌, nat_lt, List, [], ◌∷◌, ◌++◌, if◌then◌else◌}
use Rattle.std.specs.List.{list_any}
use Rattle.cpg_draw.specs.declared.arrows.Arrow.{Arrow}
use Rattle.cpg_draw.specs.declared.arrows.ArrowKind.{ArrowKind}
use Rattle.cpg_draw.specs.declared.arrows.ArrowKind.TheVariants.{Data, Again, Token}
use Rattle.cpg_draw.specs.declared.misses.Miss.{Miss}
use Rattle.cpg_draw.specs.Sets.{has}

-- the node that the token of a node goes to
abbrev pub next_of : ℕ → ℕ → ℕ
next_of nodes node = if nat_lt node nodes then node + 1 else 1

abbrev pub is_token : ArrowKind → Bool
is_token Token = true
is_token Data = false
is_token Again = false

-- A frame goes to that node: data to each node but its sender, or to the only node there is; the token to the next.
abbrev pub goes_to : ℕ → Arrow → ℕ → Bool
goes_to nodes a node = if is_token a.kind then node == next_of nodes a.node else (nodes == 1) || not (node == a.node)

-- a later frame of that sender came to that node
abbrev pub overtaken : ℕ → List Arrow → ℕ → Bool
overtaken sender later node = list_any (λ (b : Arrow). (b.node == sender) && has b.came node) later

-- the frame, where it goes to that node and did not come: lost where the test says so, and otherwise under way
abbrev pub misses_at : ℕ → Arrow → (ℕ → Bool) → ℕ → List Miss
misses_at nodes a lost node =
    if goes_to nodes a node && not (has a.came node) then record { arrow = a; node = node; lost = lost node } ∷ [] else []

-- the same at nodes up to that one
abbrev pub misses_to : ℕ → Arrow → (ℕ → Bool) → ℕ → List Miss
misses_to nodes a lost zero = []
misses_to nodes a lost (suc before) = misses_to nodes a lost before ++ misses_at nodes a lost (suc before)

-- All that did not come, frame by frame: what was overtaken is lost.
abbrev pub misses_in : ℕ → List Arrow → List Miss
misses_in nodes [] = []
misses_in nodes (a ∷ later) = misses_to nodes a (overtaken a.node later) nodes ++ misses_in nodes later

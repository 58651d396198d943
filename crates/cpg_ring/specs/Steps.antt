-- The steps of a visit, as the functions that make them share them. No public contract cites these.
use Rattle.std.specs.Prelude.{ℕ, suc, List, [], ◌∷◌, take, Bool, not}
use Rattle.std.specs.FinMap.{insert}
use Rattle.cpg_ring.specs.States.{Entry, HeldPlaces, is_held}
use Rattle.cpg_ring.specs.Visits.{placed, hold_all}
use Rattle.cpg_ring.specs.Rings.{RingNode}

-- what is held once these entries have the places after seq
abbrev pub hold_from : HeldPlaces → ℕ → List Entry → HeldPlaces
hold_from held seq [] = held
hold_from held seq (e ∷ es) = hold_from (insert held (suc seq) e) (suc seq) es

-- whether a place is not held
abbrev pub lacks : HeldPlaces → ℕ → Bool
lacks held place = not (is_held held place)

-- what is held once the first so many waiting entries have the places after seq
abbrev pub held_after : RingNode → ℕ → ℕ → HeldPlaces
held_after x seq count = hold_all x.state.held (placed x.settings seq (take count x.state.waiting))

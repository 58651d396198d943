-- equality of slices is equality of lists, since that of their items is
use Rattle.std.proofs.Common.{rules}
use Rattle.std.proofs.lemmas.Slice.Eq.{slice_eq-Decides}
use Rattle.cpg_record.proofs.moves.Moves.equals.Goals as goal

pub returns : goal.returns
returns c = rw (← c.self.view_is, ← c.other.view_is, ← c.as_slice.ensures.value, ← c.as_slice-2.ensures.value)
    (slice_eq-Decides (λ a b. search rules) _ _ _ c.eq.ensures)

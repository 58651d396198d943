-- equality of slices is equality of lists, since that of their items is
use Rattle.std.proofs.Common.{rules}
use Rattle.std.proofs.lemmas.Slice.Eq.{slice_eq-Decides}
use Rattle.cpg_record.proofs.memberships.Members.equals.Goals as goal

pub returns : goal.returns
returns c = rw (← c.as_slice.ensures, ← c.as_slice-2.ensures) (slice_eq-Decides (λ a b. search rules) _ _ _ c.eq.ensures)

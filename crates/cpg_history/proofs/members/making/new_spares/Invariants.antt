use Rattle.std.proofs.Common.{◌≡◌, ◌+◌, vec_len}
use Rattle.cpg_history.proofs.members.making.new_spares.Given as goal

abbrev pub invariant-loop-before : goal.invariant-loop-before
invariant-loop-before g l =
    (vec_len l.spares ≡ l.before) × (l.pens.from ≡ l.fn.pens.from + l.before) × (l.pens.to ≡ l.fn.pens.to)

use Rattle.std.proofs.Common.{◌≡◌}
use Rattle.std.specs.Prelude.{filter}
use Rattle.cpg_group.specs.Groups.{is_shown}
use Rattle.cpg_group.proofs.listing.keep_shown.Given as goal

abbrev pub invariant-loop-name : goal.invariant-loop-name
invariant-loop-name l = l.kept.items ≡ filter (is_shown l.records l.asker) l.yielded

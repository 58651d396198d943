use Rattle.std.proofs.Common.{◌≡◌, [], take, map}
use Rattle.std.specs.Prelude.{filter}
use Rattle.cpg_group.specs.Groups.{is_shown}
use Rattle.cpg_group.proofs.standing.Groups.shows_any.Given as goal

abbrev pub invariant-loop-name : goal.invariant-loop-name
invariant-loop-name l = filter (is_shown l.records l.asker) (map (λ key. key.items) (take l.name-index l.name-items)) ≡ []

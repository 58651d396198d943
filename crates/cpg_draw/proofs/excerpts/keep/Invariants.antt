use Rattle.std.proofs.Common.{◌≡◌, take}
use Rattle.std.specs.List.{flat_map}
use Rattle.cpg_draw.specs.Excerpts.{miss_kept}
use Rattle.cpg_draw.proofs.excerpts.keep.Given as goal

abbrev pub invariant-loop-miss : goal.invariant-loop-miss
invariant-loop-miss l = l.kept.items ≡ flat_map (miss_kept l.excerpt) (take l.miss-index l.misses)

use Rattle.std.proofs.Common.{◌≡◌, ◌+◌, ◌++◌, drop}
use Rattle.cpg_draw.specs.Arrows.{arrows_of}
use Rattle.cpg_draw.proofs.frames.push_arrows.Given as goal

abbrev pub invariant-loop-index : goal.invariant-loop-index
invariant-loop-index l =
    l.initial.arrows.items ++ arrows_of (l.before + 1) l.from.0 l.from.1 l.from.2 (drop l.before l.world.sent)
    ≡ l.arrows.items ++ arrows_of (l.index + 1) l.from.0 l.from.1 l.from.2 (drop l.index l.world.sent)

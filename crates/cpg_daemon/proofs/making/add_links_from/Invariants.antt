use Rattle.std.proofs.Common.{◌≡◌, ◌+◌, vec_len}
use Rattle.cpg_daemon.proofs.making.add_links_from.Given as goal

abbrev pub invariant-loop-index : goal.invariant-loop-index
invariant-loop-index g l =
    (vec_len l.lines.outgoing ≡ vec_len l.fn.lines.outgoing + l.index) × (vec_len l.lines.incoming ≡ vec_len l.fn.lines.incoming + l.index)

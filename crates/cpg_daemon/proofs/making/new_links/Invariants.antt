use Rattle.std.proofs.Common.{◌≡◌, ◌*◌, vec_len}
use Rattle.cpg_daemon.proofs.making.new_links.Given as goal

abbrev pub invariant-loop-before : goal.invariant-loop-before
invariant-loop-before g l =
    (vec_len l.lines.outgoing ≡ l.before * l.peers) × (vec_len l.lines.incoming ≡ l.before * l.peers)

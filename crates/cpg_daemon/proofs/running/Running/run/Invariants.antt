use Rattle.std.proofs.Common.{◌≡◌, vec_len}
use Rattle.cpg_daemon.proofs.running.Running.run.Given as goal

abbrev pub invariant-loop : goal.invariant-loop
invariant-loop g l = (vec_len l.lines.outgoing ≡ vec_len l.fn.lines.outgoing) × (vec_len l.lines.incoming ≡ vec_len l.fn.lines.incoming)

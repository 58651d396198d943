use Rattle.std.proofs.Common.{◌≡◌, ◌+◌, ◌≤◌, length}
use Rattle.std.specs.Vec.{vec_len, vec_capacity}
use Rattle.cpg_text.specs.Percent.{decoded}
use Rattle.cpg_text.specs.Steps.{after}
use Rattle.cpg_text.proofs.percent.decode_into.Given as goal

abbrev pub invariant-loop-rest : goal.invariant-loop-rest
invariant-loop-rest l = record {
  so_far : after l.bytes.items (decoded l.rest) ≡ decoded l.text;
  room : vec_len l.bytes + length l.rest ≤ vec_capacity l.bytes;
}

abbrev pub decreases-loop-rest : goal.decreases-loop-rest
decreases-loop-rest l = length l.rest

use Rattle.std.proofs.Common.{◌≤◌, ◌+◌, length, take, vec_len, vec_capacity}
use Rattle.cpg_serve.specs.Deeds.{AreDone}
use Rattle.cpg_serve.proofs.served.Served.does_all.Given as goal

abbrev pub invariant-loop-deed : goal.invariant-loop-deed
invariant-loop-deed l = record {
  done : AreDone l.fn.self (take l.deed-index l.deeds) l.outcomes.items l.self;
  room : vec_len l.outcomes + length l.deeds ≤ vec_capacity l.outcomes + l.deed-index;
}

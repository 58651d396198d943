use Rattle.std.proofs.Common.{take}
use Rattle.cpg_serve.specs.Carrying.{HaveJoined}
use Rattle.cpg_serve.proofs.renewing.join_all.Given as goal

abbrev pub invariant-loop-one : goal.invariant-loop-one
invariant-loop-one l = record {
  joined : HaveJoined l.numbers (take l.one-index l.all) l.fn.node l.node;
}

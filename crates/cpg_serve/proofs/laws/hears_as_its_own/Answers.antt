use Rattle.std.proofs.Common.{ap, ◌∙◌}
use Rattle.cpg_ring.proofs.Lists.{item_with_other}
use Rattle.cpg_ring.specs.Worlds.{item}
use Rattle.cpg_serve.specs.Asking.{At, at_of}
use Rattle.cpg_serve.specs.Hearing.{asks_of}
use Rattle.cpg_serve.proofs.Noted.{calls_alone}
use Rattle.cpg_serve.proofs.laws.hears_as_its_own.Goals as goal

pub returns : goal.returns
returns c = λ conn x y bytes count stop h. (
  asks_of h.did.so.turns,
  h.did.so.parts,
  ap (λ (k : At). k.node) h.did.so.done ∙ calls_alone conn (at_of x.node h.old) h.did.so.turns,
  λ other is. ap (λ ds. item ds other) h.others ∙ item_with_other x.desks conn other h.new is,
)

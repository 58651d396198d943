use Rattle.std.proofs.Common.{sym, ◌∙◌}
use Rattle.cpg_wire.proofs.Readers.{some_is}
use Rattle.cpg_wire.proofs.ReadsFrames.{spelled_is_read}
use Rattle.cpg_wire.proofs.laws.spells_one_frame.Goals as goal

pub returns : goal.returns
returns c = λ bytes one other p q. some_is one other (sym (spelled_is_read bytes one p) ∙ spelled_is_read bytes other q)

use Rattle.std.proofs.Common.{refl}
use Rattle.cpg_wire.specs.Spelling.{spelling}
use Rattle.cpg_wire.proofs.ReadsFrames.{spelled_is_read, read_is_spelled}
use Rattle.cpg_wire.proofs.laws.reads_what_is_spelled.Goals as goal

pub returns-clause-exact : goal.returns-clause-exact
returns-clause-exact c = λ bytes frame fits. (read_is_spelled bytes frame fits, spelled_is_read bytes frame)

pub returns-clause-again : goal.returns-clause-again
returns-clause-again c = λ version frame is typed fits. spelled_is_read (spelling version frame) frame (version, (is, typed, fits, refl))

use Rattle.cpg_entry.proofs.Naming.{name_fits, name_passes}
use Rattle.cpg_entry.proofs.names.names_pass.Goals as goal

pub returns : goal.returns
returns c = λ bytes. (name_fits bytes, name_passes bytes)

use Rattle.cpg_entry.proofs.Naming.{is_name_of}
use Rattle.cpg_entry.proofs.names.accepts_name.Goals as goal

pub returns-clause-test : goal.returns-clause-test
returns-clause-test c = is_name_of c.is_printing_name.result c.args.bytes.now c.is_printing_name.ensures

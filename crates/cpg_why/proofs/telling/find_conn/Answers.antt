use Rattle.std.proofs.Common.{List, Ok, subst}
use Rattle.cpg_entry.specs.declared.entries.Entry.{Entry}
use Rattle.cpg_why.specs.declared.asking.Asked.TheVariants.{Connection}
use Rattle.cpg_why.specs.Scripts.{TellsNot}
use Rattle.cpg_why.proofs.telling.find_conn.Goals as goal

pub returns-in-Err-clause-err : goal.returns-in-Err-clause-err
returns-in-Err-clause-err c = subst (λ (es : List Entry). TellsNot (Ok es) (Connection c.args.conn.now) c.in-Err.fault) c.in_ok-walk.ensures.ok c.in-Err.ensures.err

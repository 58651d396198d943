use Rattle.std.proofs.Common.{List, Ok, subst}
use Rattle.cpg_entry.specs.declared.entries.Entry.{Entry}
use Rattle.cpg_why.specs.declared.asking.Asked.TheVariants.{ToProcess}
use Rattle.cpg_why.specs.Scripts.{TellsNot}
use Rattle.cpg_why.proofs.telling.find_process.Goals as goal

pub returns-in-Err-clause-err : goal.returns-in-Err-clause-err
returns-in-Err-clause-err c = subst (λ (es : List Entry). TellsNot (Ok es) (ToProcess c.args.place c.args.pid) c.in-Err.fault) c.in_ok-walk.ensures.ok c.in-Err.ensures.err

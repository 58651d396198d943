use Rattle.cpg_text.specs.Lines.{words_of}
use Rattle.cpg_print.proofs.Callers.{all_four}
use Rattle.cpg_print.proofs.entries.take_caller.Goals as goal

pub returns : goal.returns
returns c =
    all_four (words_of c.args.line.now) (words_of c.in-Some.rest.now) (words_of c.in_ok-pid.rest.now) (words_of c.in_ok-uid.rest.now)
    (words_of c.in_ok-gid.rest.now) c.in-Some.conn c.in_ok-pid.pid c.in_ok-uid.uid c.in_ok-gid.gid
    c.in-Some.ensures c.in_ok-pid.ensures c.in_ok-uid.ensures c.in_ok-gid.ensures

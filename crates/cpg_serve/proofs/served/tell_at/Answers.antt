use Rattle.std.proofs.Common.{rules}
use Rattle.cpg_serve.proofs.Coming.{goes_count}
use Rattle.cpg_serve.proofs.served.tell_at.Goals as goal

pub returns-in-Some-clause-count : goal.returns-in-Some-clause-count
returns-in-Some-clause-count c =
    let clients = goes_count c.catch_up.ensures.goes in
    search rules

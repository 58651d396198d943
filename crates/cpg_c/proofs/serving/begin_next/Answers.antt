use Rattle.std.proofs.Common.{◌≡◌, inr, refl, rules}
use Rattle.cpg_cred.specs.Shown.{number}
use Rattle.cpg_c.proofs.serving.begin_next.Goals as goal

pub returns-in-Err : goal.returns-in-Err
returns-in-Err c =
    let status : c.number.result ≡ number c.in-Err.refusal = search rules in
    inr (c.in-Err.refusal, status, refl, c.in-Err.ensures.err, c.in-Err.ensures.why, c.in-Err.ensures.alone)

use Rattle.std.proofs.Common.{◌≡◌, ◌+◌, ◌-◌, take, length, ap, ◌∙◌, arith}
use Rattle.cpg_entry.proofs.Laid.{rotated}
use Rattle.cpg_entry.proofs.ledgers.drop_first.Goals as goal

pub returns-clause-items : goal.returns-clause-items
returns-clause-items c =
    let ok = c.args.own.now.ok in
    let len = c.len-rest.ensures in
    let enough = c.requires in
    let rest : 256 + (c.len-rest.result - 256) ≡ length c.args.own.now.items = omega arith in
    c.truncate.ensures.items ∙ (ap (take (c.len-rest.result - 256)) c.rotate_left.ensures.items ∙ rotated c.args.own.now.items 256 (c.len-rest.result - 256) rest)

use Rattle.std.proofs.Common.{◌≡◌, ◌<◌, length, refl, arith}
use Rattle.cpg_record.specs.Judging.{judged}
use Rattle.cpg_record.proofs.Denials.{each_entry_is_judged}
use Rattle.cpg_why.proofs.Counted.{before_next, none_told, stands_told, told_by_next}
use Rattle.cpg_why.proofs.inboxes.find_told.Goals as goal

pub returns-then-stands-clause-told : goal.returns-then-stands-clause-told
returns-then-stands-clause-told c =
    let within : c.loop-before.before < length (judged c.args.policy.now) = omega (arith, c.len-before-end.ensures.value, (each_entry_is_judged c.args.policy.now).0) in
    stands_told (judged c.args.policy.now) c.args.conn.now c.args.event c.loop-before.before c.loop-before.told c.count_at.result within c.loop-before.invariant
    c.count_at.ensures (c.stands.ensures.0 c.if-stands.true)

pub returns-then-stands-clause-ok : goal.returns-then-stands-clause-ok
returns-then-stands-clause-ok c =
    let within : c.loop-before.before < length (judged c.args.policy.now) = omega (arith, c.len-before-end.ensures.value, (each_entry_is_judged c.args.policy.now).0) in
    let stands = c.stands.ensures.0 c.if-stands.true in
    told_by_next (judged c.args.policy.now) c.args.conn.now c.args.event c.loop-before.before c.loop-before.told c.count_at.result within c.loop-before.invariant
    c.count_at.ensures stands.0 stands.1

pub loop-before-preserved : goal.loop-before-preserved
loop-before-preserved c =
    before_next (judged c.args.policy.now) c.args.conn.now c.args.event c.loop-before.before c.loop-before.told c.count_at.result c.loop-before.invariant c.count_at.ensures
    (λ stands. absurd (cc (c.stands.ensures.1 stands, c.if-stands.false)))

pub returns-clause-err : goal.returns-clause-err
returns-clause-err c =
    let all : c.loop-before.before ≡ length c.args.policy.now = omega (arith, c.len-before-end.ensures.value) in
    let none = none_told c.args.policy.now c.args.conn.now c.args.event c.loop-before.before c.loop-before.told all c.loop-before.invariant in
    (refl, none.0, none.1)

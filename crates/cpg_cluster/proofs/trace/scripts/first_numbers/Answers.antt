use Rattle.std.proofs.Common.{◌≡◌, ◌%◌, ◌^◌, ◌<◌, ◌+◌, length, refl, sym, subst, arith}
use Rattle.cpg_cluster.specs.TraceScripts.{AreFirstNumbers}
use Rattle.cpg_cluster.proofs.Ordered.{NumbersTo, item_at, numbers_next, numbers_whole}
use Rattle.cpg_cluster.proofs.trace.scripts.first_numbers.Goals as goal

pub loop-entry-preserved : goal.loop-entry-preserved
loop-entry-preserved c =
    let within : c.loop-entry.entry-index < length c.args.script.now = omega arith in
    subst (λ l. NumbersTo c.args.script.now l (c.loop-entry.entry-index + 1) ((c.loop-entry.next + c.entry-item.result.sent) % 2 ^ 64)) (sym c.in_ok-push.ensures.items)
    (numbers_next c.args.script.now c.loop-entry.numbers.items c.loop-entry.entry-index (c.loop-entry.entry-index + 1) c.loop-entry.next ((c.loop-entry.next + c.entry-item.result.sent) % 2 ^ 64) c.entry-item.result (item_at c.args.script.now c.loop-entry.entry-index c.entry-item.result within (sym c.entry-item.is)) refl refl c.loop-entry.invariant)

pub returns-clause-ok : goal.returns-clause-ok
returns-clause-ok c =
    let end : c.loop-entry.entry-index ≡ length c.args.script.now = omega arith in
    subst (AreFirstNumbers c.args.script.now) (sym c.in_ok-push-2.ensures.items) (numbers_whole c.args.script.now c.loop-entry.numbers.items c.loop-entry.entry-index c.loop-entry.next end c.loop-entry.invariant)

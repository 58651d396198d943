use Rattle.std.proofs.Common.{◌≡◌, ◌+◌, ◌++◌, sym, ap, subst}
use Rattle.cpg_step.specs.Looks.{past_by}
use Rattle.cpg_step.proofs.Listing.{record_put}
use Rattle.cpg_step.proofs.looking.put_records.Goals as goal

pub loop-past-preserved : goal.loop-past-preserved
loop-past-preserved g c =
    let line = past_by (g.F.TellsLooks.form c.args.form.now) in
    let i = c.loop-past.past-index in
    let counted = ap (λ n. n + 1) c.loop-past.invariant.counted in
    let put = subst (λ n. c.put_record.new.line.items ≡ c.loop-past.lines.items ++ line n c.past-item.result) counted c.in_ok-put_record.ensures.ok in
    record {
      counted = counted;
      put = record_put line c.args.lines.now.items c.loop-past.lines.items c.put_record.new.line.items c.args.records.now i c.past-item.result c.loop-past-test.true (sym c.past-item.is) c.loop-past.invariant.put put;
    }

use Rattle.std.proofs.Common.{◌≡◌, ◌-◌, length, sym, ap, ◌∙◌, arith}
use Rattle.std.proofs.lemmas.List.{length-take-le}
use Rattle.cpg_record.proofs.Denials.{each_entry_is_judged}
use Rattle.cpg_why.proofs.standings.find_stand.Goals as goal

pub slice_bounds-find_last-length : goal.slice_bounds-find_last-length
slice_bounds-find_last-length c =
    let many : length c.records.result.now ≡ length c.args.spot.now.policy.now = ap length c.records.ensures ∙ (each_entry_is_judged c.args.spot.now.policy.now).0 in
    sym (length-take-le (c.args.spot.now.place - 1) c.records.result.now (omega (arith, many, c.requires.1)))

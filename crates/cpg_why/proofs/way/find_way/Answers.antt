use Rattle.std.proofs.Common.{◌≡◌, ◌++◌, length, ap, ◌∙◌, arith}
use Rattle.std.specs.List.{flat_map, range_with_len}
use Rattle.cpg_record.specs.Judging.{judged}
use Rattle.cpg_record.proofs.Denials.{each_entry_is_judged}
use Rattle.cpg_why.specs.Ways.{way_at}
use Rattle.cpg_why.proofs.Pieces.{piece_put}
use Rattle.cpg_why.proofs.way.find_way.Goals as goal

pub loop-index-preserved : goal.loop-index-preserved
loop-index-preserved c =
    piece_put (way_at (judged c.args.policy.now) c.args.conn.now) c.loop-index.index c.args.list.now.items c.loop-index.list.items c.find_at.new.list.items
    c.loop-index.invariant c.in_ok-find_at.ensures.ok

pub returns-clause-ok : goal.returns-clause-ok
returns-clause-ok c =
    let count : c.loop-index.index ≡ length (judged c.args.policy.now) = omega (arith, c.len-index-end.ensures.value, (each_entry_is_judged c.args.policy.now).0) in
    c.loop-index.invariant
    ∙ ap (λ n. c.args.list.now.items ++ flat_map (way_at (judged c.args.policy.now) c.args.conn.now) (range_with_len 1 n)) count

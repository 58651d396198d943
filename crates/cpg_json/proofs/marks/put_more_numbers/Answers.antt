use Rattle.std.proofs.Common.{◌≡◌, ◌++◌, map, decimal, ap, ◌∙◌, arith}
use Rattle.cpg_json.specs.Marks.{frames_between}
use Rattle.cpg_json.specs.Objects.{more}
use Rattle.cpg_json.proofs.Heads.{last_put}
use Rattle.cpg_json.proofs.marks.put_more_numbers.Goals as goal

pub loop-index-preserved : goal.loop-index-preserved
loop-index-preserved c =
    last_put c.args.head.now.items c.loop-index.auto.index c.loop-index.invariant c.in_ok-put.ensures.ok c.in_ok-push_number.ensures.ok

pub returns-clause-ok : goal.returns-clause-ok
returns-clause-ok c =
    let end : c.loop-index.index ≡ c.args.last = omega (arith, c.loop-index.auto.index-end c.requires) in
    c.loop-index.invariant ∙ ap (λ n. c.args.head.now.items ++ more (map decimal (frames_between c.args.before n))) end

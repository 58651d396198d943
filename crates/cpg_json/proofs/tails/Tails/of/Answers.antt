use Rattle.std.proofs.Common.{subst, arith}
use Rattle.cpg_record.specs.Judging.{judged}
use Rattle.cpg_record.proofs.Denials.{each_entry_is_judged}
use Rattle.cpg_json.specs.Tails.{AreTails}
use Rattle.cpg_json.proofs.Told.{tails_next}
use Rattle.cpg_json.proofs.tails.Tails.of.Goals as goal

pub loop-index-preserved : goal.loop-index-preserved
loop-index-preserved c = tails_next (judged c.args.policy.now) c.loop-index.index _ _ c.loop-index.invariant c.in_ok-put_place.ensures.ok

pub returns-clause-ok : goal.returns-clause-ok
returns-clause-ok c =
    subst (AreTails c.loop-index.tails (judged c.args.policy.now)) (omega (arith, c.loop-index-test.false, c.loop-index.auto.index-end, c.len-index-end.ensures.value, (each_entry_is_judged c.args.policy.now).0)) c.loop-index.invariant

use Rattle.std.proofs.Common.{◌-◌, List, length, get_or, ap, ◌∙◌, arith}
use Rattle.cpg_record.specs.declared.records.Record.{Record}
use Rattle.cpg_record.specs.Judging.{judged}
use Rattle.cpg_record.proofs.Denials.{each_entry_is_judged}
use Rattle.cpg_judge.proofs.Gathered.{stands}
use Rattle.cpg_judge.proofs.judging.record_of.Goals as goal

pub bounds-records-place : goal.bounds-records-place
bounds-records-place c = omega (arith, c.requires.0, c.requires.1, ap length c.records.ensures, (each_entry_is_judged c.args.policy.now).0)

pub returns : goal.returns
returns c =
    stands (judged c.args.policy.now) c.args.place c.index-records-place.result c.requires.0 (omega (arith, c.requires.1, (each_entry_is_judged c.args.policy.now).0))
    (c.index-records-place.is ∙ ap (λ (l : List Record). get_or l (c.args.place - 1) c.index-records-place.result) c.records.ensures)

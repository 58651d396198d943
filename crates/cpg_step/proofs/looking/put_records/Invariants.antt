use Rattle.std.proofs.Common.{◌≡◌, ◌++◌, take}
use Rattle.std.specs.List.{concat}
use Rattle.cpg_step.specs.Looks.{numbered, past_by}
use Rattle.cpg_step.proofs.looking.put_records.Given as goal

abbrev pub invariant-loop-past : goal.invariant-loop-past
invariant-loop-past g l = record {
  counted : l.place ≡ l.past-index;
  put : l.lines.items ≡ l.initial.lines.items ++ concat (numbered (past_by (g.F.TellsLooks.form l.form)) (take l.past-index l.records));
}

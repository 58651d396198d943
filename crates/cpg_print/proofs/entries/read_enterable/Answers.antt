use Rattle.std.proofs.Common.{sym, ◌∙◌}
use Rattle.cpg_print.specs.Entries.{enterable_op}
use Rattle.cpg_print.specs.Words.{texts}
use Rattle.cpg_print.proofs.Limits.{limits_kept}
use Rattle.cpg_print.proofs.Somes.{none_there}
use Rattle.cpg_print.proofs.entries.read_enterable.Goals as goal

pub returns-then-keeps_limits-clause-memory : goal.returns-then-keeps_limits-clause-memory
returns-then-keeps_limits-clause-memory c =
    (c.in-Err.ensures.memory.0, sym (limits_kept (texts c.args.words.now) c.in-Err.ensures.memory.1) ∙ sym c.keeps_limits.ensures ∙ c.if-keeps_limits.true)

pub returns-else-keeps_limits-clause-ok : goal.returns-else-keeps_limits-clause-ok
returns-else-keeps_limits-clause-ok c =
    none_there (enterable_op (texts c.args.words.now)) (sym (limits_kept (texts c.args.words.now) c.in-Err.ensures.memory.1) ∙ sym c.keeps_limits.ensures ∙ c.if-keeps_limits.false)

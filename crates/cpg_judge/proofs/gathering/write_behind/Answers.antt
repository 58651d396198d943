use Rattle.std.proofs.Common.{List, ℕ, [], subst, sym}
use Rattle.std.specs.Prelude.{Ok, Err}
use Rattle.cpg_cred.specs.declared.refusals.Refusal.TheVariants as refusal
use Rattle.std.proofs.lemmas.Result.{err_from_is_err_and}
use Rattle.cpg_judge.specs.Gathering.{Gathers}
use Rattle.cpg_judge.proofs.Behind.{gathers_stop, gathers_text, gathers_text_cut, gathers_then}
use Rattle.cpg_judge.proofs.gathering.write_behind.Goals as goal

pub returns-in_err-write_all : goal.returns-in_err-write_all
returns-in_err-write_all g c = λ more is.
    let failed = err_from_is_err_and c.from_residual.result c.from_residual.ensures.1 in
    rw (failed.1, failed.2) (gathers_stop _ _ _ _ _ [] more c.in_err-write_all.ensures.lines)

pub returns-in-Ok : goal.returns-in-Ok
returns-in-Ok g c = λ more is.
    gathers_then _ _ _ _ _ _ _ [] more c.in_ok-write_all.ensures.lines
    (subst (λ (t : List ℕ). Gathers (Ok tt) (g.W.Write.contents c.write_all.new.writer) t (g.W.Write.contents c.write_whole.new.writer) t more) (sym c.in_ok-write_all.ensures.none)
    (gathers_text _ _ _ more is c.in-Ok.ensures.ok))

pub returns-in-Err : goal.returns-in-Err
returns-in-Err g c = λ more is.
    gathers_then _ _ _ _ _ _ _ [] more c.in_ok-write_all.ensures.lines
    (subst (λ (t : List ℕ). Gathers (Err refusal.Write) (g.W.Write.contents c.write_all.new.writer) t (g.W.Write.contents c.write_whole.new.writer) t more) (sym c.in_ok-write_all.ensures.none)
    (gathers_text_cut _ _ _ more is c.in-Err.ensures.err))

use Rattle.std.proofs.Common.{Bool, inl, inr, refl, sym, subst}
use Rattle.std.proofs.lemmas.Result.{err_from_is_err_and}
use Rattle.cpg_cred.specs.declared.refusals.Refusal.TheVariants.{Read}
use Rattle.cpg_cluster.specs.Shelled.{Outcome}
use Rattle.cpg_cluster.specs.ShellSteps.{IsLine}
use Rattle.cpg_cluster.proofs.Shelling.{shelled_on, shelled_whole, ended_before, ended_in}
use Rattle.cpg_cluster.proofs.shell.shells.answer_lines.Goals as goal

pub returns-in_err-more-clause-err : goal.returns-in_err-more-clause-err
returns-in_err-more-clause-err g c =
    let failed = err_from_is_err_and c.from_residual.result c.from_residual.ensures.1 in
    rw (failed.1, failed.2) (ended_before c.in_err-more.field-0.0 _ _ _ _ _ _ _ _ _ _ _ c.loop-number.invariant.so c.in_err-more.ensures.errors)

pub returns-in_err-done-clause-err : goal.returns-in_err-done-clause-err
returns-in_err-done-clause-err g c =
    let failed = err_from_is_err_and c.from_residual-in_err-done.result c.from_residual-in_err-done.ensures.1 in
    rw (failed.1, failed.2) (ended_before c.in_err-done.field-0.0 _ _ _ _ _ _ _ _ _ _ _ c.loop-number.invariant.so (inr c.in_err-done.ensures.memory))

pub returns-in_err-write_answered-clause-err : goal.returns-in_err-write_answered-clause-err
returns-in_err-write_answered-clause-err g c =
    let failed = err_from_is_err_and c.from_residual-in_err-write_answered.result c.from_residual-in_err-write_answered.ensures.1 in
    let outcome : Outcome = record { printed = c.in_ok-done.done.printed.items; told = c.in_ok-done.done.told.items; left = c.answer_line.new.sessions } in
    let line = subst (λ kept. IsLine kept c.in_ok-more.more (g.R.Read.remaining c.loop-number.reader) (g.R.Read.remaining c.read_line.new.reader)) (sym c.as_slice-line.ensures.value) c.in_ok-more.ensures.line in
    rw (failed.1, failed.2) (ended_in c.in_err-write_answered.field-0.0 _ _ _ _ _ _ _ _ _ _ _ _ _ _ c.as_slice-line.result.now c.in_ok-more.more outcome c.loop-number.invariant.so line c.in_ok-done.ensures.came
    c.in_err-write_answered.ensures.err.0 c.in_err-write_answered.ensures.err.1 c.in_err-write_answered.ensures.errors)

pub returns-then-not-more-clause-ok : goal.returns-then-not-more-clause-ok
returns-then-not-more-clause-ok g c =
    let outcome : Outcome = record { printed = c.in_ok-done.done.printed.items; told = c.in_ok-done.done.told.items; left = c.answer_line.new.sessions } in
    let line = subst (λ kept. IsLine kept c.in_ok-more.more (g.R.Read.remaining c.loop-number.reader) (g.R.Read.remaining c.read_line.new.reader)) (sym c.as_slice-line.ensures.value) c.in_ok-more.ensures.line in
    let last = subst (λ (more : Bool). IsLine c.as_slice-line.result.now more (g.R.Read.remaining c.loop-number.reader) (g.R.Read.remaining c.read_line.new.reader)) c.if-not-more.true line in
    shelled_whole _ _ _ _ _ _ _ _ _ _ _ _ _ _ c.as_slice-line.result.now outcome c.loop-number.invariant.so last c.in_ok-done.ensures.came
    c.in_ok-write_answered.ensures.ok.0 c.in_ok-write_answered.ensures.ok.1

pub loop-number-preserved : goal.loop-number-preserved
loop-number-preserved g c =
    let outcome : Outcome = record { printed = c.in_ok-done.done.printed.items; told = c.in_ok-done.done.told.items; left = c.answer_line.new.sessions } in
    let line = subst (λ kept. IsLine kept c.in_ok-more.more (g.R.Read.remaining c.loop-number.reader) (g.R.Read.remaining c.read_line.new.reader)) (sym c.as_slice-line.ensures.value) c.in_ok-more.ensures.line in
    let next = subst (λ (more : Bool). IsLine c.as_slice-line.result.now more (g.R.Read.remaining c.loop-number.reader) (g.R.Read.remaining c.read_line.new.reader)) c.if-not-more.false line in
    record {
      so = shelled_on _ _ _ _ _ _ _ _ _ _ _ _ _ _ c.as_slice-line.result.now outcome c.loop-number.invariant.so next c.in_ok-done.ensures.came c.in_ok-write_answered.ensures.ok.0 c.in_ok-write_answered.ensures.ok.1;
      within = c.answer_line.ensures.within;
    }

pub returns-clause-err : goal.returns-clause-err
returns-clause-err g c = ended_before Read _ _ _ _ _ _ _ _ _ _ _ c.loop-number.invariant.so (inl refl)

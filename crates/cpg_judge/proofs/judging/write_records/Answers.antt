use Rattle.std.proofs.Common.{◌≡◌, ◌<◌, ◌++◌, ◌+◌, ◌-◌, ℕ, length, subst, ap, ◌∙◌, arith}
use Rattle.std.specs.Prelude.{Ok, Err}
use Rattle.std.specs.List.{flat_map, range_with_len}
use Rattle.cpg_record.specs.Judging.{judged}
use Rattle.cpg_record.proofs.Denials.{each_entry_is_judged}
use Rattle.cpg_judge.specs.Gathering.{Gathers}
use Rattle.cpg_judge.specs.Judging.{told_at, told_upto, Form}
use Rattle.cpg_judge.proofs.Behind.{gathers_stop, gathers_then}
use Rattle.cpg_judge.proofs.Between.{told_parted, one_told_more}
use Rattle.cpg_judge.proofs.judging.write_records.Goals as goal

pub returns-in-Err-clause-lines : goal.returns-in-Err-clause-lines
returns-in-Err-clause-lines g c =
    let f = g.P.PutsJudged.form c.args.puts.now in
    let rs = judged c.args.policy.now in
    let i = c.loop-index.index in
    let within : i < length rs = omega (arith, c.loop-index-test.true, c.len-index-end.ensures.value, (each_entry_is_judged c.args.policy.now).0) in
    let all : length rs ≡ (i + 1) + (length rs - (i + 1)) = omega (arith, within) in
    let later = flat_map (told_at f rs) (range_with_len (1 + (i + 1)) (length rs - (i + 1))) in
    let around : told_upto f rs (length rs) ≡ (told_upto f rs i ++ told_at f rs (i + 1)) ++ later =
    ap (told_upto f rs) all ∙ told_parted f rs (i + 1) (length rs - (i + 1)) ∙ ap (λ l. l ++ later) (one_told_more f rs i) in
    let one = subst (λ (form : Form). Gathers (Err c.in-Err.refusal) (g.W.Write.contents c.loop-index.writer) c.loop-index.lines.items (g.W.Write.contents c.write_record.new.writer) c.write_record.new.lines.items (told_at form rs (i + 1))) c.loop-index.invariant.same c.in-Err.ensures.lines in
    rw around (gathers_stop _ _ _ _ _ (told_upto f rs i ++ told_at f rs (i + 1)) later
    (gathers_then _ _ _ _ _ _ _ (told_upto f rs i) (told_at f rs (i + 1)) c.loop-index.invariant.gathered one))

pub loop-index-preserved : goal.loop-index-preserved
loop-index-preserved g c =
    let f = g.P.PutsJudged.form c.args.puts.now in
    let rs = judged c.args.policy.now in
    let i = c.loop-index.index in
    let one = subst (λ (form : Form). Gathers (Ok tt) (g.W.Write.contents c.loop-index.writer) c.loop-index.lines.items (g.W.Write.contents c.write_record.new.writer) c.write_record.new.lines.items (told_at form rs (i + 1))) c.loop-index.invariant.same c.in-Ok.ensures.lines in
    record {
      gathered = rw (one_told_more f rs i) (gathers_then _ _ _ _ _ _ _ (told_upto f rs i) (told_at f rs (i + 1)) c.loop-index.invariant.gathered one);
      same = c.in-Ok.ensures.same ∙ c.loop-index.invariant.same;
      taken = c.in-Ok.ensures.taken;
    }

pub returns-clause-lines : goal.returns-clause-lines
returns-clause-lines g c =
    let rs = judged c.args.policy.now in
    let all : c.loop-index.index ≡ length rs = omega (arith, c.loop-index-test.false, c.loop-index.auto.index-end, c.len-index-end.ensures.value, (each_entry_is_judged c.args.policy.now).0) in
    subst (λ (n : ℕ). Gathers (Ok tt) (g.W.Write.contents c.args.writer.now) c.args.lines.now.items (g.W.Write.contents c.loop-index.writer) c.loop-index.lines.items (told_upto (g.P.PutsJudged.form c.args.puts.now) rs n)) all c.loop-index.invariant.gathered

pub returns-clause-taken : goal.returns-clause-taken
returns-clause-taken g c =
    subst (g.P.PutsJudged.stands c.loop-index.puts c.args.policy.now) (omega (arith, c.loop-index-test.false, c.loop-index.auto.index-end, c.len-index-end.ensures.value, (each_entry_is_judged c.args.policy.now).0)) c.loop-index.invariant.taken

use Rattle.std.proofs.Common.{sym, subst, ◌∙◌, option_map}
use Rattle.cpg_text.specs.Lines.{lines_left}
use Rattle.cpg_accept.proofs.Cutting.{Passed, passed_line, cut_before, uncut_before, end_fits, shorter}
use Rattle.cpg_accept.proofs.parts.Cut.of.Goals as goal

pub slice_bounds-result-end : goal.slice_bounds-result-end
slice_bounds-result-end c =
    let left = lines_left (option_map (λ rest. rest.now) c.next.new.self.rest) in
    end_fits c.args.text.now c.args.lines_before c.in-Some.line.now left c.loop-line.number c.loop-line.end
    (subst (λ lines. Passed c.args.text.now c.args.lines_before lines c.loop-line.number c.loop-line.end) c.in-Some.ensures.steps c.loop-line.invariant.passed)

pub returns-in-Some-head_in-clause-before : goal.returns-in-Some-head_in-clause-before
returns-in-Some-head_in-clause-before c =
    let left = lines_left (option_map (λ rest. rest.now) c.next.new.self.rest) in
    cut_before c.args.text.now c.args.lines_before c.in-Some.line.now left c.loop-line.number c.loop-line.end c.in-Some-head_in.kind
    (subst (λ lines. Passed c.args.text.now c.args.lines_before lines c.loop-line.number c.loop-line.end) c.in-Some.ensures.steps c.loop-line.invariant.passed)
    (sym c.head_in.ensures ∙ c.in-Some-head_in.is)

pub end_before-end-requires : goal.end_before-end-requires
end_before-end-requires c =
    shorter c.args.text.now c.args.lines_before c.in-Some.line.now c.next.new.self.rest c.loop-line.number c.loop-line.end
    (subst (λ lines. Passed c.args.text.now c.args.lines_before lines c.loop-line.number c.loop-line.end) c.in-Some.ensures.steps c.loop-line.invariant.passed)

pub loop-line-preserved : goal.loop-line-preserved
loop-line-preserved c = record {
  next = tt;
  finite = tt;
  passed =
      subst (λ number. Passed c.args.text.now c.args.lines_before (lines_left (option_map (λ rest. rest.now) c.next.new.self.rest)) number c.end_before-end.result) (sym c.saturating_add-number.ensures)
      (passed_line c.args.text.now c.args.lines_before c.in-Some.line.now c.next.new.self.rest c.loop-line.number c.loop-line.end c.end_before-end.result
      (subst (λ lines. Passed c.args.text.now c.args.lines_before lines c.loop-line.number c.loop-line.end) c.in-Some.ensures.steps c.loop-line.invariant.passed)
      (sym c.head_in.ensures ∙ c.in_default-head_in.is)
      c.end_before-end.ensures);
}

pub returns-clause-before : goal.returns-clause-before
returns-clause-before c =
    uncut_before c.args.text.now c.args.lines_before c.loop-line.number c.loop-line.end
    (subst (λ lines. Passed c.args.text.now c.args.lines_before lines c.loop-line.number c.loop-line.end) (c.in_default.ensures.steps).0 c.loop-line.invariant.passed)

use Rattle.std.proofs.Common.{◌∷◌, ap, sym, ◌∙◌, inr, option_map}
use Rattle.cpg_text.specs.Lines.{is_ignored, lines_left, lines_of, words_of}
use Rattle.cpg_conf.specs.Names.{next_number}
use Rattle.cpg_accept.specs.Asks.{answer_of, answers_from, cred_of}
use Rattle.cpg_accept.specs.Steps.{answers_with}
use Rattle.cpg_accept.proofs.Answering.{fault_here, fault_of_all}
use Rattle.cpg_accept.proofs.asks.answer_all.Goals as goal

pub returns-in-Err-clause-err : goal.returns-in-Err-clause-err
returns-in-Err-clause-err c =
    let rest = lines_left (option_map (λ r. r.now) c.next.new.self.rest) in
    let line = c.in-Some.line.now in
    let list = c.args.list.now in
    let same =
    c.loop-line.invariant.same
    ∙ ap (λ lines. answers_with c.loop-line.answers.items (answers_from list (next_number c.loop-line.number) lines)) c.in-Some.ensures.steps
    ∙ ap (λ number. answers_with c.loop-line.answers.items (answers_from list number (line ∷ rest))) (sym c.saturating_add-number.ensures) in
    let said = ap (λ text. answer_of list c.saturating_add-number.result (cred_of (words_of text))) (sym c.trim-line.ensures) ∙ c.in-Err.ensures.err in
    inr (fault_of_all c.args.answers.now.items c.loop-line.answers.items (answers_from list (next_number c.args.lines_before) (lines_of c.args.text.now)) (answers_from list c.saturating_add-number.result (line ∷ rest)) c.in-Err.refusal same
    (fault_here list c.saturating_add-number.result line rest c.in-Err.refusal (ap is_ignored (sym c.trim-line.ensures) ∙ sym c.if-not-is_ignored.ensures) said))

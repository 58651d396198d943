use Rattle.std.proofs.Common.{◌≡◌, option_map}
use Rattle.cpg_text.specs.Lines.{lines_of, lines_left}
use Rattle.cpg_conf.specs.Names.{next_number}
use Rattle.cpg_accept.specs.Asks.{HasAsk, answers_from}
use Rattle.cpg_accept.specs.Steps.{answers_with}
use Rattle.cpg_accept.proofs.asks.answer_all.Given as goal

abbrev pub invariant-loop-line : goal.invariant-loop-line
invariant-loop-line l = record {
  next : (goal.iterator-loop-line).can_next l.line-iterator;
  finite : (goal.iterator-loop-line).is_finite l.line-iterator;
  same : answers_with l.initial.answers.items (answers_from l.list (next_number l.lines_before) (lines_of l.text))
      ≡ answers_with l.answers.items (answers_from l.list (next_number l.number) (lines_left (option_map (λ rest. rest.now) l.line-iterator.rest)));
  asks : HasAsk (lines_left (option_map (λ rest. rest.now) l.line-iterator.rest)) → HasAsk (lines_of l.text);
}

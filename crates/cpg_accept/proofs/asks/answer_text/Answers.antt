use Rattle.std.proofs.Common.{◌++◌, ◌∙◌, [], ℕ, List, codes, ap, sym, arith}
use Rattle.std.proofs.lemmas.Fmt.{decimal_digit}
use Rattle.cpg_accept.specs.Asks.{answer_line}
use Rattle.cpg_accept.proofs.asks.answer_text.Goals as goal

pub returns-in-None : goal.returns-in-None
returns-in-None c =
    let line = λ (number : List ℕ). codes "refused " ++ (number ++ codes " " ++ codes "Access" ++ []) ++ codes "\n" in
    ap line (sym (decimal_digit 2 (omega arith))) ∙ sym (ap answer_line c.in-None.is)

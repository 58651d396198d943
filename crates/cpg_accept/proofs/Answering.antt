-- asks that are answered one after the other
use Rattle.std.proofs.Common.{◌≡◌, ℕ, List, ◌∷◌, false, true≢false, Option, Result, Ok, Err, ap, ◌∙◌}
use Rattle.std.specs.Prelude.{if◌then◌else◌, is_ok}
use Rattle.cpg_cred.specs.Listed.{Listed}
use Rattle.cpg_cred.specs.declared.admission.Via.{Via}
use Rattle.cpg_cred.specs.declared.refusals.Refusal.{Refusal}
use Rattle.cpg_text.specs.Lines.{trimmed, words_of, is_ignored}
use Rattle.cpg_conf.specs.Names.{next_number}
use Rattle.cpg_accept.specs.Asks.{answer_of, answer_then, answers_from, cred_of}
use Rattle.cpg_accept.specs.Steps.{answers_with}

-- the fault of a line that is no ask is that of the lines from it on
pub fault_here : (list : Listed) (number : ℕ) (text : List ℕ) (later : List (List ℕ)) (fault : Refusal)
    → is_ignored (trimmed text) ≡ false → answer_of list number (cred_of (words_of (trimmed text))) ≡ Err fault → answers_from list number (text ∷ later) ≡ Err fault
fault_here list number text later fault speaks e =
    ap (λ test. if test then answers_from list (next_number number) later
    else answer_then (answer_of list number (cred_of (words_of (trimmed text)))) (answers_from list (next_number number) later)) speaks
    ∙ ap (λ said. answer_then said (answers_from list (next_number number) later)) e

-- and that of all the lines, where those before it were answered
pub fault_of_all : (before answers : List (Option Via)) (all said : Result (List (Option Via)) Refusal) (fault : Refusal)
    → answers_with before all ≡ answers_with answers said → said ≡ Err fault → all ≡ Err fault
fault_of_all before answers (Ok later) said fault same e = absurd (true≢false (ap is_ok (same ∙ ap (answers_with answers) e)))
fault_of_all before answers (Err first) said fault same e = same ∙ ap (answers_with answers) e

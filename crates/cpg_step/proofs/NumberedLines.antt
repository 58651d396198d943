-- lines with the numbers of frames
use Rattle.std.proofs.Common.{◌≡◌, ℕ, suc, ◌+◌, ◌-◌, ◌≤◌, List, ◌++◌, length, take, codes, decimal, sym, ap, ◌∙◌, append_assoc, arith}
use Rattle.cpg_world_laws.specs.Replies.{Answer}
use Rattle.cpg_step.specs.Lines.{answer_line}
use Rattle.cpg_step.specs.Numbers.{numbers_after, frames_text}
use Rattle.cpg_step.specs.NumberedSteps.{numbered_line, unended}

-- one number more
pub numbers_more : (before index : ℕ) (old known spaced new : List ℕ) → before ≤ index
    → known ≡ old ++ numbers_after before (index - before) → spaced ≡ known ++ codes " " → new ≡ spaced ++ decimal (index + 1)
    → new ≡ old ++ numbers_after before (index + 1 - before)
numbers_more before index old known spaced new le before_it space put =
    let more : index + 1 - before ≡ suc (index - before) = omega arith in
    let number : before + suc (index - before) ≡ index + 1 = omega arith in
    put ∙ (ap (λ x. x ++ decimal (index + 1)) (space ∙ ap (λ x. x ++ codes " ") before_it)
    ∙ (regrouped old (numbers_after before (index - before)) (codes " ") (decimal (index + 1))
    ∙ (ap (λ n. old ++ (numbers_after before (index - before) ++ (codes " " ++ decimal n))) (sym number)
    ∙ ap (λ n. old ++ numbers_after before n) (sym more))))
  where
    regrouped : (a b c d : List ℕ) → ((a ++ b) ++ c) ++ d ≡ a ++ (b ++ (c ++ d))
    regrouped a b c d = simp append_assoc

-- the parts of an answer's line
pub line_put : (before last : ℕ) (answer : Answer) (old line ended first second new : List ℕ) → line ≡ answer_line answer → ended ≡ take (length line - 1) line
    → first ≡ old ++ ended → second ≡ first ++ frames_text before last → new ≡ second ++ codes "\n" → new ≡ old ++ numbered_line before last answer
line_put before last answer old line ended first second new said cut put numbered done =
    let known : ended ≡ unended (answer_line answer) = cut ∙ ap unended said in
    done ∙ (ap (λ x. x ++ codes "\n") (numbered ∙ ap (λ x. x ++ frames_text before last) (put ∙ ap (λ x. old ++ x) known))
    ∙ regrouped old (unended (answer_line answer)) (frames_text before last) (codes "\n"))
  where
    regrouped : (a b c d : List ℕ) → ((a ++ b) ++ c) ++ d ≡ a ++ (b ++ c ++ d)
    regrouped a b c d = simp append_assoc

-- pieces of a text that are put one after the other
use Rattle.std.proofs.Common.{◌≡◌, ℕ, List, ◌++◌, Result, Ok, Err, OnOk, ap, ◌∙◌, append_assoc}

-- two pieces, the second of them where it is put
pub two_put : {A E : Type 0} (done : Result A E) (text one other between whole : List ℕ)
    → between ≡ text ++ one → OnOk done (whole ≡ between ++ other) → OnOk done (whole ≡ text ++ (one ++ other))
two_put (Ok value) text one other between whole first second = second ∙ ap (λ before. before ++ other) first ∙ append_assoc text one other
two_put (Err why) text one other between whole first second = second

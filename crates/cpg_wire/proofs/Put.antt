-- Parts that are put one behind the other.
use Rattle.std.proofs.Common.{◌≡◌, ◌++◌, ◌∙◌, ℕ, List, ap, append_assoc}

-- what is put behind a part stands behind it in the whole
pub behind : (front part whole more : List ℕ) → whole ≡ front ++ part → whole ++ more ≡ front ++ (part ++ more)
behind front part whole more put = ap (λ l. l ++ more) put ∙ append_assoc front part more

-- how many words there are
use Rattle.std.proofs.Common.{◌≡◌, ℕ, List, [], ◌∷◌, take, refl}
use Rattle.cpg_print.specs.Rules.{rule_of}
use Rattle.cpg_cluster.specs.Commands.{command_of}

-- no word after the ninth matters
pub command_of_first : (nodes : ℕ) (words : List (List ℕ)) → command_of nodes (take 9 words) ≡ command_of nodes words
unfolding rule_of
command_of_first nodes [] = refl
command_of_first nodes (a ∷ []) = refl
command_of_first nodes (a ∷ b ∷ []) = refl
command_of_first nodes (a ∷ b ∷ c ∷ []) = refl
command_of_first nodes (a ∷ b ∷ c ∷ d ∷ []) = refl
command_of_first nodes (a ∷ b ∷ c ∷ d ∷ e ∷ []) = refl
command_of_first nodes (a ∷ b ∷ c ∷ d ∷ e ∷ f ∷ []) = refl
command_of_first nodes (a ∷ b ∷ c ∷ d ∷ e ∷ f ∷ g ∷ []) = refl
command_of_first nodes (a ∷ b ∷ c ∷ d ∷ e ∷ f ∷ g ∷ h ∷ []) = refl
command_of_first nodes (a ∷ b ∷ c ∷ d ∷ e ∷ f ∷ g ∷ h ∷ i ∷ more) = refl

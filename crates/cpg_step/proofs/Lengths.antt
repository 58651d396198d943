-- how many words there are, and whether they say a command
use Rattle.std.proofs.Common.{◌≡◌, ℕ, List, [], ◌∷◌, take, true, Option, Some, None, is_some, option_map, refl, ◌∙◌}
use Rattle.std.specs.Option.{option_and_then}
use Rattle.cpg_text.specs.Lines.{only}
use Rattle.cpg_world_laws.specs.declared.events.WorldEvent.{WorldEvent}
use Rattle.cpg_print.proofs.Somes.{mapped}
use Rattle.cpg_step.specs.declared.commands.Look.{Look}
use Rattle.cpg_step.specs.declared.commands.Command.TheVariants as command
use Rattle.cpg_step.specs.Commands.{act_or_look, connect_of, list_of, look_of, node_alone, node_and_conn, node_of}
use Rattle.cpg_step.specs.Steps.{two}

-- no word after the fifth of a connect matters
pub connect_of_first : (nodes : ℕ) (words : List (List ℕ)) → connect_of nodes (take 5 words) ≡ connect_of nodes words
connect_of_first nodes [] = refl
connect_of_first nodes (a ∷ []) = refl
connect_of_first nodes (a ∷ b ∷ []) = refl
connect_of_first nodes (a ∷ b ∷ c ∷ []) = refl
connect_of_first nodes (a ∷ b ∷ c ∷ d ∷ []) = refl
connect_of_first nodes (a ∷ b ∷ c ∷ d ∷ e ∷ more) = refl

-- nor one after the fourth of a list
pub list_of_first : (nodes : ℕ) (words : List (List ℕ)) → list_of nodes (take 4 words) ≡ list_of nodes words
list_of_first nodes [] = refl
list_of_first nodes (a ∷ []) = refl
list_of_first nodes (a ∷ b ∷ []) = refl
list_of_first nodes (a ∷ b ∷ c ∷ []) = refl
list_of_first nodes (a ∷ b ∷ c ∷ d ∷ more) = refl

-- nor one after the third of a look
pub look_of_first : (nodes : ℕ) (word : List ℕ) (words : List (List ℕ)) → look_of nodes word (take 3 words) ≡ look_of nodes word words
look_of_first nodes word [] = refl
look_of_first nodes word (a ∷ []) = refl
look_of_first nodes word (a ∷ b ∷ []) = refl
look_of_first nodes word (a ∷ b ∷ c ∷ more) = refl

-- two words are one, and another that is the only one left
pub two_of_only : (word : List ℕ) (words : List (List ℕ)) → two (word ∷ words) ≡ option_map (λ last. (word, last)) (only words)
two_of_only word [] = refl
two_of_only word (a ∷ []) = refl
two_of_only word (a ∷ b ∷ more) = refl

-- a node alone is the only word
pub alone_of_only : (nodes : ℕ) (words : List (List ℕ)) → node_alone nodes words ≡ option_and_then (λ word. node_of nodes word) (only words)
alone_of_only nodes [] = refl
alone_of_only nodes (a ∷ []) = refl
alone_of_only nodes (a ∷ b ∷ more) = refl

-- a node and a connection are two words
pub at_of_two : (nodes : ℕ) (words : List (List ℕ)) → node_and_conn nodes words ≡ option_and_then (λ at. node_and_conn nodes (at.0 ∷ at.1 ∷ [])) (two words)
at_of_two nodes [] = refl
at_of_two nodes (a ∷ []) = refl
at_of_two nodes (a ∷ b ∷ []) = refl
at_of_two nodes (a ∷ b ∷ c ∷ more) = refl

-- where one acts there is a command
pub act_there : (act : Option WorldEvent) (look : Option Look) → is_some act ≡ true → is_some (act_or_look act look) ≡ true
act_there None look is = cc
act_there (Some event) look is = refl

-- where one looks there is a command
pub look_there : (act : Option WorldEvent) (look : Option Look) → is_some look ≡ true → is_some (act_or_look act look) ≡ true
look_there None look is = mapped (λ l. command.Look l) look ∙ is
look_there (Some event) look is = refl

-- a call that is spelled just so
use Rattle.std.proofs.Common.{◌≡◌, ℕ, List, [], ◌∷◌, Some, refl, ap}
use Rattle.std.specs.Prelude.{option_map}
use Rattle.cpg_entry.specs.declared.calls.Call.TheVariants as calls
use Rattle.cpg_print.specs.declared.plain_calls.Verb.{Verb}
use Rattle.cpg_print.specs.declared.plain_calls.Verb.TheVariants.{Join, Send}
use Rattle.cpg_print.specs.Calls.{call_of}
use Rattle.cpg_print.specs.Steps.{call_by, verb_word}
use Rattle.cpg_text.specs.Percent.{message_of}

-- a verb and an argument that spells its own bytes say the call of that argument
pub said_by : (verb : Verb) (argument : List ℕ) → message_of argument ≡ Some argument → call_of (verb_word verb ∷ argument ∷ []) ≡ Some (call_by verb argument)
said_by Join argument spelled = refl
said_by Send argument spelled = ap (option_map (λ message. calls.Send message)) spelled

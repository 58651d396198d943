-- The numbers that say what is told.
use Rattle.std.specs.Prelude.{ℕ, ◌+◌, List, [], ◌∷◌, Option}
use Rattle.cpg_wire.specs.Codes.{form_of}
use Rattle.cpg_ask.specs.declared.codes.AskCode.TheVariants.{Hello, Join, Leave, Members, Groups, Insert, Remove}
use Rattle.cpg_ask.specs.declared.kinds.Kind.{Kind}
use Rattle.cpg_ask.specs.declared.kinds.Kind.TheVariants.{Answer, Message, Change, Denied}
use Rattle.cpg_ask.specs.Codes.{ask_code}

-- the number of what is told: an answer's is 256 above its ask's
abbrev pub kind_number : Kind → ℕ
kind_number (Answer code) = 256 + ask_code code
kind_number Message = 513
kind_number Change = 514
kind_number Denied = 515

-- all that is told: a message has no answer
abbrev pub all_kinds : List Kind
all_kinds = Answer Hello ∷ Answer Join ∷ Answer Leave ∷ Answer Members ∷ Answer Groups ∷ Answer Insert ∷ Answer Remove ∷ Message ∷ Change ∷ Denied ∷ []

-- what is told by that number
unfoldable pub kind_of : ℕ → Option Kind
kind_of number = form_of kind_number all_kinds number

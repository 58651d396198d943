-- The numbers that say what is asked. They are this project's own, as its daemon has them.
use Rattle.std.specs.Prelude.{ℕ, List, [], ◌∷◌, Option}
use Rattle.cpg_wire.specs.Codes.{form_of}
use Rattle.cpg_ask.specs.declared.codes.AskCode.{AskCode}
use Rattle.cpg_ask.specs.declared.codes.AskCode.TheVariants.{Hello, Join, Leave, Send, Members, Groups, Insert, Remove}

-- the number of an ask
abbrev pub ask_code : AskCode → ℕ
ask_code Hello = 1
ask_code Join = 2
ask_code Leave = 3
ask_code Send = 4
ask_code Members = 5
ask_code Groups = 6
ask_code Insert = 7
ask_code Remove = 8

-- all that may be asked
abbrev pub all_codes : List AskCode
all_codes = Hello ∷ Join ∷ Leave ∷ Send ∷ Members ∷ Groups ∷ Insert ∷ Remove ∷ []

-- the ask that a number stands for
unfoldable pub ask_code_of : ℕ → Option AskCode
ask_code_of number = form_of ask_code all_codes number

-- What a client's bytes do.
use Rattle.std.specs.Prelude.{◌≡◌, ◌≤◌, ℕ, true, false, List, [], ◌∷◌, ◌++◌, map, length, drop}
use Rattle.std.specs.List.{flat_map, AllByRecursion}
use Rattle.cpg_ask.specs.Asks.{Ask, Whole, Part, Broken}
use Rattle.cpg_ask.specs.Reading.{read_of}
use Rattle.cpg_ask.specs.Spelling.{spelling, IsAsk}
use Rattle.cpg_ask.specs.Streams.{StandsIn}
use Rattle.cpg_serve.specs.declared.hearing.Stop.{Stop}
use Rattle.cpg_serve.specs.declared.hearing.Stop.TheVariants as stops
use Rattle.cpg_serve.specs.declared.hearing.Step.{Step}
use Rattle.cpg_serve.specs.declared.hearing.Step.TheVariants as steps
use Rattle.cpg_serve.specs.Asking.{At, Turn, IsTurn, asked, asked_all, takes_in}

-- Why no more was heard: less than a whole ask is left; what is left begins no ask; the node's queue is full for the
-- next ask, which is whole; or there was no memory for it. The next ask was not heard.
abbrev pub IsStop : ℕ → At → List ℕ → Stop → Type 0
IsStop conn s rest stops.Part = read_of rest ≡ Part
IsStop conn s rest stops.Broken = read_of rest ≡ Broken
IsStop conn s rest stops.Full = (ask : Ask) × (count : ℕ) × (read_of rest ≡ Whole ask count) × (takes_in conn s ask ≡ false)
IsStop conn s rest stops.Memory = (ask : Ask) × (count : ℕ) × (read_of rest ≡ Whole ask count)

-- the asks of turns, in order
abbrev pub asks_of : List Turn → List Ask
asks_of turns = map (λ turn. turn.ask) turns

-- One ask was heard, and did what it says; or none was, and nothing was done.
abbrev pub IsStep : ℕ → At → List ℕ → Step → At → Type 0
IsStep conn s bytes (steps.Took count) t = (turn : Turn) × StandsIn bytes turn.ask count × IsTurn conn s turn × (takes_in conn s turn.ask ≡ true) × (t ≡ asked conn s turn)
IsStep conn s bytes (steps.Stops why) t = (t ≡ s) × IsStop conn s bytes why

-- none of these asks met a full queue, and each listing was of the groups at its moment
abbrev pub AllTaken : ℕ → At → List Turn → Type 0
AllTaken conn s [] = Unit {0}
AllTaken conn s (turn ∷ turns) = IsTurn conn s turn × (takes_in conn s turn.ask ≡ true) × AllTaken conn (asked conn s turn) turns

-- So many bytes were heard: they are asks, each of which did what it says.
pub record HeardSo (conn : ℕ) (s : At) (bytes : List ℕ) (count : ℕ) (t : At) : Type 0 where
  pub turns : List Turn
  pub each : AllByRecursion IsAsk (asks_of turns)
  pub parts : bytes ≡ flat_map spelling (asks_of turns) ++ drop count bytes
  pub taken : AllTaken conn s turns
  pub within : count ≤ length bytes
  pub done : t ≡ asked_all conn s turns

-- Bytes were heard as far as they go, or as the node takes them.
pub record Hears (conn : ℕ) (s : At) (bytes : List ℕ) (count : ℕ) (stop : Stop) (t : At) : Type 0 where
  pub so : HeardSo conn s bytes count t
  pub why : IsStop conn t (drop count bytes) stop

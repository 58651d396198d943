-- Why a record is not settled, and what that leaves.
use Rattle.std.specs.Prelude.{ℕ, ◌≡◌, ◌≢◌, ◌<◌, List, [], ◌∷◌, ◌++◌, length}
use Rattle.cpg_record.specs.declared.records.Record.{Record}
use Rattle.cpg_board.specs.declared.settling.Settled.{Settled}
use Rattle.cpg_board.specs.declared.settling.Settled.TheVariants.{Memory, BoardFull, Differs}
use Rattle.cpg_board.specs.Seats.{SeatValue, records_of}

-- Memory: the seat is as it was, and knows not every place. BoardFull: it is as it was, and knows every
-- place. Differs: another record stands at the next place, and the seat ends with it.
abbrev pub Refuses : List ℕ → SeatValue → Record → Settled → SeatValue → Type 0
Refuses board before wanted Memory after = (after ≡ before) × (length before < length board)
Refuses board before wanted BoardFull after = (after ≡ before) × (length before ≡ length board)
Refuses board before wanted (Differs standing) after =
    (records_of after ≡ records_of before ++ standing.now ∷ []) × (standing.now ≢ wanted)

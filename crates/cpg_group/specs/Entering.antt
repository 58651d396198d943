-- what holds before an entry is judged and put among the records in one go
use Rattle.std.specs.Prelude.{ℕ, ◌≡◌, List, []}
use Rattle.cpg_record.specs.declared.records.Record.{Record}
use Rattle.cpg_record.specs.Judging.{record_of}
use Rattle.cpg_group.specs.Standing.{Kept, kept_group, AreStanding, CanTake}

-- There is a draft of its record, the groups are those that the records make, and each can be brought past its record at the place.
abbrev pub CanEnter : Kept → List Record → ℕ → Record → Type 0
CanEnter kept records place next =
    (next.members ≡ []) × AreStanding kept records × ((g : List ℕ) → CanTake g (kept_group kept g) (place, record_of records next.entry))

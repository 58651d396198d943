-- What a session may rely on while nodes go on.
use Rattle.std.specs.Prelude.{ℕ, ◌≡◌, List, Some}
use Rattle.std.specs.List.{slice_get}
use Rattle.cpg_record.specs.declared.connections.ConnId.{ConnId}
use Rattle.cpg_record.specs.declared.events.Event.{Event}
use Rattle.cpg_record.specs.declared.records.Record.{Record}
use Rattle.cpg_record.specs.Events.{inbox}
use Rattle.cpg_record.specs.Places.{Begins}

-- an item of an inbox over the first records is that item of the inbox over all
abbrev pub InboxesKeepTheirItems : Type 0
InboxesKeepTheirItems =
    (first all : List Record) (conn : ConnId) (index : ℕ) (e : Event) → Begins first all → slice_get (inbox first conn) index ≡ Some e → slice_get (inbox all conn) index ≡ Some e

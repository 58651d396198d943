-- The verdicts that a client is told.
use Rattle.std.specs.Prelude.{◌≡◌, List, [], ◌∷◌, map}
use Rattle.std.specs.List.{filter, flat_map}
use Rattle.cpg_record.specs.declared.connections.ConnId.{ConnId}
use Rattle.cpg_record.specs.declared.events.Event.{Event}
use Rattle.cpg_record.specs.declared.events.Event.TheVariants as event
use Rattle.cpg_record.specs.declared.records.Record.{Record}
use Rattle.cpg_record.specs.declared.verdicts.Verdict.{Verdict}
use Rattle.cpg_record.specs.Connections.{conn_of, is_conn}
use Rattle.cpg_record.specs.Events.{inbox}

-- the verdict that an event tells, if it tells one
abbrev pub verdict_in : Event → List Verdict
verdict_in (event.Verdict place verdict) = verdict ∷ []
verdict_in _ = []

-- the records of a connection's own entries
abbrev pub own_records : List Record → ConnId → List Record
own_records records conn = filter (λ r. is_conn conn (conn_of r.entry)) records

-- the verdicts in a connection's inbox are those of its own entries, each once, in the order of their places
abbrev pub VerdictsAreItsOwn : Type 0
VerdictsAreItsOwn = (records : List Record) (conn : ConnId) → flat_map verdict_in (inbox records conn) ≡ map (λ r. r.verdict) (own_records records conn)

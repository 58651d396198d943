-- what the lines of events say after the connection, kept once for each place
use Rattle.std.specs.Prelude.{ℕ, Bool, List, [], ◌++◌, map, codes, option_to_list, if◌then◌else◌}
use Rattle.std.specs.List.{flat_map, range_with_len}
use Rattle.cpg_record.specs.declared.connections.ConnId.{ConnId}
use Rattle.cpg_record.specs.declared.events.Event.{Event}
use Rattle.cpg_record.specs.declared.records.Record.{Record}
use Rattle.cpg_group.specs.Telling.{told}
use Rattle.cpg_judge.specs.Texts.{HoldsTexts, TextValue}
use Rattle.cpg_json.specs.Events.{event_fields}
use Rattle.cpg_json.specs.Objects.{kind, more}
use Rattle.cpg_json.specs.Records.{conn_fields}

-- the front of an event's line, with its connection
abbrev pub front_of : ConnId → List ℕ
front_of conn = codes "{" ++ kind (codes "event") ++ more (conn_fields conn)

-- the rest of it
abbrev pub tail_of : Event → List ℕ
tail_of event = more (event_fields event) ++ codes "}\n"

-- the rest of the line of what a place tells its group, where it tells it anything
abbrev pub tail_at : List Record → ℕ → List ℕ
tail_at records place = flat_map tail_of (option_to_list (told records place))

-- those of the places up to the last one
abbrev pub tails_upto : List Record → ℕ → List (List ℕ)
tails_upto records last = map (tail_at records) (range_with_len 1 last)

-- these are kept
abbrev pub AreTails : TextValue → List Record → ℕ → Type 0
AreTails value records last = HoldsTexts value (tails_upto records last)

-- the line of a connection's own verdict, where the entry is its own
abbrev pub own_text : Bool → List ℕ → Event → List ℕ
own_text own front event = if own then front ++ tail_of event else []

-- the line of what a place tells the group, where the connection hears it
abbrev pub heard_text : Bool → List ℕ → List ℕ → List ℕ
heard_text heard front tail = if heard then front ++ tail else []

-- the line of what a place tells its group, to a connection that hears it
abbrev pub heard_line : List Record → ConnId → ℕ → List ℕ
heard_line records conn place = front_of conn ++ tail_at records place

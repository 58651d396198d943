-- what a place tells those of its group, whoever they are
use Rattle.std.specs.Prelude.{ℕ, Bool, List, [], ◌∷◌, Option, Some, None, if◌then◌else◌}
use Rattle.cpg_entry.specs.declared.calls.Call.TheVariants.{Join, Leave, Send, Insert, Remove}
use Rattle.cpg_entry.specs.declared.calls.Op.{Op}
use Rattle.cpg_entry.specs.declared.calls.Op.TheVariants.{Act, Gone}
use Rattle.cpg_record.specs.declared.connections.ConnId.{ConnId}
use Rattle.cpg_record.specs.declared.events.Event.{Event}
use Rattle.cpg_record.specs.declared.events.Event.TheVariants.{Message, Change, RulesChanged}
use Rattle.cpg_record.specs.declared.moves.Cause.TheVariants as cause
use Rattle.cpg_record.specs.declared.records.Record.{Record}
use Rattle.cpg_record.specs.Connections.{conn_of, member_of}
use Rattle.cpg_record.specs.Events.{hears_change, moves_of}
use Rattle.cpg_record.specs.Membership.{is_allowed, is_member, members}
use Rattle.cpg_record.specs.Places.{record_at, records_before}

-- what an allowed op of a group tells each of those who are told of it
abbrev pub told_by : ℕ → List Record → Record → List ℕ → Op → Event
told_by place before r g (Act (Send message)) = Message place g r.entry.node r.entry.pid message
told_by place before r g (Act (Join name)) = Change place g r.members [] (record { member = member_of r.entry; cause = cause.Join } ∷ [])
told_by place before r g (Act Leave) = Change place g r.members (moves_of (conn_of r.entry) cause.Leave (members before g)) []
told_by place before r g Gone = Change place g r.members (moves_of (conn_of r.entry) cause.Down (members before g)) []
told_by place before r g (Act (Insert name index rule)) = RulesChanged place g
told_by place before r g (Act (Remove name id)) = RulesChanged place g

-- an allowed op of a group tells the connection something beside the verdict
abbrev pub hears : List Record → Record → ConnId → List ℕ → Op → Bool
hears before r conn g (Act (Send message)) = is_member before conn g
hears before r conn g (Act (Join name)) = hears_change before r conn g
hears before r conn g (Act Leave) = hears_change before r conn g
hears before r conn g Gone = hears_change before r conn g
hears before r conn g (Act (Insert name index rule)) = is_member before conn g
hears before r conn g (Act (Remove name id)) = is_member before conn g

-- what a record tells its group, if it has one: nothing where it is denied
abbrev pub told_in : ℕ → List Record → Record → Option (List ℕ) → Option Event
told_in place before r None = None
told_in place before r (Some g) = if is_allowed r.verdict then Some (told_by place before r g r.entry.op) else None

-- what the record that stands at the place tells its group, if one stands there
abbrev pub told_from : ℕ → List Record → Option Record → Option Event
told_from place before None = None
told_from place before (Some r) = told_in place before r r.group

-- what a place tells its group
abbrev pub told : List Record → ℕ → Option Event
told records place = told_from place (records_before records place) (record_at records place)

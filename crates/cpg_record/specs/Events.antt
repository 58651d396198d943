-- What a place tells a connection. That a change lists the members, those who left and those who joined,
-- each with a reason, is cpg_initialize(3); the verdict and the notice of changed rules are this project's own.
use Rattle.std.specs.Prelude.{ℕ, Bool, ◌||◌, List, [], ◌∷◌, ◌++◌, map, length, Option, Some, None, option_to_list, if◌then◌else◌}
use Rattle.std.specs.List.{filter, flat_map, range_with_len}
use Rattle.cpg_entry.specs.declared.calls.Call.TheVariants.{Join, Leave, Send, Insert, Remove}
use Rattle.cpg_entry.specs.declared.calls.Op.{Op}
use Rattle.cpg_entry.specs.declared.calls.Op.TheVariants.{Act, Gone}
use Rattle.cpg_record.specs.declared.connections.ConnId.{ConnId}
use Rattle.cpg_record.specs.declared.events.Event.{Event}
use Rattle.cpg_record.specs.declared.events.Event.TheVariants.{Verdict, Message, Change, RulesChanged}
use Rattle.cpg_record.specs.declared.memberships.Member.{Member}
use Rattle.cpg_record.specs.declared.moves.Cause.{Cause}
use Rattle.cpg_record.specs.declared.moves.Cause.TheVariants as cause
use Rattle.cpg_record.specs.declared.moves.Move.{Move}
use Rattle.cpg_record.specs.declared.records.Record.{Record}
use Rattle.cpg_record.specs.Connections.{conn_of, conn_in, is_conn, member_of}
use Rattle.cpg_record.specs.Membership.{is_allowed, is_member, members}
use Rattle.cpg_record.specs.Places.{record_at, records_before}

-- the members that are this connection, each with the cause
abbrev pub moves_of : ConnId → Cause → List Member → List Move
moves_of conn cause list = map (λ member. record { member = member; cause = cause }) (filter (λ member. is_conn (conn_in member) conn) list)

-- the connection is in the group before the record or with it
abbrev pub hears_change : List Record → Record → ConnId → List ℕ → Bool
hears_change before r conn g = is_member before conn g || is_member (before ++ r ∷ []) conn g

-- a change of the group, told to the connections that are in it before or with the record
abbrev pub change : ℕ → List Record → Record → ConnId → List ℕ → List Move → List Move → Option Event
change place before r conn g left joined =
    if hears_change before r conn g then Some (Change place g r.members left joined) else None

-- what an allowed op tells a connection of its group, beside the verdict
abbrev pub news_by : ℕ → List Record → Record → ConnId → List ℕ → Op → Option Event
news_by place before r conn g (Act (Send message)) =
    if is_member before conn g then Some (Message place g r.entry.node r.entry.pid message) else None
news_by place before r conn g (Act (Join name)) =
    change place before r conn g [] (record { member = member_of r.entry; cause = cause.Join } ∷ [])
news_by place before r conn g (Act Leave) =
    change place before r conn g (moves_of (conn_of r.entry) cause.Leave (members before g)) []
news_by place before r conn g Gone =
    change place before r conn g (moves_of (conn_of r.entry) cause.Down (members before g)) []
news_by place before r conn g (Act (Insert name index rule)) =
    if is_member before conn g then Some (RulesChanged place g) else None
news_by place before r conn g (Act (Remove name id)) =
    if is_member before conn g then Some (RulesChanged place g) else None

-- what a record tells a connection beside the verdict: nothing where it is denied or has no group
abbrev pub news : ℕ → List Record → Record → ConnId → Option (List ℕ) → Option Event
news place before r conn None = None
news place before r conn (Some g) = if is_allowed r.verdict then news_by place before r conn g r.entry.op else None

-- the maker of an entry is told its verdict
abbrev pub answer : ℕ → Record → ConnId → List Event
answer place r conn = if is_conn conn (conn_of r.entry) then Verdict place r.verdict ∷ [] else []

-- the events of the record that stands at the place, if one does
abbrev pub events_by : ℕ → List Record → ConnId → Option Record → List Event
events_by place before conn None = []
events_by place before conn (Some r) = answer place r conn ++ option_to_list (news place before r conn r.group)

-- the events of a place for a connection
abbrev pub events : List Record → ℕ → ConnId → List Event
events records place conn = events_by place (records_before records place) conn (record_at records place)

-- all events for a connection, by place
abbrev pub inbox : List Record → ConnId → List Event
inbox records conn = flat_map (λ place. events records place conn) (range_with_len 1 (length records))

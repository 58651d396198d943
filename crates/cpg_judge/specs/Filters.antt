-- what a filter keeps
use Rattle.std.specs.Prelude.{ℕ, Bool, true, false, not, ◌&&◌, nat_le, List, Option, Some, None, option_map}
use Rattle.cpg_entry.specs.declared.calls.Call.TheVariants.{Join, Leave, Send, Insert, Remove}
use Rattle.cpg_entry.specs.declared.calls.Op.{Op}
use Rattle.cpg_entry.specs.declared.calls.Op.TheVariants.{Act, Gone}
use Rattle.cpg_record.specs.Connections.{conn_of, is_conn}
use Rattle.cpg_record.specs.Membership.{is_allowed, is_named}
use Rattle.cpg_record.specs.declared.connections.ConnId.{ConnId}
use Rattle.cpg_record.specs.declared.events.Event.{Event}
use Rattle.cpg_record.specs.declared.events.Event.TheVariants as event
use Rattle.cpg_record.specs.declared.records.Record.{Record}
use Rattle.cpg_judge.specs.declared.filter.filters.Filter.{Filter}
use Rattle.cpg_judge.specs.declared.filter.filters.Only.{Only}
use Rattle.cpg_judge.specs.declared.filter.filters.Only.TheVariants.{Denied, Verdicts, Messages, Changes, Rules}

-- an allowed op of that kind: messages are sent, changes are joins, leaves and ends, rules are put in and removed
abbrev pub is_of_kind : Only → Op → Bool
is_of_kind Messages (Act (Send message)) = true
is_of_kind Changes (Act (Join g)) = true
is_of_kind Changes (Act Leave) = true
is_of_kind Changes Gone = true
is_of_kind Rules (Act (Insert g index rule)) = true
is_of_kind Rules (Act (Remove g id)) = true
is_of_kind only op = false

-- the kind keeps the line of a record: each verdict, each denial, or the allowed ops of the kind
abbrev pub keeps_verdict : Option Only → Record → Bool
keeps_verdict None r = true
keeps_verdict (Some Verdicts) r = true
keeps_verdict (Some Denied) r = not (is_allowed r.verdict)
keeps_verdict (Some only) r = is_allowed r.verdict && is_of_kind only r.entry.op

-- the kind keeps the line of an event
abbrev pub keeps_event : Option Only → Event → Bool
keeps_event None e = true
keeps_event (Some Verdicts) (event.Verdict place verdict) = true
keeps_event (Some Denied) (event.Verdict place verdict) = not (is_allowed verdict)
keeps_event (Some Messages) (event.Message place g node pid message) = true
keeps_event (Some Changes) (event.Change place g members left joined) = true
keeps_event (Some Rules) (event.RulesChanged place g) = true
keeps_event only e = false

-- the group is the one that is asked for, where one is
abbrev pub keeps_group : Option (List ℕ) → Option (List ℕ) → Bool
keeps_group None group = true
keeps_group (Some g) group = is_named group g

-- and so the connection
abbrev pub keeps_conn : Option ConnId → ConnId → Bool
keeps_conn None conn = true
keeps_conn (Some asked) conn = is_conn asked conn

-- the group that a filter asks for
abbrev pub group_asked : Filter → Option (List ℕ)
group_asked filter = option_map (λ name. name.now) filter.group

-- the record stands at one of the places, and is of the group
abbrev pub keeps_place : Filter → ℕ → Record → Bool
keeps_place filter place r = nat_le filter.first place && nat_le place filter.last && keeps_group (group_asked filter) r.group

-- the line of the record is kept
abbrev pub keeps_record : Filter → ℕ → Record → Bool
keeps_record filter place r = keeps_place filter place r && keeps_conn filter.conn (conn_of r.entry) && keeps_verdict filter.only r

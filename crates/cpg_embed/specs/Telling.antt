-- What events tell, in numbers, and the parts of an event.
use Rattle.std.specs.Prelude.{ℕ, List, [], length, Option, Some, None}
use Rattle.cpg_cred.specs.declared.bases.By.TheVariants as by
use Rattle.cpg_record.specs.declared.events.Event.{Event}
use Rattle.cpg_record.specs.declared.events.Event.TheVariants as event
use Rattle.cpg_record.specs.declared.memberships.Member.{Member}
use Rattle.cpg_record.specs.declared.moves.Move.{Move}
use Rattle.cpg_record.specs.declared.verdicts.Verdict.{Verdict}
use Rattle.cpg_record.specs.declared.verdicts.Verdict.TheVariants.{Allowed, Denied}
use Rattle.cpg_record.specs.declared.verdicts.Reason.TheVariants as reason
use Rattle.cpg_embed.specs.declared.told.Told.{Told}

-- 0 allowed; else the reason of a denial
abbrev pub verdict_number : Verdict → ℕ
verdict_number (Allowed by) = 0
verdict_number (Denied (reason.Rule id)) = 1
verdict_number (Denied reason.Default) = 2
verdict_number (Denied reason.Closed) = 3
verdict_number (Denied reason.Joined) = 4
verdict_number (Denied reason.Twice) = 5
verdict_number (Denied reason.Full) = 6
verdict_number (Denied reason.Position) = 7
verdict_number (Denied reason.TableFull) = 8
verdict_number (Denied reason.Absent) = 9

-- what a verdict rests on: 1 a rule, 2 a default, 3 the asker is root, 4 no right was needed; 0 where an entry is denied by what it
-- asks itself
abbrev pub basis_number : Verdict → ℕ
basis_number (Allowed (by.Rule id)) = 1
basis_number (Allowed by.Default) = 2
basis_number (Allowed by.Root) = 3
basis_number (Allowed by.Free) = 4
basis_number (Denied (reason.Rule id)) = 1
basis_number (Denied reason.Default) = 2
basis_number (Denied _) = 0

-- the id of the rule that a verdict rests on, else 0
abbrev pub rule_number : Verdict → ℕ
rule_number (Allowed (by.Rule id)) = id
rule_number (Denied (reason.Rule id)) = id
rule_number _ = 0

-- an event that tells nothing but its kind and place
abbrev pub bare : ℕ → ℕ → Told
bare kind place =
    record {
      kind = kind;
      place = place;
      node = 0;
      pid = 0;
      verdict = 0;
      basis = 0;
      rule = 0;
      group_len = 0;
      message_len = 0;
      members = 0;
      left = 0;
      joined = 0;
    }

-- what an event tells
abbrev pub told_of : Event → Told
told_of (event.Verdict place verdict) =
    record (bare 1 place) { verdict = verdict_number verdict; basis = basis_number verdict; rule = rule_number verdict }
told_of (event.Message place group node pid message) =
    record (bare 2 place) { node = node; pid = pid; group_len = length group; message_len = length message }
told_of (event.Change place group members left joined) =
    record (bare 3 place) { group_len = length group; members = length members; left = length left; joined = length joined }
told_of (event.RulesChanged place group) = record (bare 4 place) { group_len = length group }

-- the group that an event names
abbrev pub group_in : Option Event → Option (List ℕ)
group_in (Some (event.Message place group node pid message)) = Some group
group_in (Some (event.Change place group members left joined)) = Some group
group_in (Some (event.RulesChanged place group)) = Some group
group_in _ = None

-- the message of an event
abbrev pub message_in : Option Event → Option (List ℕ)
message_in (Some (event.Message place group node pid message)) = Some message
message_in _ = None

-- the members after a change; nobody for any other event
abbrev pub members_in : Option Event → List Member
members_in (Some (event.Change place group members left joined)) = members
members_in _ = []

-- who left by a change
abbrev pub left_in : Option Event → List Move
left_in (Some (event.Change place group members left joined)) = left
left_in _ = []

-- who joined by a change
abbrev pub joined_in : Option Event → List Move
joined_in (Some (event.Change place group members left joined)) = joined
joined_in _ = []

-- what an inbox is made of: the entries and the connection, and what the groups tell
use Rattle.std.specs.Prelude.{ℕ, ◌≡◌, ◌-◌, suc, List, length, take, drop, Option, Some, None, MatchOption}
use Rattle.std.specs.List.{concat, flat_map}
use Rattle.cpg_entry.specs.declared.entries.Entry.{Entry}
use Rattle.cpg_record.specs.declared.connections.ConnId.{ConnId}
use Rattle.cpg_record.specs.declared.records.Record.{Record}
use Rattle.cpg_record.specs.Membership.{group_of}
use Rattle.cpg_record.specs.Nexts.{acts_in}
use Rattle.cpg_record.specs.Places.{places_from, places_of}
use Rattle.cpg_judge.specs.Texts.{HoldsTexts, TextValue, texts_upto, told_lines}

-- the judged entries, and the connection whose inbox it is
pub record InboxValue : Type 0 where
  pub entries : List Entry
  pub conn : ConnId

-- a group's name, the places of its allowed entries, their texts, and how many of them were passed
pub record ToldValue : Type 0 where
  pub group : List ℕ
  pub places : List ℕ
  pub text : TextValue
  pub passed : ℕ

-- these are the group's places and texts
abbrev pub IsTold : List Record → ToldValue → Type 0
IsTold records told = (told.places ≡ places_of (acts_in told.group) records) × HoldsTexts told.text (texts_upto records told.group (length records))

-- how many of the group's places come up to the last one
abbrev pub count_at : List Record → List ℕ → ℕ → ℕ
count_at records g last = length (places_of (acts_in g) (take last records))

-- the same, and those up to that place were passed
abbrev pub IsPast : List Record → ℕ → ToldValue → Type 0
IsPast records last told = IsTold records told × (told.passed ≡ count_at records told.group last)

-- it is what the group tells that the connection is in after that place, if it is in one, and those up to there
-- were passed
abbrev pub IsHeard : List Record → ConnId → ℕ → Option ToldValue → Type 0
IsHeard records conn last told =
    MatchOption told (group_of (take last records) conn ≡ None) (λ one. (group_of (take last records) conn ≡ Some one.group) × IsPast records last one)

-- what the places of a group above one tell it, up to another
abbrev pub told_between : List Record → List ℕ → ℕ → ℕ → List ℕ
told_between records g after last = concat (flat_map (told_lines records) (places_from (acts_in g) (suc after) (take (last - after) (drop after records))))

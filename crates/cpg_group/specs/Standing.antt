-- how the groups stand, as it is kept beside the records
use Rattle.std.specs.Prelude.{ℕ, ◌≡◌, true, ◌&&◌, List, [], ◌∷◌, ◌++◌, Option, Some, None, if◌then◌else◌}
use Rattle.cpg_rules.specs.Tables.{Rules}
use Rattle.cpg_record.specs.declared.memberships.Member.{Member}
use Rattle.cpg_record.specs.declared.records.Record.{Record}
use Rattle.cpg_record.specs.Membership.{is_allowed, is_named, members}
use Rattle.cpg_record.specs.Named.{Named, kept_or}
use Rattle.cpg_record.specs.Nexts.{acts_in}
use Rattle.cpg_record.specs.Places.{places_of}
use Rattle.cpg_record.specs.RuleTables.{edited_by, rules_of}
use Rattle.cpg_record.specs.Steps.{CanEditBy}
use Rattle.cpg_members.specs.Processes.{ComesTo}

-- a group: its table, its members, and the places of the allowed entries that are of it
pub record GroupValue : Type 0 where
  pub table : Rules
  pub members : List Member
  pub places : List ℕ

-- names with their groups
abbrev pub Kept : Type 0
Kept = Named GroupValue

-- a group without rules, members and places
abbrev pub no_group : GroupValue
no_group = record { table = []; members = []; places = [] }

-- the first group that is kept for a name
abbrev pub kept_group : Kept → List ℕ → GroupValue
kept_group kept g = kept_or no_group kept g

-- the group that is kept for a name, if there is a name
abbrev pub kept_for : Kept → Option (List ℕ) → GroupValue
kept_for kept None = no_group
kept_for kept (Some g) = kept_group kept g

-- the members of the list that is there, and nobody where there is none
abbrev pub listed : Option (List Member) → List Member
listed None = []
listed (Some list) = list

-- the group as it stands after the records
abbrev pub standing : List Record → List ℕ → GroupValue
standing records g = record { table = rules_of records g; members = members records g; places = places_of (acts_in g) records }

-- the group of that name as it stands after the records, if there is a name
abbrev pub standing_for : List Record → Option (List ℕ) → GroupValue
standing_for records None = no_group
standing_for records (Some g) = standing records g

-- the kept groups are those that the records make
abbrev pub AreStanding : Kept → List Record → Type 0
AreStanding kept records = (g : List ℕ) → kept_group kept g ≡ standing records g

-- a group after its allowed record at that place: its members are the record's, and it has the place
abbrev pub changed : ℕ → Record → GroupValue → GroupValue
changed place r group = record { table = edited_by place r.entry.op group.table; members = r.members; places = group.places ++ place ∷ [] }

-- a group after the record: an allowed record changes its group, and no other
abbrev pub group_past : List ℕ → GroupValue → ℕ × Record → GroupValue
group_past g group p = if is_allowed p.1.verdict && is_named p.1.group g then changed p.0 p.1 group else group

-- the group can take its allowed record at that place: its table the edit, and its members those that the record lists
abbrev pub CanChange : GroupValue → ℕ → Record → Type 0
CanChange group place r = CanEditBy group.table place r.entry.op × ComesTo group.members r.entry r.entry.op r.members

-- where the record changes the group, the group can take it
abbrev pub CanTake : List ℕ → GroupValue → ℕ × Record → Type 0
CanTake g group p = is_allowed p.1.verdict ≡ true → is_named p.1.group g ≡ true → CanChange group p.0 p.1

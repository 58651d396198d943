-- What listings show, in the words of membership and of the rule that speaks. Each law is the contract of a
-- function of `src/laws.rt`, which has nothing to do.
use Rattle.std.specs.Prelude.{ℕ, ◌≡◌, ◌↔◌, List, Ok, Contains}
use Rattle.cpg_rules.specs.declared.rules.Asker.{Asker}
use Rattle.cpg_rules.specs.declared.rules.Right.TheVariants as right
use Rattle.cpg_record.specs.declared.connections.ConnId.{ConnId}
use Rattle.cpg_record.specs.declared.records.Record.{Record}
use Rattle.cpg_record.specs.Laws.{InGroup}
use Rattle.cpg_record.specs.Listings.{listing, IsShownTo}
use Rattle.cpg_record.specs.Reasons.{Lets}
use Rattle.cpg_record.specs.RuleTables.{rules_of}

-- the process is a member of the group: a connection of its node is in it, by a join of that process
abbrev pub HasProcess : List Record → List ℕ → ℕ → ℕ → Type 0
HasProcess records g node pid = (conn : ℕ) × (in_it : InGroup records (record { node = node; conn = conn }) g) × (in_it.join.entry.pid ≡ pid)

-- some connection is in the group
abbrev pub HasMember : List Record → List ℕ → Type 0
HasMember records g = (conn : ConnId) × InGroup records conn g

-- the group's table lets the asker list it
abbrev pub MayList : List Record → Asker → List ℕ → Type 0
MayList records asker g = Lets (rules_of records g) right.List asker

-- the asker is shown the group exactly where its table lets the asker list it, and then exactly its members' processes
pub record ShowsMembers (records : List Record) (asker : Asker) (g : List ℕ) : Type 0 where
  pub where_allowed : ((list : List (ℕ × ℕ)) × (listing records asker g ≡ Ok list)) ↔ MayList records asker g
  pub exactly : (list : List (ℕ × ℕ)) → listing records asker g ≡ Ok list → (node pid : ℕ) → Contains list (node, pid) ↔ HasProcess records g node pid

-- each listing shows exactly the members
abbrev pub ListingsShowMembers : Type 0
ListingsShowMembers = (records : List Record) (asker : Asker) (g : List ℕ) → ShowsMembers records asker g

-- a group is named exactly where it has a member and its table lets the asker list it
abbrev pub GroupsWithMembersAreNamed : Type 0
GroupsWithMembersAreNamed = (records : List Record) (asker : Asker) (g : List ℕ) → IsShownTo records asker g ↔ (HasMember records g × MayList records asker g)

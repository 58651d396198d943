-- the processes of a group's members, as they are kept beside the members
use Rattle.std.specs.Prelude.{◌≡◌, ◌≤◌, ◌<◌, Bool, not, ◌&&◌, ◌==◌, List, [], ◌∷◌, ◌++◌, count_by, length, Option, Some, None, option_map, Box}
use Rattle.std.specs.List.{list_any}
use Rattle.indexmap.specs.IndexSet.{IndexSet}
use Rattle.cpg_entry.specs.declared.calls.Call.TheVariants.{Join, Leave}
use Rattle.cpg_entry.specs.declared.calls.Op.{Op}
use Rattle.cpg_entry.specs.declared.calls.Op.TheVariants.{Act, Gone}
use Rattle.cpg_entry.specs.declared.entries.Entry.{Entry}
use Rattle.cpg_record.specs.declared.connections.ConnId.{ConnId}
use Rattle.cpg_record.specs.declared.memberships.Member.{Member}
use Rattle.cpg_record.specs.Connections.{conn_of, conn_in, is_conn, member_of}
use Rattle.cpg_record.specs.Steps.{without}
use Rattle.cpg_members.specs.declared.member_index.Process.{Process}
use Rattle.cpg_members.specs.declared.member_index.TheConstants.{FEW}

-- the process of a member
abbrev pub process_in : Member → Process
process_in member = record { node = member.node; pid = member.pid }

-- the process of an entry
abbrev pub process_of : Entry → Process
process_of entry = record { node = entry.node; pid = entry.pid }

-- the two are one process
abbrev pub is_process : Process → Process → Bool
is_process a b = (a.node == b.node) && (a.pid == b.pid)

-- a process is kept exactly where a member has its node and pid
abbrev pub AreProcesses : List Process → List Member → Type 0
AreProcesses kept members = (p : Process) → list_any (is_process p) kept ≡ list_any (λ member. is_process (process_in member) p) members

-- the processes of a boxed set, where there is one
abbrev pub kept_of : {S Z : Type 0} → Option (Box (IndexSet Process S) Z) → Option (List Process)
kept_of boxed = option_map (λ set. set.value.keys) boxed

-- processes are kept exactly where the members are more than a few, and then they are those of the members
abbrev pub AreKept : Option (List Process) → List Member → Type 0
AreKept None members = length members ≤ FEW
AreKept (Some kept) members = (FEW < length members) × AreProcesses kept members

-- no process stands twice among the members
abbrev pub OnceEach : List Member → Type 0
OnceEach members = (p : Process) → count_by (λ member. is_process (process_in member) p) members ≤ 1

-- the member is that connection, and of that process
abbrev pub is_leaver : ConnId → Process → Member → Bool
is_leaver conn p member = is_conn (conn_in member) conn && is_process (process_in member) p

-- the processes that are kept are those that were, but for those of the connection
abbrev pub TakesOut : ConnId → List Member → List Process → List Process → Type 0
TakesOut conn members old new =
    (p : Process) → list_any (is_process p) new ≡ (list_any (is_process p) old && not (list_any (is_leaver conn p) members))

-- the members without the connection, whose process nobody else among them has
abbrev pub Leaves : ConnId → List Member → List Member → Type 0
Leaves conn members after = (after ≡ without conn members) × OnceEach members

-- what an allowed op of a group's entry makes of its members: a join puts its own at the end, and an end takes it out
abbrev pub ComesTo : List Member → Entry → Op → List Member → Type 0
ComesTo members entry (Act (Join g)) after = after ≡ members ++ member_of entry ∷ []
ComesTo members entry (Act Leave) after = Leaves (conn_of entry) members after
ComesTo members entry Gone after = Leaves (conn_of entry) members after
ComesTo members entry _ after = after ≡ members

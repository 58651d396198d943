-- Which places tell a connection anything, and the next such place.
use Rattle.std.specs.Prelude.{ℕ, ◌≡◌, ◌≢◌, ◌<◌, ◌≤◌, ◌↔◌, nat_le, Bool, true, false, ◌&&◌, ◌||◌, List, [], length, take, Option, Some, None}
use Rattle.std.specs.List.{slice_get}
use Rattle.std.specs.List.Sorted.{IsPartitionPoint}
use Rattle.cpg_entry.specs.declared.entries.Entry.{Entry}
use Rattle.cpg_record.specs.declared.connections.ConnId.{ConnId}
use Rattle.cpg_record.specs.declared.records.Record.{Record}
use Rattle.cpg_record.specs.Connections.{conn_of, is_conn}
use Rattle.cpg_record.specs.Events.{events}
use Rattle.cpg_record.specs.Judging.{judged}
use Rattle.cpg_record.specs.Membership.{group_of, is_allowed, is_named, members}
use Rattle.cpg_record.specs.Places.{places_of, record_at, records_before, IsNextOf}

-- the connection made the record's entry
abbrev pub is_made_by : ConnId → Record → Bool
is_made_by conn r = is_conn conn (conn_of r.entry)

-- the record is allowed and of that group
abbrev pub acts_in : List ℕ → Record → Bool
acts_in g r = is_allowed r.verdict && is_named r.group g

-- the record acts in the group that is there
abbrev pub reaches : Option (List ℕ) → Record → Bool
reaches None r = false
reaches (Some g) r = acts_in g r

-- a place tells a connection something exactly where the connection made its entry, or the entry acts in
-- the group that the connection is in before it
abbrev pub TellsExactly : Type 0
TellsExactly = (records : List Record) (conn : ConnId) (place : ℕ) (r : Record) → record_at records place ≡ Some r →
    (events records place conn ≢ []) ↔ ((is_made_by conn r || reaches (group_of (records_before records place) conn) r) ≡ true)

-- the place is the least above that one which tells the connection anything
pub record IsNextTold (records : List Record) (after : ℕ) (conn : ConnId) (place : ℕ) : Type 0 where
  pub above : after < place
  pub within : place ≤ length records
  pub told : events records place conn ≢ []
  pub none_between : (earlier : ℕ) → after < earlier → earlier < place → events records earlier conn ≡ []

-- no place above that one tells the connection anything
abbrev pub TellsNoMore : List Record → ℕ → ConnId → Type 0
TellsNoMore records after conn = (place : ℕ) → after < place → events records place conn ≡ []

-- no record passes the test from the one index on and before the other
abbrev pub NoneWithin : (Record → Bool) → List Record → ℕ → ℕ → Type 0
NoneWithin test records low high = (n : ℕ) (r : Record) → low ≤ n → n < high → slice_get records n ≡ Some r → test r ≡ false

-- a connection's group stays as long as the connection makes no entry
abbrev pub GroupsStay : Type 0
GroupsStay = (records : List Record) (conn : ConnId) (low high : ℕ) → low ≤ high → NoneWithin (is_made_by conn) records low high →
    group_of (take high records) conn ≡ group_of (take low records) conn

-- a group's members stay as long as no allowed entry is of it
abbrev pub MembersStay : Type 0
MembersStay = (entries : List Entry) (g : List ℕ) (low high : ℕ) → low ≤ high → NoneWithin (acts_in g) (judged entries) low high →
    members (take high (judged entries)) g ≡ members (take low (judged entries)) g

-- where a search for a place cuts the ascending list of places, the next one stands
abbrev pub NextIsAtTheCut : Type 0
NextIsAtTheCut = (test : Record → Bool) (records : List Record) (last cut : ℕ) →
    IsPartitionPoint (λ place. nat_le place last ≡ true) (λ place. nat_le place last ≡ false) (places_of test records) cut →
    IsNextOf test records last (slice_get (places_of test records) cut)

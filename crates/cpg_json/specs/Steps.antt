-- steps of the writing functions, which no contract of a public function cites
use Rattle.std.specs.Prelude.{ℕ, ◌≡◌, ◌≤◌, ◌+◌, ◌-◌, List, [], length, map, Some}
use Rattle.std.specs.List.{flat_map, range_with_len, slice_get}
use Rattle.cpg_record.specs.declared.connections.ConnId.{ConnId}
use Rattle.cpg_record.specs.declared.records.Record.{Record}
use Rattle.cpg_record.specs.Events.{events}
use Rattle.cpg_record.specs.Judging.{judged}
use Rattle.cpg_json.specs.Events.{event_json}
use Rattle.cpg_json.specs.Objects.{joined}
use Rattle.cpg_json.specs.Records.{member_array}
use Rattle.cpg_json.specs.Tails.{front_of, AreTails}
use Rattle.cpg_json.specs.declared.records.KeptMembers.{KeptMembers}
use Rattle.cpg_json.specs.declared.stretches.Inbox.{Inbox}

-- the lines of a place for a connection
abbrev pub lines_at : List Record → ConnId → ℕ → List (List ℕ)
lines_at records conn place = map (event_json conn) (events records place conn)

-- the lines of the places above one, up to another
abbrev pub lines_between : List Record → ConnId → ℕ → ℕ → List (List ℕ)
lines_between records conn after last = flat_map (lines_at records conn) (range_with_len (after + 1) (last - after))

-- the text is that of the members
abbrev pub IsKept : KeptMembers → Type 0
IsKept kept = kept.text.items ≡ joined (map member_array kept.members)

-- each of them is the place of a record
abbrev pub ArePlaces : List Record → List ℕ → Type 0
ArePlaces records places = (index place : ℕ) → slice_get places index ≡ Some place → (1 ≤ place) × (place ≤ length records)

-- the front is the connection's, and the tails are those of all judged places
abbrev pub IsInbox : Inbox → Type 0
IsInbox inbox = AreTails inbox.tails.now (judged inbox.policy.now) (length (judged inbox.policy.now)) × (inbox.front.now ≡ front_of inbox.conn.now)

-- How a connection stands to an entry: why it is told of it, or is not.
use Rattle.std.specs.Prelude.{ℕ, ◌≡◌, ◌≢◌, ◌↔◌, Bool, true, false, not, ◌&&◌, List, [], ◌∷◌, ◌++◌, map, Option, Some, None, if◌then◌else◌}
use Rattle.std.specs.List.{enumerate_from, fold}
use Rattle.std.specs.Str.{bytes_eq}
use Rattle.cpg_entry.specs.declared.calls.Call.TheVariants.{Join}
use Rattle.cpg_entry.specs.declared.calls.Op.{Op}
use Rattle.cpg_entry.specs.declared.calls.Op.TheVariants.{Act}
use Rattle.cpg_record.specs.declared.connections.ConnId.{ConnId}
use Rattle.cpg_record.specs.declared.records.Record.{Record}
use Rattle.cpg_record.specs.Events.{events}
use Rattle.cpg_record.specs.Membership.{group_of, is_allowed}
use Rattle.cpg_record.specs.Nexts.{is_made_by}
use Rattle.cpg_record.specs.Places.{record_at, records_before}
use Rattle.cpg_why.specs.declared.findings.Finding.{Finding}
use Rattle.cpg_why.specs.declared.findings.Finding.TheVariants.{Stands, Heard}
use Rattle.cpg_why.specs.declared.findings.Stand.{Stand}
use Rattle.cpg_why.specs.declared.standings.Standing.{Standing}
use Rattle.cpg_why.specs.declared.standings.Standing.TheVariants.{Maker, Denied, Groupless, Member, Elsewhere, Outside}
use Rattle.cpg_why.specs.Moves.{last_move, moves}

-- how a connection of the one group stands to an allowed entry of the other, if they have one
abbrev pub standing_in : Option (List ℕ) → Option (List ℕ) → Standing
standing_in None mine = Groupless
standing_in (Some g) None = Outside
standing_in (Some g) (Some h) = if bytes_eq g h then Member else Elsewhere

-- Its maker is told of an entry; of an allowed one, too, who is in its group when it comes.
abbrev pub standing : List Record → Record → ConnId → Standing
standing before r conn =
    if is_made_by conn r then Maker else if is_allowed r.verdict then standing_in r.group (group_of before conn) else Denied

-- who stands so is told
abbrev pub is_told : Standing → Bool
is_told Maker = true
is_told Member = true
is_told _ = false

-- A place tells a connection something exactly where it stands so to the place's entry.
abbrev pub ToldByStanding : Type 0
ToldByStanding = (records : List Record) (conn : ConnId) (place : ℕ) (r : Record) → record_at records place ≡ Some r →
    (events records place conn ≢ []) ↔ (is_told (standing (records_before records place) r conn) ≡ true)

-- ---- joins that were denied

abbrev pub is_join : Op → Bool
is_join (Act (Join g)) = true
is_join _ = false

-- the record is a denied join of that connection
abbrev pub tries : ConnId → Record → Bool
tries conn r = not (is_allowed r.verdict) && is_join r.entry.op && is_made_by conn r

-- the place of the record where it is one; none where the record moves the connection; else the place before
abbrev pub tried : ConnId → Option ℕ → ℕ × Record → Option ℕ
tried conn last p = if moves conn p.1 then None else if tries conn p.1 then Some p.0 else last

-- the place of the connection's last denied join since its last move, if there is one
abbrev pub last_tried : List Record → ConnId → Option ℕ
last_tried records conn = fold (tried conn) None (enumerate_from 1 records)

-- ---- what is found

-- how the connection stands to the entry of the record of a place, and where it is before it
abbrev pub stand_of : List Record → ConnId → ℕ → Record → Stand
stand_of before conn place r = record {
  place = place;
  conn = conn;
  standing = standing before r conn;
  group = group_of before conn;
  since = last_move before conn;
  tried = last_tried before conn;
}

-- the same of a record that is there
abbrev pub stand_by : List Record → ConnId → ℕ → Option Record → List Finding
stand_by before conn place None = []
stand_by before conn place (Some r) = Stands (stand_of before conn place r) ∷ []

-- how the connection stands to the entry of a place, and what it is told there
abbrev pub stand_at : List Record → ConnId → ℕ → List Finding
stand_at records conn place = stand_by (records_before records place) conn place (record_at records place) ++ map (Heard conn) (events records place conn)

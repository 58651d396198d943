-- the lines that places tell their groups, kept as one text for each group
use Rattle.std.specs.Prelude.{ℕ, Bool, ◌≡◌, ◌+◌, ◌<◌, ◌≤◌, ◌-◌, false, true, List, [], ◌∷◌, ◌++◌, length, map, take, Option, Some, None, option_to_list, if◌then◌else◌}
use Rattle.std.specs.List.{concat, flat_map, range_with_len}
use Rattle.std.specs.Map.{lookup}
use Rattle.std.specs.Str.{bytes_eq}
use Rattle.cpg_entry.specs.declared.calls.Call.TheVariants.{Insert, Remove}
use Rattle.cpg_entry.specs.declared.calls.Op.{Op}
use Rattle.cpg_entry.specs.declared.calls.Op.TheVariants.{Act}
use Rattle.cpg_entry.specs.declared.entries.Entry.{Entry}
use Rattle.cpg_entry.specs.Entries.{is_move}
use Rattle.cpg_record.specs.declared.connections.ConnId.{ConnId}
use Rattle.cpg_record.specs.declared.memberships.Member.{Member}
use Rattle.cpg_record.specs.declared.records.Record.{Record}
use Rattle.cpg_record.specs.Events.{events}
use Rattle.cpg_record.specs.Judging.{judged}
use Rattle.cpg_record.specs.Membership.{is_allowed, is_named, members}
use Rattle.cpg_record.specs.Named.{Named, kept_or}
use Rattle.cpg_record.specs.Nexts.{acts_in, is_made_by}
use Rattle.cpg_record.specs.Places.{places_of, record_at}
use Rattle.cpg_group.specs.Telling.{told}
use Rattle.cpg_print.specs.Events.{event_line}
use Rattle.cpg_print.specs.Records.{members_text}

-- the lines of a place for a connection
abbrev pub lines_at : List Record → ConnId → ℕ → List (List ℕ)
lines_at records conn place = map event_line (events records place conn)

-- the lines of the places above one, up to another
abbrev pub lines_between : List Record → ConnId → ℕ → ℕ → List (List ℕ)
lines_between records conn after last = flat_map (lines_at records conn) (range_with_len (after + 1) (last - after))

-- the connection made no entry above the place, up to the other
abbrev pub MakesNone : List Record → ConnId → ℕ → ℕ → Type 0
MakesNone records conn after last =
    (place : ℕ) (r : Record) → after < place → place ≤ last → record_at records place ≡ Some r → is_made_by conn r ≡ false

-- the connection made the entry of the place
abbrev pub Makes : List Record → ConnId → ℕ → Type 0
Makes records conn place = (r : Record) × (record_at records place ≡ Some r) × (is_made_by conn r ≡ true)

-- a connection that is in the group `before` is told what its own allowed op tells the group g: of another
-- group's rules it is not
abbrev pub hears_own : Option (List ℕ) → List ℕ → Op → Bool
hears_own before g (Act (Insert name index rule)) = is_named before g
hears_own before g (Act (Remove name id)) = is_named before g
hears_own before g _ = true

-- the line that a place tells its group, where it tells it anything
abbrev pub told_lines : List Record → ℕ → List (List ℕ)
told_lines records place = map event_line (option_to_list (told records place))

-- the same as one text
abbrev pub told_text : List Record → ℕ → List ℕ
told_text records place = concat (told_lines records place)

-- the texts of the places of a group, up to the last one
abbrev pub texts_upto : List Record → List ℕ → ℕ → List (List ℕ)
texts_upto records g last = map (told_text records) (places_of (acts_in g) (take last records))

-- what is kept for a group: the text of its members, and what its places tell it as one text, with where each of
-- these ends
pub record TextValue : Type 0 where
  pub members : List ℕ
  pub text : List ℕ
  pub ends : List ℕ

-- no texts, and nobody
abbrev pub no_text : TextValue
no_text = record { members = members_text []; text = []; ends = [] }

-- where each of the texts ends, the first of which starts there
abbrev pub ends_from : ℕ → List (List ℕ) → List ℕ
ends_from start [] = []
ends_from start (text ∷ texts) = (start + length text) ∷ ends_from (start + length text) texts

-- these are the texts that it holds
abbrev pub HoldsTexts : TextValue → List (List ℕ) → Type 0
HoldsTexts value texts = (value.text ≡ concat texts) × (value.ends ≡ ends_from 0 texts)

-- with one text more at the end
abbrev pub with_text : List ℕ → TextValue → TextValue
with_text text value = record { members = value.members; text = value.text ++ text; ends = value.ends ++ length (value.text ++ text) ∷ [] }

-- with those members
abbrev pub showing : List Member → TextValue → TextValue
showing members value = record { members = members_text members; text = value.text; ends = value.ends }

-- what is kept for a group after its allowed record, which tells it that text
abbrev pub with_place : Record → List ℕ → TextValue → TextValue
with_place r text value = with_text text (if is_move r.entry.op then showing r.members value else value)

-- the record is an allowed one of the group of that name, at its place among those that the entries make
abbrev pub StandsAllowed : List Entry → ℕ → Record → List ℕ → Type 0
StandsAllowed entries place r name =
    (1 ≤ place) × (place ≤ length entries) × (record_at (judged entries) place ≡ Some r) × (r.group ≡ Some name) × (is_allowed r.verdict ≡ true)

-- names with texts
abbrev pub KeptTexts : Type 0
KeptTexts = Named TextValue

-- the texts that are kept for a name
abbrev pub kept_text : KeptTexts → List ℕ → TextValue
kept_text kept g = kept_or no_text kept g

-- no texts are kept for the name
abbrev pub LacksText : KeptTexts → List ℕ → Type 0
LacksText kept g = lookup (bytes_eq g) kept ≡ None

-- for each group the texts of its places up to the last one are kept
abbrev pub AreTexts : KeptTexts → List Record → ℕ → Type 0
AreTexts kept records last = (g : List ℕ) → HoldsTexts (kept_text kept g) (texts_upto records g last)

-- and the text of its members after that place
abbrev pub AreShown : KeptTexts → List Record → ℕ → Type 0
AreShown kept records last = (g : List ℕ) → (kept_text kept g).members ≡ members_text (members (take last records) g)

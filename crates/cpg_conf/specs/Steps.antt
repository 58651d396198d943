-- steps of the reading functions, which no contract of a public function cites
use Rattle.std.specs.Prelude.{◌≡◌, ◌≢◌, ◌<◌, ℕ, length, slice_index, ◌+◌, ◌-◌, ◌==◌, List, [], ◌∷◌, map, codes, ◌&&◌, if◌then◌else◌, Result, Ok, Err}
use Rattle.std.specs.Str.{bytes_eq}
use Rattle.smallvec.specs.SmallVec.{SmallVec}
use Rattle.cpg_cred.specs.Listed.{Listed}
use Rattle.cpg_cred.specs.declared.refusals.Refusal.{Refusal}
use Rattle.cpg_cred.specs.declared.refusals.Refusal.TheVariants.{BadLine, Unopened, Unclosed}
use Rattle.cpg_text.specs.Lines.{trimmed}
use Rattle.cpg_conf.specs.Lines.{Line, Ignored, Close, Open, Key, Bad, line_of}
use Rattle.cpg_conf.specs.Listed.{nothing, one_user, one_group, key_said, and_then}
use Rattle.cpg_conf.specs.Names.{Known, Naming, Nothing, User, Group, next_number}
use Rattle.cpg_conf.specs.declared.items.Item.{Item}
use Rattle.cpg_conf.specs.declared.items.Item.TheVariants as item
use Rattle.cpg_conf.specs.declared.lines.LineView.{LineView}
use Rattle.cpg_conf.specs.declared.lines.LineView.TheVariants as view
use Rattle.cpg_conf.specs.declared.namings.NamingView.{NamingView}
use Rattle.cpg_conf.specs.declared.namings.NamingView.TheVariants as naming
use Rattle.cpg_conf.specs.declared.nesting.Nesting.{Nesting}

-- the names of a table's entries, beside their numbers
abbrev pub pairs : List (SmallVec ℕ × ℕ) → List (List ℕ × ℕ)
pairs entries = map (λ entry. (entry.0.items, entry.1)) entries

-- what a view of a line of a names text says
abbrev pub naming_seen : NamingView → Naming
naming_seen naming.Nothing = Nothing
naming_seen (naming.User name number) = User name.now number
naming_seen (naming.Group name number) = Group name.now number

-- the line that a view of it shows
abbrev pub line_seen : LineView → Line
line_seen view.Ignored = Ignored
line_seen view.Close = Close
line_seen (view.Open name) = Open name.now
line_seen (view.Key key value) = Key key.now value.now
line_seen view.Bad = Bad

-- the lines of a text by their shapes
abbrev pub shapes : List (List ℕ) → List Line
shapes lines = map (λ line. line_of (trimmed line)) lines

-- what an item lists
abbrev pub item_seen : Item → Listed
item_seen item.Nothing = nothing
item_seen (item.User uid) = one_user uid
item_seen (item.Group gid) = one_group gid

-- how much deeper the line after stands, where it does
abbrev pub rise : Line → ℕ
rise (Open name) = 1
rise _ = 0

-- where the line after stands
abbrev pub nesting_after : Nesting → Line → Nesting
nesting_after nesting (Open name) = record {
  depth = nesting.depth + 1;
  in_uidgid = if nesting.depth == 0 then bytes_eq name (codes "uidgid") else nesting.in_uidgid;
}
nesting_after nesting Close = record { depth = nesting.depth - 1; in_uidgid = nesting.in_uidgid }
nesting_after nesting _ = nesting

-- what a line of that number lists where it stands, or its fault
abbrev pub said_at : Known → Nesting → ℕ → Line → Result Listed Refusal
said_at names nesting number Bad = Err (BadLine number)
said_at names nesting number Close = if nesting.depth == 0 then Err (Unopened number) else Ok nothing
said_at names nesting number (Key key value) = if (nesting.depth == 1) && nesting.in_uidgid then key_said names number key value else Ok nothing
said_at names nesting number _ = Ok nothing

-- what lines list, the first of which has that number and stands there, or their first fault
abbrev pub said_from : Known → Nesting → ℕ → List Line → Result Listed Refusal
said_from names nesting number [] = if nesting.depth == 0 then Ok nothing else Err Unclosed
said_from names nesting number (line ∷ later) = and_then (said_at names nesting number line) (said_from names (nesting_after nesting line) (next_number number) later)

-- a line is `uid: `, and goes on with a byte that is not trimmed
abbrev pub BeginsUser : List ℕ → Type 0
BeginsUser (a ∷ b ∷ c ∷ d ∷ e ∷ first ∷ rest) = (a ≡ 117) × (b ≡ 105) × (c ≡ 100) × (d ≡ 58) × (e ≡ 32) × (32 < first)
BeginsUser _ = ⊥

-- a line is `user `, and goes on somehow
abbrev pub BeginsNaming : List ℕ → Type 0
BeginsNaming (a ∷ b ∷ c ∷ d ∷ e ∷ rest) = (a ≡ 117) × (b ≡ 115) × (c ≡ 101) × (d ≡ 114) × (e ≡ 32)
BeginsNaming _ = ⊥

-- a line ends with a byte that is not trimmed, and that is no brace
abbrev pub EndsWhole : List ℕ → Type 0
EndsWhole line = (0 < length line) × (32 < slice_index line (length line - 1)) × (slice_index line (length line - 1) ≢ 123)

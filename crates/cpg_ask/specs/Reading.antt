-- Reading the front of a stream, as a function of its bytes.
use Rattle.std.specs.Prelude.{ℕ, ◌+◌, List, length, Option, Some, None, nat_lt, ◌==◌, if◌then◌else◌}
use Rattle.cpg_wire.specs.Reading.{◌>>=◌, text_at}
use Rattle.cpg_ask.specs.declared.heads.Head.{Head}
use Rattle.cpg_ask.specs.declared.asks.TheConstants.{MOST_ASK}
use Rattle.cpg_ask.specs.declared.codes.AskCode.{AskCode}
use Rattle.cpg_ask.specs.declared.codes.AskCode.TheVariants as codes
use Rattle.cpg_ask.specs.Numbers.{little_at}
use Rattle.cpg_ask.specs.Heads.{head_at}
use Rattle.cpg_ask.specs.Rules.{rule_at}
use Rattle.cpg_ask.specs.Codes.{ask_code_of}
use Rattle.cpg_ask.specs.Asks.{Want, Hello, Join, Leave, Send, Members, Groups, Insert, Remove, Reading, Whole, Part, Broken}

-- what is asked for, where nothing follows it
abbrev pub if_whole : Want → List ℕ → Option Want
if_whole want rest = if length rest == 0 then Some want else None

unfoldable pub hello_in : List ℕ → Option Want
hello_in bytes = little_at 4 bytes >>= λ version. little_at 4 version.1 >>= λ wishes. if_whole (Hello version.0 wishes.0) wishes.1

unfoldable pub groups_in : List ℕ → Option Want
groups_in bytes = little_at 4 bytes >>= λ members. if_whole (Groups members.0) members.1

unfoldable pub insert_in : List ℕ → Option Want
insert_in bytes = rule_at bytes >>= λ rule. Some (Insert rule.0 rule.1)

unfoldable pub remove_in : List ℕ → Option Want
remove_in bytes = little_at 4 bytes >>= λ id. Some (Remove id.0 id.1)

-- what all of the bytes ask for, by that code
unfoldable pub asked_in : AskCode → List ℕ → Option Want
asked_in codes.Hello bytes = hello_in bytes
asked_in codes.Join bytes = Some (Join bytes)
asked_in codes.Leave bytes = if_whole Leave bytes
asked_in codes.Send bytes = Some (Send bytes)
asked_in codes.Members bytes = Some (Members bytes)
asked_in codes.Groups bytes = groups_in bytes
asked_in codes.Insert bytes = insert_in bytes
asked_in codes.Remove bytes = remove_in bytes

-- what all of the bytes ask for, by the number of a code
unfoldable pub want_in : ℕ → List ℕ → Option Want
want_in kind bytes = ask_code_of kind >>= λ code. asked_in code bytes

-- a whole ask of that many bytes, if it is one
abbrev pub whole_of : ℕ → ℕ → Option Want → Reading
whole_of tag count None = Broken
whole_of tag count (Some want) = Whole (record { tag = tag; want = want }) count

-- the ask behind a head, where so many bytes follow it
abbrev pub told_in : Head → Option (List ℕ × List ℕ) → Reading
told_in head None = Part
told_in head (Some text) = whole_of head.tag (8 + head.count) (want_in head.kind text.0)

-- what follows a head
abbrev pub behind : Option (Head × List ℕ) → Reading
behind None = Part
behind (Some found) = if nat_lt MOST_ASK found.0.count then Broken else told_in found.0 (text_at found.0.count found.1)

-- what stands at the front of a stream
unfoldable pub read_of : List ℕ → Reading
read_of bytes = behind (head_at bytes)

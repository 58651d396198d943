-- What a client asks, and what a view over a stream's bytes stands for.
use Rattle.std.specs.Prelude.{ℕ, List}
use Rattle.cpg_ask.specs.declared.codes.AskCode.{AskCode}
use Rattle.cpg_ask.specs.declared.codes.AskCode.TheVariants as codes
use Rattle.cpg_ask.specs.declared.rules.RuleWords.{RuleWords}
use Rattle.cpg_ask.specs.declared.asks.WantView.{WantView}
use Rattle.cpg_ask.specs.declared.asks.WantView.TheVariants as views
use Rattle.cpg_ask.specs.declared.asks.AskView.{AskView}
use Rattle.cpg_ask.specs.declared.asks.Front.{Front}
use Rattle.cpg_ask.specs.declared.asks.Front.TheVariants as fronts

-- what is asked for: to be let in, by a protocol's version and bits of what the client would have; a group's seat; no seat; a message to
-- the group; a group's members; the groups, with members unless the number is 0; a rule of a group; and a rule's end. Names are plain,
-- any bytes.
pub data Want : Type 0 where
  Hello : ℕ → ℕ → Want
  Join : List ℕ → Want
  Leave : Want
  Send : List ℕ → Want
  Members : List ℕ → Want
  Groups : ℕ → Want
  Insert : RuleWords → List ℕ → Want
  Remove : ℕ → List ℕ → Want

-- an ask: what is asked for, and the tag that the answer repeats
pub record Ask : Type 0 where
  pub tag : ℕ
  pub want : Want

-- what stands at the front of a stream: a whole ask of that many bytes, part of one, or what no ask begins with
pub data Reading : Type 0 where
  Whole : Ask → ℕ → Reading
  Part : Reading
  Broken : Reading

-- the code of an ask
abbrev pub code_of : Want → AskCode
code_of (Hello version wishes) = codes.Hello
code_of (Join name) = codes.Join
code_of Leave = codes.Leave
code_of (Send message) = codes.Send
code_of (Members name) = codes.Members
code_of (Groups members) = codes.Groups
code_of (Insert rule name) = codes.Insert
code_of (Remove id name) = codes.Remove

-- what is seen to be asked for
abbrev pub want_seen : WantView → Want
want_seen (views.Hello version wishes) = Hello version wishes
want_seen (views.Join name) = Join name.now
want_seen views.Leave = Leave
want_seen (views.Send message) = Send message.now
want_seen (views.Members name) = Members name.now
want_seen (views.Groups members) = Groups members
want_seen (views.Insert rule name) = Insert rule name.now
want_seen (views.Remove id name) = Remove id name.now

-- the ask that is seen
abbrev pub ask_seen : AskView → Ask
ask_seen view = record { tag = view.tag; want = want_seen view.want }

-- what was read, as it is seen
abbrev pub reading_seen : Front → Reading
reading_seen (fronts.Whole ask count) = Whole (ask_seen ask) count
reading_seen fronts.Part = Part
reading_seen fronts.Broken = Broken

-- Reading the front of what a client is told, as a function of its bytes.
use Rattle.std.specs.Prelude.{ℕ, ◌+◌, ◌*◌, List, [], ◌∷◌, Option, Some, None, nat_lt, if◌then◌else◌}
use Rattle.cpg_wire.specs.Reading.{◌>>=◌, text_at}
use Rattle.cpg_wire.specs.Codes.{form_of}
use Rattle.cpg_ask.specs.declared.heads.Head.{Head}
use Rattle.cpg_ask.specs.declared.codes.AskCode.{AskCode}
use Rattle.cpg_ask.specs.declared.codes.AskCode.TheVariants as codes
use Rattle.cpg_ask.specs.declared.statuses.Status.{Status}
use Rattle.cpg_ask.specs.declared.statuses.Status.TheVariants as status
use Rattle.cpg_ask.specs.Statuses.{status_number}
use Rattle.cpg_ask.specs.Numbers.{little_at}
use Rattle.cpg_ask.specs.Heads.{head_at}
use Rattle.cpg_ask.specs.Tells.{gap}
use Rattle.cpg_ask.specs.declared.kinds.Kind.{Kind}
use Rattle.cpg_ask.specs.declared.kinds.Kind.TheVariants as kinds
use Rattle.cpg_ask.specs.declared.words.Words.{Words}
use Rattle.cpg_ask.specs.declared.tidings.Front.{Front}
use Rattle.cpg_ask.specs.declared.tidings.Front.TheVariants as fronts
use Rattle.cpg_ask.specs.declared.tidings.TheConstants.{MOST_TELL}
use Rattle.cpg_ask.specs.Kinds.{kind_of}
use Rattle.cpg_ask.specs.Words.{words_at}
use Rattle.cpg_ask.specs.Tidings.{Tiding, Answer, Greeting, Members, Groups, Denied, Message, Change, told_seen}

-- what stands at the front of a stream: a whole tell of that many bytes, part of one, or what no daemon tells
pub data Reading : Type 0 where
  Whole : Tiding → ℕ → Reading
  Part : Reading
  Broken : Reading

abbrev pub reading_seen : Front → Reading
reading_seen (fronts.Whole told count) = Whole (told_seen told) count
reading_seen fronts.Part = Part
reading_seen fronts.Broken = Broken

abbrev pub all_statuses : List Status
all_statuses = status.Fine ∷ status.Library ∷ status.Version ∷ status.TryAgain ∷ status.Param ∷ status.Memory ∷ status.Access ∷ status.NotExist ∷ status.LongName ∷ status.Exist ∷ status.Space ∷ status.TooBig ∷ []

-- the status of that number
unfoldable pub status_of : ℕ → Option Status
status_of number = form_of status_number all_statuses number

-- a status, and what follows it
unfoldable pub status_at : List ℕ → Option (Status × List ℕ)
status_at bytes = little_at 4 bytes >>= λ number. status_of number.0 >>= λ status. Some (status, number.1)

unfoldable pub answer_in : AskCode → ℕ → List ℕ → Option Tiding
answer_in code tag text = status_at text >>= λ status. Some (Answer code tag status.0)

unfoldable pub greeting_of : ℕ → Words → List ℕ → Option Tiding
greeting_of tag words rest = do
  status ← status_of words.first
  ring ← little_at 8 rest
  Some (Greeting tag status words.second words.third words.fourth ring.0)

unfoldable pub greeting_in : ℕ → List ℕ → Option Tiding
greeting_in tag text = words_at text >>= λ words. greeting_of tag words.0 words.1

-- a status and a number, and what follows them
unfoldable pub numbered_at : List ℕ → Option ((Status × ℕ) × List ℕ)
numbered_at bytes = status_at bytes >>= λ status. little_at 4 status.1 >>= λ number. Some ((status.0, number.0), number.1)

unfoldable pub members_in : ℕ → List ℕ → Option Tiding
members_in tag text = numbered_at text >>= λ n. Some (Members tag n.0.0 n.0.1 n.1)

unfoldable pub groups_in : ℕ → List ℕ → Option Tiding
groups_in tag text = numbered_at text >>= λ n. Some (Groups tag n.0.0 n.0.1 n.1)

unfoldable pub denied_in : List ℕ → Option Tiding
denied_in text = numbered_at text >>= λ n. little_at 4 n.1 >>= λ rule. Some (Denied n.0.0 n.0.1 rule.0)

-- a message, what fills it up, and the group's name
unfoldable pub message_of : Words → List ℕ → Option Tiding
message_of words rest = do
  message ← text_at words.third rest
  skipped ← text_at (gap words.third) message.1
  group ← text_at words.fourth skipped.1
  Some (Message words.first words.second group.0 message.0)

unfoldable pub message_in : List ℕ → Option Tiding
message_in text = words_at text >>= λ words. message_of words.0 words.1

-- processes of twelve bytes each, and the group's name
unfoldable pub change_of : Words → List ℕ → Option Tiding
change_of words rest = do
  processes ← text_at (12 * (words.second + words.third + words.fourth)) rest
  group ← text_at words.first processes.1
  Some (Change group.0 words.second words.third words.fourth processes.0)

unfoldable pub change_in : List ℕ → Option Tiding
change_in text = words_at text >>= λ words. change_of words.0 words.1

-- the answer to such an ask; a message has none
unfoldable pub answered_in : AskCode → ℕ → List ℕ → Option Tiding
answered_in codes.Hello tag text = greeting_in tag text
answered_in codes.Members tag text = members_in tag text
answered_in codes.Groups tag text = groups_in tag text
answered_in codes.Send tag text = None
answered_in code tag text = answer_in code tag text

-- what is told by that kind
unfoldable pub told_as : Kind → ℕ → List ℕ → Option Tiding
told_as (kinds.Answer code) tag text = answered_in code tag text
told_as kinds.Message tag text = message_in text
told_as kinds.Change tag text = change_in text
told_as kinds.Denied tag text = denied_in text

unfoldable pub tiding_in : ℕ → ℕ → List ℕ → Option Tiding
tiding_in number tag text = kind_of number >>= λ kind. told_as kind tag text

abbrev pub whole_of : ℕ → Option Tiding → Reading
whole_of count None = Broken
whole_of count (Some tiding) = Whole tiding count

abbrev pub told_in : Head → Option (List ℕ × List ℕ) → Reading
told_in head None = Part
told_in head (Some text) = whole_of (8 + head.count) (tiding_in head.kind head.tag text.0)

abbrev pub behind : Option (Head × List ℕ) → Reading
behind None = Part
behind (Some found) = if nat_lt MOST_TELL found.0.count then Broken else told_in found.0 (text_at found.0.count found.1)

-- what stands at the front of a stream
unfoldable pub read_of : List ℕ → Reading
read_of bytes = behind (head_at bytes)

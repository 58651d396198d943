-- Asks as bytes: a head with the ask's code, and what it says.
use Rattle.std.specs.Prelude.{ℕ, ◌≤◌, List, [], ◌++◌, length}
use Rattle.byteorder.specs.Endian.{little_bytes}
use Rattle.cpg_ask.specs.declared.heads.Head.{Head}
use Rattle.cpg_ask.specs.declared.asks.TheConstants.{MOST_ASK}
use Rattle.cpg_ask.specs.Numbers.{IsU16, IsU32}
use Rattle.cpg_ask.specs.Heads.{head_bytes}
use Rattle.cpg_ask.specs.Rules.{rule_bytes, RuleFits}
use Rattle.cpg_ask.specs.Codes.{ask_code}
use Rattle.cpg_ask.specs.Asks.{Want, Hello, Join, Leave, Send, Members, Groups, Insert, Remove, Ask, code_of}

-- what an ask says behind its head
abbrev pub content : Want → List ℕ
content (Hello version wishes) = little_bytes 4 version ++ little_bytes 4 wishes
content (Join name) = name
content Leave = []
content (Send message) = message
content (Members name) = name
content (Groups members) = little_bytes 4 members
content (Insert rule name) = rule_bytes rule ++ name
content (Remove id name) = little_bytes 4 id ++ name

abbrev pub head_of : Ask → Head
head_of ask = record { count = length (content ask.want); kind = ask_code (code_of ask.want); tag = ask.tag }

-- an ask on a stream
abbrev pub spelling : Ask → List ℕ
spelling ask = head_bytes (head_of ask) ++ content ask.want

-- the numbers of an ask fit their types
abbrev pub WantFits : Want → Type 0
WantFits (Hello version wishes) = IsU32 version × IsU32 wishes
WantFits (Groups members) = IsU32 members
WantFits (Insert rule name) = RuleFits rule
WantFits (Remove id name) = IsU32 id
WantFits _ = Unit {0}

-- what has a spelling
pub record IsAsk (ask : Ask) : Type 0 where
  pub short : length (content ask.want) ≤ MOST_ASK
  pub tag : IsU16 ask.tag
  pub fits : WantFits ask.want

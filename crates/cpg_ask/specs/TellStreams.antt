-- A stream of tells, cut.
use Rattle.std.specs.Prelude.{◌≡◌, ◌≤◌, ◌+◌, ⊤, ℕ, List, length}
use Rattle.cpg_ask.specs.declared.codes.AskCode.{AskCode}
use Rattle.cpg_ask.specs.declared.codes.AskCode.TheVariants as codes
use Rattle.cpg_ask.specs.Numbers.{IsU16, IsU32}
use Rattle.cpg_ask.specs.Tells.{Tell, Answer, Greets, Listed, Named, Denied, Message, Change, gap, tell_content, tell_tag, tell_bytes}
use Rattle.cpg_ask.specs.declared.tidings.TheConstants.{MOST_TELL}
use Rattle.cpg_ask.specs.Tidings.{Tiding}
use Rattle.cpg_ask.specs.TellReading.{read_of, Whole}
use Rattle.cpg_ask.specs.Streams.{IsCut}

-- the answer to such an ask is a status alone
abbrev pub IsPlain : AskCode → Type 0
IsPlain codes.Join = ⊤
IsPlain codes.Leave = ⊤
IsPlain codes.Insert = ⊤
IsPlain codes.Remove = ⊤
IsPlain _ = ⊥

-- the numbers of a tell fit their types
abbrev pub TellFits : Tell → Type 0
TellFits (Answer code tag status) = IsPlain code
TellFits (Greets tag status g) = IsU32 g.node × IsU32 g.nodes × (g.ring ≤ 18446744073709551615)
TellFits (Listed tag status members) = IsU32 (length members)
TellFits (Named tag status listings) = IsU32 (length listings)
TellFits (Denied status d) = IsU32 d.verdict × IsU32 d.rule
TellFits (Message node pid group message) = IsU32 node × IsU32 pid × IsU32 (length message) × IsU32 (length group)
TellFits (Change group members left joined) = IsU32 (length group) × IsU32 (length members) × IsU32 (length left) × IsU32 (length joined)

-- what a daemon may tell
pub record IsTell (tell : Tell) : Type 0 where
  pub short : length (tell_content tell) + gap (length (tell_content tell)) ≤ MOST_TELL
  pub tag : IsU16 (tell_tag tell)
  pub fits : TellFits tell

-- no whole tell stands in front
abbrev pub IsRest : List ℕ → Type 0
IsRest rest = (tiding : Tiding) (count : ℕ) → read_of rest ≡ Whole tiding count → ⊥

-- the stream is these tells, and then no whole one
abbrev pub Cuts : List ℕ → List Tell → List ℕ → Type 0
Cuts stream tells rest = IsCut Tell tell_bytes IsTell IsRest stream tells rest

-- what `Display` writes: a refusal is its number, a space and its name, then what it carries
use Rattle.std.specs.Prelude.{ℕ, List, [], ◌++◌, codes, decimal}
use Rattle.cpg_cred.specs.declared.bases.By.{By}
use Rattle.cpg_cred.specs.declared.bases.By.TheVariants as by
use Rattle.cpg_cred.specs.declared.refusals.Refusal.{Refusal}
use Rattle.cpg_cred.specs.declared.refusals.Refusal.TheVariants.{Memory, Access, NoConnection, BadName, TooLong, QueueFull, ConnectionsFull, Foreign, NotMine, Stale, Implausible, Held, FarAhead, Malformed, RingEnd, NoFrame, Differs, BoardFull, Behind, Stopped, Denied, BadLine, Unopened, Unclosed, BadItem, BadValue, UnknownName, Range, BadCommand, Read, Write}

abbrev pub by_text : By → List ℕ
by_text (by.Rule id) = codes "rule " ++ decimal id
by_text by.Default = codes "default"
by_text by.Root = codes "root"
by_text by.Free = codes "free"

-- the number of a refusal
abbrev pub number : Refusal → ℕ
number Memory = 1
number Access = 2
number NoConnection = 3
number BadName = 4
number TooLong = 5
number QueueFull = 6
number ConnectionsFull = 7
number Foreign = 8
number NotMine = 9
number Stale = 10
number Implausible = 11
number Held = 12
number FarAhead = 13
number Malformed = 14
number RingEnd = 15
number NoFrame = 16
number Differs = 17
number BoardFull = 18
number (Behind reached) = 19
number Stopped = 20
number (Denied by) = 21
number (BadLine line) = 31
number (Unopened line) = 32
number Unclosed = 33
number (BadItem line) = 34
number (BadValue line) = 35
number (UnknownName line) = 36
number Range = 37
number (BadCommand line) = 41
number Read = 42
number Write = 43

-- its name
abbrev pub name : Refusal → List ℕ
name Memory = codes "Memory"
name Access = codes "Access"
name NoConnection = codes "NoConnection"
name BadName = codes "BadName"
name TooLong = codes "TooLong"
name QueueFull = codes "QueueFull"
name ConnectionsFull = codes "ConnectionsFull"
name Foreign = codes "Foreign"
name NotMine = codes "NotMine"
name Stale = codes "Stale"
name Implausible = codes "Implausible"
name Held = codes "Held"
name FarAhead = codes "FarAhead"
name Malformed = codes "Malformed"
name RingEnd = codes "RingEnd"
name NoFrame = codes "NoFrame"
name Differs = codes "Differs"
name BoardFull = codes "BoardFull"
name (Behind reached) = codes "Behind"
name Stopped = codes "Stopped"
name (Denied by) = codes "Denied"
name (BadLine line) = codes "BadLine"
name (Unopened line) = codes "Unopened"
name Unclosed = codes "Unclosed"
name (BadItem line) = codes "BadItem"
name (BadValue line) = codes "BadValue"
name (UnknownName line) = codes "UnknownName"
name Range = codes "Range"
name (BadCommand line) = codes "BadCommand"
name Read = codes "Read"
name Write = codes "Write"

-- what it carries, after a space
abbrev pub carried_text : Refusal → List ℕ
carried_text (Behind reached) = codes " " ++ decimal reached
carried_text (Denied by) = codes " " ++ by_text by
carried_text (BadLine line) = codes " " ++ decimal line
carried_text (Unopened line) = codes " " ++ decimal line
carried_text (BadItem line) = codes " " ++ decimal line
carried_text (BadValue line) = codes " " ++ decimal line
carried_text (UnknownName line) = codes " " ++ decimal line
carried_text (BadCommand line) = codes " " ++ decimal line
carried_text _ = []

abbrev pub refusal_text : Refusal → List ℕ
refusal_text refusal = decimal (number refusal) ++ codes " " ++ name refusal ++ carried_text refusal

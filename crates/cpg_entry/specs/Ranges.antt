-- What a frame may carry, by this project's own rules. What the types of its fields give stands in Widths.
use Rattle.std.specs.Prelude.{ℕ, ◌<◌, ◌≤◌, List, [], ◌∷◌, length}
use Rattle.cpg_entry.specs.Names.{IsName}
use Rattle.cpg_entry.specs.declared.calls.Call.{Call}
use Rattle.cpg_entry.specs.declared.calls.Call.TheVariants.{Join, Leave, Send, Insert, Remove}
use Rattle.cpg_entry.specs.declared.calls.Op.{Op}
use Rattle.cpg_entry.specs.declared.calls.Op.TheVariants.{Act, Gone}
use Rattle.cpg_entry.specs.declared.entries.Entry.{Entry}
use Rattle.cpg_entry.specs.declared.frames.Packet.{Packet}
use Rattle.cpg_entry.specs.declared.frames.Token.{Token}
use Rattle.cpg_entry.specs.declared.frames.Frame.{Frame}
use Rattle.cpg_entry.specs.declared.frames.Frame.TheVariants as frames
use Rattle.cpg_entry.specs.declared.messages.TheConstants.{MOST_MESSAGE_BYTES}
use Rattle.cpg_entry.specs.declared.ranges.TheConstants.{MOST_HOPS, MOST_PLACES, MOST_REQUESTS}

-- a number from low to high
abbrev pub Within : ℕ → ℕ → ℕ → Type 0
Within low high number = (low ≤ number) × (number ≤ high)

-- what a member may ask: groups have names, and messages are not too long
abbrev pub IsCall : Call → Type 0
IsCall (Join name) = IsName name
IsCall Leave = Unit {0}
IsCall (Send message) = length message ≤ MOST_MESSAGE_BYTES
IsCall (Insert name position rule) = IsName name
IsCall (Remove name id) = IsName name

-- a call, or the end of a connection
abbrev pub IsOp : Op → Type 0
IsOp (Act call) = IsCall call
IsOp Gone = Unit {0}

-- what one connection may ask: connections are numbered from 1
pub record IsEntry (entry : Entry) : Type 0 where
  pub conn : 1 ≤ entry.conn
  pub op : IsOp entry.op

-- an entry at its place, which is counted from 1
pub record IsPacket (packet : Packet) : Type 0 where
  pub place : Within 1 MOST_PLACES packet.place
  pub entry : IsEntry packet.entry

-- each number is greater than the one before it, the first than low, and the last is at most high
abbrev pub Ascends : ℕ → ℕ → List ℕ → Type 0
Ascends low high [] = Unit {0}
Ascends low high (number ∷ numbers) = (low < number) × (number ≤ high) × Ascends number high numbers

-- Totem's token: aru is at most seq, and it asks for places up to seq, each once and in order
pub record IsToken (token : Token) : Type 0 where
  pub hop : token.hop ≤ MOST_HOPS
  pub seq : token.seq ≤ MOST_PLACES
  pub aru : token.aru ≤ token.seq
  pub count : length token.rtr ≤ MOST_REQUESTS
  pub rtr : Ascends 0 token.seq token.rtr

-- what a frame may carry
abbrev pub IsFrame : Frame → Type 0
IsFrame (frames.Packet packet) = IsPacket packet
IsFrame (frames.Token token) = IsToken token

-- What the types of a frame's fields give: numbers of one, two and four bytes, and the numbers of nodes.
-- Every frame that a program holds is so; a definition's value need not be.
use Rattle.std.specs.Prelude.{ℕ, ◌≤◌, IfSome}
use Rattle.cpg_cred.specs.declared.nodes.TheConstants.{MOST_NODES}
use Rattle.cpg_rules.specs.declared.rules.Who.{Who}
use Rattle.cpg_entry.specs.Ranges.{Within}
use Rattle.cpg_entry.specs.declared.calls.Call.{Call}
use Rattle.cpg_entry.specs.declared.calls.Call.TheVariants.{Join, Leave, Send, Insert, Remove}
use Rattle.cpg_entry.specs.declared.calls.Op.{Op}
use Rattle.cpg_entry.specs.declared.calls.Op.TheVariants.{Act, Gone}
use Rattle.cpg_entry.specs.declared.entries.Entry.{Entry}
use Rattle.cpg_entry.specs.declared.frames.Packet.{Packet}
use Rattle.cpg_entry.specs.declared.frames.Token.{Token}
use Rattle.cpg_entry.specs.declared.frames.Frame.{Frame}
use Rattle.cpg_entry.specs.declared.frames.Frame.TheVariants as frames
use Rattle.cpg_entry.specs.declared.ranges.TheConstants.{MOST_CONNECTIONS}

-- the greatest number of four bytes
abbrev pub most_u32 : ℕ
most_u32 = 4294967295

-- a number of four bytes
abbrev pub IsU32 : ℕ → Type 0
IsU32 number = Within 0 most_u32 number

-- the number of a node
abbrev pub IsNode : ℕ → Type 0
IsNode number = Within 1 MOST_NODES number

-- the conditions of a rule
pub record WhoFits (who : Who) : Type 0 where
  pub uid : IfSome who.uid IsU32
  pub gid : IfSome who.gid IsU32
  pub node : IfSome who.node IsNode

-- the position and the rule of an insert, the id of a remove
abbrev pub CallFits : Call → Type 0
CallFits (Join name) = Unit {0}
CallFits Leave = Unit {0}
CallFits (Send message) = Unit {0}
CallFits (Insert name position rule) = Within 0 255 position × WhoFits rule.who
CallFits (Remove name id) = IsU32 id

abbrev pub OpFits : Op → Type 0
OpFits (Act call) = CallFits call
OpFits Gone = Unit {0}

-- the numbers of who asks
pub record EntryFits (entry : Entry) : Type 0 where
  pub node : IsNode entry.node
  pub conn : entry.conn ≤ MOST_CONNECTIONS
  pub pid : IsU32 entry.pid
  pub uid : IsU32 entry.cred.uid
  pub gid : IsU32 entry.cred.gid
  pub op : OpFits entry.op

pub record PacketFits (packet : Packet) : Type 0 where
  pub ring : IsU32 packet.ring
  pub entry : EntryFits packet.entry

-- the ring's number, and the node that lowered aru; the other numbers of a token have rules
pub record TokenFits (token : Token) : Type 0 where
  pub ring : IsU32 token.ring
  pub aru_id : IfSome token.aru_id IsNode

abbrev pub FrameFits : Frame → Type 0
FrameFits (frames.Packet packet) = PacketFits packet
FrameFits (frames.Token token) = TokenFits token

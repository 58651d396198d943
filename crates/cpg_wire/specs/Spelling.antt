-- Frames as bytes, by this project's own grammar: all numbers are big-endian, the two versions differ in
-- their byte and in how a rule is spelled, and nothing follows the last part.
use Rattle.std.specs.Prelude.{◌≡◌, ℕ, List, [], ◌∷◌, ◌++◌, length, Option, Some, None}
use Rattle.std.specs.List.{flat_map}
use Rattle.byteorder.specs.Endian.{big_bytes}
use Rattle.cpg_cred.specs.declared.credentials.Cred.{Cred}
use Rattle.cpg_rules.specs.declared.rules.Who.{Who}
use Rattle.cpg_rules.specs.declared.rules.Rule.{Rule}
use Rattle.cpg_entry.specs.declared.calls.Call.{Call}
use Rattle.cpg_entry.specs.declared.calls.Call.TheVariants.{Join, Leave, Send, Insert, Remove}
use Rattle.cpg_entry.specs.declared.calls.Op.{Op}
use Rattle.cpg_entry.specs.declared.calls.Op.TheVariants.{Act, Gone}
use Rattle.cpg_entry.specs.declared.entries.Entry.{Entry}
use Rattle.cpg_entry.specs.declared.frames.Packet.{Packet}
use Rattle.cpg_entry.specs.declared.frames.Token.{Token}
use Rattle.cpg_entry.specs.declared.frames.Frame.{Frame}
use Rattle.cpg_entry.specs.declared.frames.Frame.TheVariants as frames
use Rattle.cpg_wire.specs.declared.codes.TheConstants.{MARK}
use Rattle.cpg_wire.specs.declared.codes.Version.{Version}
use Rattle.cpg_wire.specs.declared.codes.Version.TheVariants.{One, Two}
use Rattle.cpg_wire.specs.declared.codes.Kind.TheVariants as kinds
use Rattle.cpg_wire.specs.declared.codes.OpCode.TheVariants as ops
use Rattle.cpg_wire.specs.declared.codes.Subject.{Subject}
use Rattle.cpg_wire.specs.declared.codes.Subject.TheVariants as subjects
use Rattle.cpg_wire.specs.Codes.{version_code, kind_code, op_code, effect_code, right_code, subject_code}
use Rattle.cpg_entry.specs.Ranges.{IsFrame}
use Rattle.cpg_entry.specs.Widths.{FrameFits}
use Rattle.cpg_wire.specs.Versions.{conditions, Fits}

-- a group's name (cpg_name of cpg_initialize(3)): its length in one byte, then its bytes
abbrev pub name_bytes : List ℕ → List ℕ
name_bytes name = length name ∷ name

-- a message (cpg_mcast_joined(3)): its length in two bytes, then its bytes
abbrev pub message_bytes : List ℕ → List ℕ
message_bytes message = big_bytes 2 (length message) ++ message

-- a condition of version 2, where it is there: what it speaks of, then the value
abbrev pub condition_bytes : Subject → Option ℕ → List ℕ
condition_bytes subject None = []
condition_bytes subject (Some value) = subject_code subject ∷ big_bytes 4 value

-- the one condition of version 1, the first that is there; 'any' with the value 0 where none is
abbrev pub single_bytes : Option ℕ → Option ℕ → Option ℕ → List ℕ
single_bytes None None None = subject_code subjects.Any ∷ big_bytes 4 0
single_bytes (Some uid) _ _ = subject_code subjects.Uid ∷ big_bytes 4 uid
single_bytes None (Some gid) _ = subject_code subjects.Gid ∷ big_bytes 4 gid
single_bytes None None (Some node) = subject_code subjects.Node ∷ big_bytes 4 node

-- whom a rule speaks of: the one condition, or how many there are and then each, in the order uid, gid, node
abbrev pub who_bytes : Version → Who → List ℕ
who_bytes One who = single_bytes who.uid who.gid who.node
who_bytes Two who = conditions who ∷ (condition_bytes subjects.Uid who.uid ++ (condition_bytes subjects.Gid who.gid ++ condition_bytes subjects.Node who.node))

-- an access rule
abbrev pub rule_bytes : Version → Rule → List ℕ
rule_bytes version rule = effect_code rule.effect ∷ right_code rule.right ∷ who_bytes version rule.who

-- what a member asks (cpg_join(3), cpg_leave(3), cpg_mcast_joined(3), and our own edits of a table)
abbrev pub call_bytes : Version → Call → List ℕ
call_bytes version (Join name) = op_code ops.Join ∷ name_bytes name
call_bytes version Leave = op_code ops.Leave ∷ []
call_bytes version (Send message) = op_code ops.Send ∷ message_bytes message
call_bytes version (Insert name position rule) = op_code ops.Insert ∷ (name_bytes name ++ (position ∷ rule_bytes version rule))
call_bytes version (Remove name id) = op_code ops.Remove ∷ (name_bytes name ++ big_bytes 4 id)

-- a call, or the end of a connection
abbrev pub op_bytes : Version → Op → List ℕ
op_bytes version (Act call) = call_bytes version call
op_bytes version Gone = op_code ops.Gone ∷ []

-- the sender: node and process as in cpg_address of cpg_initialize(3), with our own number of the connection
abbrev pub sender_bytes : Entry → List ℕ
sender_bytes entry = entry.node ∷ (big_bytes 2 entry.conn ++ big_bytes 4 entry.pid)

-- the user and the group of the sender
abbrev pub cred_bytes : Cred → List ℕ
cred_bytes cred = big_bytes 4 cred.uid ++ big_bytes 4 cred.gid

-- an entry at its place, the sequence number of Totem's message
abbrev pub packet_bytes : Version → Packet → List ℕ
packet_bytes version packet = big_bytes 4 packet.place ++ (sender_bytes packet.entry ++ (cred_bytes packet.entry.cred ++ op_bytes version packet.entry.op))

-- the node that lowered aru (Totem's aru_id), 0 for none
abbrev pub owner_code : Option ℕ → ℕ
owner_code None = 0
owner_code (Some node) = node

-- Totem's seq and aru
abbrev pub extent_bytes : Token → List ℕ
extent_bytes token = big_bytes 4 token.seq ++ big_bytes 4 token.aru

-- the places that are asked for (Totem's rtr): how many, then each
abbrev pub places_bytes : List ℕ → List ℕ
places_bytes places = length places ∷ flat_map (big_bytes 4) places

-- Totem's aru_id and rtr
abbrev pub wants_bytes : Token → List ℕ
wants_bytes token = owner_code token.aru_id ∷ places_bytes token.rtr

-- Totem's token: its hop (token_seq), how far the places reach, and what is wanted
abbrev pub token_bytes : Token → List ℕ
token_bytes token = big_bytes 8 token.hop ++ (extent_bytes token ++ wants_bytes token)

-- a frame: the MARK, the version, what it carries, the ring's number (Totem's ring identifier), and that
abbrev pub spelling : Version → Frame → List ℕ
spelling version (frames.Packet packet) = MARK ∷ version_code version ∷ kind_code kinds.Data ∷ (big_bytes 4 packet.ring ++ packet_bytes version packet)
spelling version (frames.Token token) = MARK ∷ version_code version ∷ kind_code kinds.Token ∷ (big_bytes 4 token.ring ++ token_bytes token)

-- the bytes are the frame in that version: it keeps the rules, its numbers fit their types, and the
-- version has room for it
abbrev pub SpellsIn : Version → List ℕ → Frame → Type 0
SpellsIn version bytes frame = IsFrame frame × FrameFits frame × Fits version frame × (bytes ≡ spelling version frame)

-- the bytes are the frame, in one version or the other
abbrev pub Spells : List ℕ → Frame → Type 0
Spells bytes frame = (version : Version) × SpellsIn version bytes frame

-- the frame has one spelling of that version, and no other
abbrev pub HasOneSpelling : Version → Frame → Type 0
HasOneSpelling version frame = (bytes : List ℕ) × SpellsIn version bytes frame × ((other : List ℕ) → SpellsIn version other frame → other ≡ bytes)

-- Reading a frame from left to right, as a function of its bytes: each part gives its value and the bytes
-- after it, or none where the bytes are not of its form.
use Rattle.std.specs.Prelude.{◌≡◌, ℕ, zero, suc, ◌+◌, Bool, true, false, List, [], ◌∷◌, length, take, drop, Option, Some, None, nat_lt, ◌==◌, if◌then◌else◌}
use Rattle.std.specs.List.{list_all}
use Rattle.std.specs.Int.{is_in_range}
use Rattle.byteorder.specs.Endian.{big_number}
use Rattle.cpg_cred.specs.declared.credentials.Cred.{Cred}
use Rattle.cpg_cred.specs.declared.nodes.TheConstants.{MOST_NODES}
use Rattle.cpg_rules.specs.declared.rules.Who.{Who}
use Rattle.cpg_rules.specs.declared.rules.Rule.{Rule}
use Rattle.cpg_entry.specs.declared.calls.Call.TheVariants as calls
use Rattle.cpg_entry.specs.declared.calls.Op.{Op}
use Rattle.cpg_entry.specs.declared.calls.Op.TheVariants as ops
use Rattle.cpg_entry.specs.declared.frames.Packet.{Packet}
use Rattle.cpg_entry.specs.declared.frames.Token.{Token}
use Rattle.cpg_entry.specs.declared.frames.Frame.{Frame}
use Rattle.cpg_entry.specs.declared.frames.Frame.TheVariants as frames
use Rattle.cpg_entry.specs.declared.names.TheConstants.{MOST_NAME_BYTES}
use Rattle.cpg_entry.specs.declared.messages.TheConstants.{MOST_MESSAGE_BYTES}
use Rattle.cpg_entry.specs.declared.ranges.TheConstants.{MOST_CONNECTIONS, MOST_HOPS, MOST_PLACES, MOST_REQUESTS}
use Rattle.cpg_wire.specs.declared.codes.TheConstants.{MARK}
use Rattle.cpg_wire.specs.declared.codes.Version.{Version}
use Rattle.cpg_wire.specs.declared.codes.Version.TheVariants.{One, Two}
use Rattle.cpg_wire.specs.declared.codes.Kind.{Kind}
use Rattle.cpg_wire.specs.declared.codes.Kind.TheVariants as kinds
use Rattle.cpg_wire.specs.declared.codes.OpCode.{OpCode}
use Rattle.cpg_wire.specs.declared.codes.OpCode.TheVariants as codes
use Rattle.cpg_wire.specs.declared.codes.Subject.{Subject}
use Rattle.cpg_wire.specs.declared.codes.Subject.TheVariants as subjects
use Rattle.cpg_wire.specs.Codes.{version_of, kind_of, op_code_of, effect_of, right_of, subject_of, subject_code}
use Rattle.cpg_entry.specs.Widths.{most_u32}

-- the next step, where the one before it gave something
infixl 10 ◌>>=◌
abbrev pub ◌>>=◌ : {A B : Type 0} → Option A → (A → Option B) → Option B
(Some value) >>= step = step value
None >>= step = None

-- what a reader answered, and what it left to be read, are what the definition says
abbrev pub Reads : {X : Type 0} → Option X → List ℕ → Option (X × List ℕ) → Type 0
Reads (Some value) left defined = defined ≡ Some (value, left)
Reads None left defined = defined ≡ None

-- the number, if it is from low to high
abbrev pub within : ℕ → ℕ → ℕ → List ℕ → Option (ℕ × List ℕ)
within low high number rest = if is_in_range low high number then Some (number, rest) else None

-- a number of that many bytes, the highest first, from low to high
abbrev pub number_at : ℕ → ℕ → ℕ → List ℕ → Option (ℕ × List ℕ)
number_at count low high bytes = if nat_lt (length bytes) count then None else within low high (big_number count bytes) (drop count bytes)

-- a number of four bytes
abbrev pub u32_at : List ℕ → Option (ℕ × List ℕ)
u32_at bytes = number_at 4 0 most_u32 bytes

-- a number of one byte, from low to high
abbrev pub u8_at : ℕ → ℕ → List ℕ → Option (ℕ × List ℕ)
u8_at low high [] = None
u8_at low high (byte ∷ rest) = within low high byte rest

-- a byte
abbrev pub byte_at : List ℕ → Option (ℕ × List ℕ)
byte_at [] = None
byte_at (byte ∷ rest) = Some (byte, rest)

-- a byte that stands for a form
abbrev pub form_at : {Form : Type 0} → (ℕ → Option Form) → List ℕ → Option (Form × List ℕ)
form_at form_of bytes = do
  byte ← byte_at bytes
  form ← form_of byte.0
  Some (form, byte.1)

-- whether that byte comes next, and what follows it where it does
abbrev pub passed_at : ℕ → List ℕ → Option (Bool × List ℕ)
passed_at wanted [] = None
passed_at wanted (byte ∷ rest) = if byte == wanted then Some (true, rest) else Some (false, byte ∷ rest)

-- that many bytes
unfoldable pub text_at : ℕ → List ℕ → Option (List ℕ × List ℕ)
text_at count bytes = if nat_lt (length bytes) count then None else Some (take count bytes, drop count bytes)

-- each byte is a printing ASCII character
abbrev pub is_printing : List ℕ → Bool
is_printing bytes = list_all (is_in_range 0x21 0x7e) bytes

-- that many bytes, each a printing ASCII character
unfoldable pub printing_at : ℕ → List ℕ → Option (List ℕ × List ℕ)
printing_at count bytes = do
  text ← text_at count bytes
  if is_printing text.0 then Some text else None

-- a group's name
unfoldable pub name_at : List ℕ → Option (List ℕ × List ℕ)
name_at bytes = do
  count ← u8_at 1 MOST_NAME_BYTES bytes
  printing_at count.0 count.1

-- a message
unfoldable pub message_at : List ℕ → Option (List ℕ × List ℕ)
message_at bytes = do
  count ← number_at 2 0 MOST_MESSAGE_BYTES bytes
  text_at count.0 count.1

-- a condition on that subject where it comes next and one is left, and how many are left then
unfoldable pub condition_at : Subject → ℕ → ℕ → ℕ → List ℕ → Option ((Option ℕ × ℕ) × List ℕ)
condition_at subject low high zero bytes = Some ((None, 0), bytes)
condition_at subject low high (suc left) bytes = do
  passed ← passed_at (subject_code subject) bytes
  if passed.0 then (number_at 4 low high passed.1 >>= λ value. Some ((Some value.0, left), value.1)) else Some ((None, suc left), passed.1)

-- whom a rule of version 2 speaks of
unfoldable pub conditions_at : List ℕ → Option (Who × List ℕ)
conditions_at bytes = do
  count ← u8_at 0 3 bytes
  uid ← condition_at subjects.Uid 0 most_u32 count.0 count.1
  gid ← condition_at subjects.Gid 0 most_u32 uid.0.1 uid.1
  node ← condition_at subjects.Node 1 MOST_NODES gid.0.1 gid.1
  if node.0.1 == 0 then Some (record { uid = uid.0.0; gid = gid.0.0; node = node.0.0 }, node.1) else None

-- the value of the one condition of version 1
unfoldable pub value_at : Subject → List ℕ → Option (Who × List ℕ)
value_at subjects.Any bytes = do
  nothing ← number_at 4 0 0 bytes
  Some (record { uid = None; gid = None; node = None }, nothing.1)
value_at subjects.Uid bytes = do
  uid ← u32_at bytes
  Some (record { uid = Some uid.0; gid = None; node = None }, uid.1)
value_at subjects.Gid bytes = do
  gid ← u32_at bytes
  Some (record { uid = None; gid = Some gid.0; node = None }, gid.1)
value_at subjects.Node bytes = do
  node ← number_at 4 1 MOST_NODES bytes
  Some (record { uid = None; gid = None; node = Some node.0 }, node.1)

-- whom a rule of version 1 speaks of
unfoldable pub single_at : List ℕ → Option (Who × List ℕ)
single_at bytes = do
  subject ← form_at subject_of bytes
  value_at subject.0 subject.1

-- whom a rule speaks of
abbrev pub who_at : Version → List ℕ → Option (Who × List ℕ)
who_at One bytes = single_at bytes
who_at Two bytes = conditions_at bytes

-- an access rule
unfoldable pub rule_at : Version → List ℕ → Option (Rule × List ℕ)
rule_at version bytes = do
  effect ← form_at effect_of bytes
  right ← form_at right_of effect.1
  who ← who_at version right.1
  Some (record { effect = effect.0; right = right.0; who = who.0 }, who.1)

-- an edit that puts a rule into a table
unfoldable pub insert_at : Version → List ℕ → Option (Op × List ℕ)
insert_at version bytes = do
  name ← name_at bytes
  position ← u8_at 0 255 name.1
  rule ← rule_at version position.1
  Some (ops.Act (calls.Insert name.0 position.0 rule.0), rule.1)

-- an edit that takes a rule out
unfoldable pub remove_at : List ℕ → Option (Op × List ℕ)
remove_at bytes = do
  name ← name_at bytes
  id ← u32_at name.1
  Some (ops.Act (calls.Remove name.0 id.0), id.1)

-- an op, after its code
unfoldable pub body_at : Version → OpCode → List ℕ → Option (Op × List ℕ)
body_at version codes.Join bytes = name_at bytes >>= λ name. Some (ops.Act (calls.Join name.0), name.1)
body_at version codes.Leave bytes = Some (ops.Act calls.Leave, bytes)
body_at version codes.Send bytes = message_at bytes >>= λ message. Some (ops.Act (calls.Send message.0), message.1)
body_at version codes.Insert bytes = insert_at version bytes
body_at version codes.Remove bytes = remove_at bytes
body_at version codes.Gone bytes = Some (ops.Gone, bytes)

-- an op
unfoldable pub op_at : Version → List ℕ → Option (Op × List ℕ)
op_at version bytes = do
  code ← form_at op_code_of bytes
  body_at version code.0 code.1

-- the node, the connection and the process of a sender
unfoldable pub sender_at : List ℕ → Option ((ℕ × ℕ × ℕ) × List ℕ)
sender_at bytes = do
  node ← u8_at 1 MOST_NODES bytes
  conn ← number_at 2 1 MOST_CONNECTIONS node.1
  pid ← u32_at conn.1
  Some ((node.0, conn.0, pid.0), pid.1)

-- the user and the group of a sender
unfoldable pub cred_at : List ℕ → Option (Cred × List ℕ)
cred_at bytes = do
  uid ← u32_at bytes
  gid ← u32_at uid.1
  Some (record { uid = uid.0; gid = gid.0 }, gid.1)

-- a packet of the ring of that number
unfoldable pub packet_at : Version → ℕ → List ℕ → Option (Packet × List ℕ)
packet_at version ring bytes = do
  place ← number_at 4 1 MOST_PLACES bytes
  sender ← sender_at place.1
  cred ← cred_at sender.1
  op ← op_at version cred.1
  Some (record { ring = ring; place = place.0; entry = record { node = sender.0.0; conn = sender.0.1; pid = sender.0.2; cred = cred.0; op = op.0 } }, op.1)

-- a token's seq and aru
unfoldable pub extent_at : List ℕ → Option ((ℕ × ℕ) × List ℕ)
extent_at bytes = do
  seq ← number_at 4 0 MOST_PLACES bytes
  aru ← number_at 4 0 seq.0 seq.1
  Some ((seq.0, aru.0), aru.1)

-- the node of that number, none for 0
abbrev pub owner_of : ℕ → Option ℕ
owner_of zero = None
owner_of (suc number) = Some (suc number)

-- a token's aru_id
unfoldable pub owner_at : List ℕ → Option (Option ℕ × List ℕ)
owner_at bytes = do
  number ← u8_at 0 MOST_NODES bytes
  Some (owner_of number.0, number.1)

-- that many places, each above the one before it and at most high
unfoldable pub places_at : ℕ → ℕ → ℕ → List ℕ → Option (List ℕ × List ℕ)
places_at zero low high bytes = Some ([], bytes)
places_at (suc count) low high bytes = do
  place ← number_at 4 (low + 1) high bytes
  others ← places_at count place.0 high place.1
  Some (place.0 ∷ others.0, others.1)

-- a token's rtr
unfoldable pub rtr_at : ℕ → List ℕ → Option (List ℕ × List ℕ)
rtr_at seq bytes = do
  count ← u8_at 0 MOST_REQUESTS bytes
  places_at count.0 0 seq count.1

-- a token of the ring of that number
unfoldable pub token_at : ℕ → List ℕ → Option (Token × List ℕ)
token_at ring bytes = do
  hop ← number_at 8 0 MOST_HOPS bytes
  extent ← extent_at hop.1
  owner ← owner_at extent.1
  rtr ← rtr_at extent.0.0 owner.1
  Some (record { ring = ring; hop = hop.0; seq = extent.0.0; aru = extent.0.1; aru_id = owner.0; rtr = rtr.0 }, rtr.1)

-- the version, what is carried, and the ring's number
unfoldable pub head_at : List ℕ → Option ((Version × Kind × ℕ) × List ℕ)
head_at bytes = do
  first ← u8_at MARK MARK bytes
  version ← form_at version_of first.1
  kind ← form_at kind_of version.1
  ring ← u32_at kind.1
  Some ((version.0, kind.0, ring.0), ring.1)

-- what is carried, after the head
unfoldable pub carried_at : Version → Kind → ℕ → List ℕ → Option (Frame × List ℕ)
carried_at version kinds.Data ring bytes = packet_at version ring bytes >>= λ packet. Some (frames.Packet packet.0, packet.1)
carried_at version kinds.Token ring bytes = token_at ring bytes >>= λ token. Some (frames.Token token.0, token.1)

-- a frame, with the version that it is spelled in
unfoldable pub frame_at : List ℕ → Option ((Version × Frame) × List ℕ)
frame_at bytes = do
  head ← head_at bytes
  frame ← carried_at head.0.0 head.0.1 head.0.2 head.1
  Some ((head.0.0, frame.0), frame.1)

-- the frame that all of the bytes spell
unfoldable pub frame_of : List ℕ → Option Frame
frame_of bytes = do
  read ← frame_at bytes
  if length read.1 == 0 then Some read.0.1 else None

-- What a view over a frame's bytes stands for.
use Rattle.std.specs.Prelude.{ℕ, List, ◌≡◌, ◌≤◌, ◌-◌, ⊤, length, drop}
use Rattle.cpg_entry.specs.declared.calls.Call.TheVariants as calls
use Rattle.cpg_entry.specs.declared.calls.Op.{Op}
use Rattle.cpg_entry.specs.declared.calls.Op.TheVariants as ops
use Rattle.cpg_entry.specs.declared.frames.Packet.{Packet}
use Rattle.cpg_entry.specs.declared.frames.Token.{Token}
use Rattle.cpg_entry.specs.declared.frames.Frame.{Frame}
use Rattle.cpg_entry.specs.declared.frames.Frame.TheVariants as frames
use Rattle.cpg_wire.specs.declared.ops.OpView.{OpView}
use Rattle.cpg_wire.specs.declared.ops.OpView.TheVariants as views
use Rattle.cpg_wire.specs.declared.packets.PacketView.{PacketView}
use Rattle.cpg_wire.specs.declared.tokens.TokenView.{TokenView}
use Rattle.cpg_wire.specs.declared.frames.FrameView.{FrameView}
use Rattle.cpg_wire.specs.declared.frames.FrameView.TheVariants as frame_views

-- the op that is seen
abbrev pub op_seen : OpView → Op
op_seen (views.Join name) = ops.Act (calls.Join name.now)
op_seen views.Leave = ops.Act calls.Leave
op_seen (views.Send message) = ops.Act (calls.Send message.now)
op_seen (views.Insert name position rule) = ops.Act (calls.Insert name.now position rule)
op_seen (views.Remove name id) = ops.Act (calls.Remove name.now id)
op_seen views.Gone = ops.Gone

-- the packet that is seen
abbrev pub packet_seen : PacketView → Packet
packet_seen view = record { ring = view.ring; place = view.place; entry = record { node = view.node; conn = view.conn; pid = view.pid; cred = view.cred; op = op_seen view.op } }

-- the token that is seen
abbrev pub token_seen : TokenView → Token
token_seen view = record { ring = view.ring; hop = view.hop; seq = view.seq; aru = view.aru; aru_id = view.aru_id; rtr = view.rtr.items }

-- the frame that is seen
abbrev pub frame_seen : FrameView → Frame
frame_seen (frame_views.Packet view) = frames.Packet (packet_seen view)
frame_seen (frame_views.Token view) = frames.Token (token_seen view)

-- The bytes end with the message that the op sends, if it sends one.
abbrev pub EndsWith : Op → List ℕ → Type 0
EndsWith (ops.Act (calls.Send message)) bytes = (length message ≤ length bytes) × (drop (length bytes - length message) bytes ≡ message)
EndsWith _ _ = ⊤

-- the same of a frame
abbrev pub BringsLast : Frame → List ℕ → Type 0
BringsLast (frames.Packet packet) bytes = EndsWith packet.entry.op bytes
BringsLast (frames.Token token) bytes = ⊤

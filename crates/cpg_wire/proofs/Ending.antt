-- A message ends its frame.
use Rattle.std.proofs.Common.{◌≡◌, ◌≤◌, ◌-◌, ℕ, List, ◌∷◌, ◌++◌, length, Option, Some, None, refl, sym, ap, subst, ◌∙◌, arith}
use Rattle.std.specs.Prelude.{drop, IfSome}
use Rattle.std.specs.Option.{option_map}
use Rattle.byteorder.specs.Endian.{big_bytes}
use Rattle.std.proofs.lemmas.List.{append_assoc, length-append, drop_at}
use Rattle.cpg_entry.specs.declared.calls.Call.TheVariants as calls
use Rattle.cpg_entry.specs.declared.calls.Op.{Op}
use Rattle.cpg_entry.specs.declared.calls.Op.TheVariants as ops
use Rattle.cpg_entry.specs.declared.frames.Packet.{Packet}
use Rattle.cpg_entry.specs.declared.frames.Frame.{Frame}
use Rattle.cpg_entry.specs.declared.frames.Frame.TheVariants as frames
use Rattle.cpg_wire.specs.declared.codes.TheConstants.{MARK}
use Rattle.cpg_wire.specs.declared.codes.Version.{Version}
use Rattle.cpg_wire.specs.declared.codes.Kind.TheVariants as kinds
use Rattle.cpg_wire.specs.declared.codes.OpCode.TheVariants as codes
use Rattle.cpg_wire.specs.Codes.{version_code, kind_code, op_code}
use Rattle.cpg_wire.specs.Spelling.{sender_bytes, cred_bytes, op_bytes, packet_bytes, spelling}
use Rattle.cpg_wire.specs.Reading.{frame_of}
use Rattle.cpg_wire.specs.declared.frames.FrameView.{FrameView}
use Rattle.cpg_wire.specs.Views.{frame_seen, EndsWith, BringsLast}
use Rattle.cpg_wire.proofs.Readers.{IsBytes}
use Rattle.cpg_wire.proofs.ReadsFrames.{read_is_spelled}

-- the bytes are some and then the message
abbrev Ends : List ℕ → List ℕ → Type 0
Ends message bytes = (front : List ℕ) × (bytes ≡ front ++ message)

ends_after : (message front bytes : List ℕ) → Ends message bytes → Ends message (front ++ bytes)
ends_after message front bytes h = (front ++ h.0, ap (λ (r : List ℕ). front ++ r) h.1 ∙ sym (append_assoc front h.0 message))

ends_next : (message : List ℕ) (byte : ℕ) (bytes : List ℕ) → Ends message bytes → Ends message (byte ∷ bytes)
ends_next message byte bytes h = (byte ∷ h.0, ap (λ (r : List ℕ). byte ∷ r) h.1)

-- the frame of a message: its parts up to the op, and the op's
spelled_ends : (v : Version) (p : Packet) (message : List ℕ) → p.entry.op ≡ ops.Act (calls.Send message) → Ends message (spelling v (frames.Packet p))
spelled_ends v p message e =
    let op : Ends message (op_bytes v (ops.Act (calls.Send message))) = (op_code codes.Send ∷ big_bytes 2 (length message), refl) in
    let its : Ends message (op_bytes v p.entry.op) = subst (λ (o : Op). Ends message (op_bytes v o)) (sym e) op in
    let cred = ends_after message (cred_bytes p.entry.cred) (op_bytes v p.entry.op) its in
    let sender = ends_after message (sender_bytes p.entry) (cred_bytes p.entry.cred ++ op_bytes v p.entry.op) cred in
    let place = ends_after message (big_bytes 4 p.place) (sender_bytes p.entry ++ (cred_bytes p.entry.cred ++ op_bytes v p.entry.op)) sender in
    let ring = ends_after message (big_bytes 4 p.ring) (packet_bytes v p) place in
    ends_next message MARK (version_code v ∷ kind_code kinds.Data ∷ (big_bytes 4 p.ring ++ packet_bytes v p))
    (ends_next message (version_code v) (kind_code kinds.Data ∷ (big_bytes 4 p.ring ++ packet_bytes v p))
    (ends_next message (kind_code kinds.Data) (big_bytes 4 p.ring ++ packet_bytes v p) ring))

last_bytes : (message bytes : List ℕ) → Ends message bytes → (length message ≤ length bytes) × (drop (length bytes - length message) bytes ≡ message)
last_bytes message bytes h =
    let long : length bytes ≡ length (h.0 ++ message) = ap (λ (r : List ℕ). length r) h.1 in
    let both = length-append h.0 message in
    let at : length h.0 ≡ length bytes - length message = omega (arith, long, both) in
    (omega (arith, long, both), ap (λ (r : List ℕ). drop (length bytes - length message) r) h.1 ∙ drop_at h.0 message (length bytes - length message) at)

of_op : (v : Version) (p : Packet) (o : Op) (bytes : List ℕ) → p.entry.op ≡ o → bytes ≡ spelling v (frames.Packet p) → EndsWith o bytes
of_op v p (ops.Act (calls.Send message)) bytes e is =
    last_bytes message bytes (subst (λ (b : List ℕ). Ends message b) (sym is) (spelled_ends v p message e))
of_op v p _ bytes e is = tt

brings_last : (bytes : List ℕ) (frame : Frame) → IsBytes bytes → frame_of bytes ≡ Some frame → BringsLast frame bytes
brings_last bytes (frames.Packet p) fits e =
    let spelled = read_is_spelled bytes (frames.Packet p) fits e in
    of_op spelled.0 p p.entry.op bytes refl spelled.1.3
brings_last bytes (frames.Token t) fits e = tt

-- what a view shows of bytes ends them, where it is a message
pub seen_last : (bytes : List ℕ) (view : Option FrameView) → IsBytes bytes → frame_of bytes ≡ option_map frame_seen view → IfSome view (λ v. BringsLast (frame_seen v) bytes)
seen_last bytes (Some v) fits h = brings_last bytes (frame_seen v) fits h
seen_last bytes None fits h = tt

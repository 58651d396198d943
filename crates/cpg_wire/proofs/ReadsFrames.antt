-- Packets, whole frames, and the two directions between bytes and frames.
use Rattle.std.proofs.Common.{◌≡◌, ℕ, cond, eqb, List, [], ◌∷◌, ◌++◌, length, Option, Some, None, refl, sym, ap, subst, ◌∙◌, arith}
use Rattle.byteorder.specs.Endian.{big_bytes}
use Rattle.std.proofs.lemmas.Bool.{eqb-true}
use Rattle.std.proofs.lemmas.List.{append-nil, nil_from_length}
use Rattle.std.proofs.lemmas.Option.{cond_some}
use Rattle.cpg_cred.specs.declared.credentials.Cred.{Cred}
use Rattle.cpg_entry.specs.declared.calls.Op.{Op}
use Rattle.cpg_entry.specs.declared.frames.Packet.{Packet}
use Rattle.cpg_entry.specs.declared.frames.Token.{Token}
use Rattle.cpg_entry.specs.declared.frames.Frame.{Frame}
use Rattle.cpg_entry.specs.declared.frames.Frame.TheVariants as frames
use Rattle.cpg_entry.specs.declared.ranges.TheConstants.{MOST_PLACES}
use Rattle.cpg_wire.specs.declared.codes.TheConstants.{MARK}
use Rattle.cpg_wire.specs.declared.codes.Version.{Version}
use Rattle.cpg_wire.specs.declared.codes.Version.TheVariants.{One, Two}
use Rattle.cpg_wire.specs.declared.codes.Kind.{Kind}
use Rattle.cpg_wire.specs.declared.codes.Kind.TheVariants as kinds
use Rattle.cpg_wire.specs.Codes.{form_of, version_code, version_of, kind_code, kind_of, versions, all_kinds}
use Rattle.cpg_entry.specs.Ranges.{Within, IsPacket, IsToken, IsFrame}
use Rattle.cpg_entry.specs.Widths.{IsU32, IsNode, PacketFits, TokenFits, FrameFits}
use Rattle.cpg_wire.specs.Versions.{FitsOp, Fits}
use Rattle.cpg_wire.specs.Spelling.{cred_bytes, op_bytes, packet_bytes, token_bytes, spelling, Spells}
use Rattle.cpg_wire.specs.Reading.{◌>>=◌, number_at, u8_at, u32_at, form_at, op_at, sender_at, cred_at, packet_at, token_at, head_at, carried_at, frame_at, frame_of}
use Rattle.cpg_wire.proofs.Readers.{IsBytes, bind_some, ReadsBack, reads1, reads2, reads3, reads4}
use Rattle.cpg_wire.proofs.ReadsNumbers.{number_reads, u8_reads, form_reads}
use Rattle.cpg_wire.proofs.ReadsFields.{u32_reads, IsCred, cred_reads}
use Rattle.cpg_wire.proofs.ReadsOps.{IsOpIn, op_reads}
use Rattle.cpg_wire.proofs.ReadsTokens.{token_reads}

-- ---- packets

abbrev IsSender : ℕ × ℕ × ℕ → Type 0
IsSender s = IsNode s.0 × Within 1 65535 s.1 × IsU32 s.2

abbrev sender_text : ℕ × ℕ × ℕ → List ℕ
sender_text s = s.0 ∷ (big_bytes 2 s.1 ++ big_bytes 4 s.2)

sender_reads : ReadsBack (ℕ × ℕ × ℕ) sender_at sender_text IsSender
unfolding sender_at
sender_reads = reads3 ℕ ℕ ℕ (ℕ × ℕ × ℕ) (u8_at 1 8) (λ n. n ∷ []) IsNode (u8_reads 1 8)
    (number_at 2 1 65535) (big_bytes 2) (Within 1 65535) (number_reads 2 1 65535 (omega arith))
    u32_at (big_bytes 4) IsU32 u32_reads (λ n c p. (n, c, p)) sender_text IsSender (λ n c p h i j. (refl, (h, i, j))) (λ s h. (s.0, s.1, s.2, refl, h.0, h.1, h.2))

-- a packet of that ring that may be spelled in that version
abbrev IsPacketOf : Version → ℕ → Packet → Type 0
IsPacketOf v ring p = (p.ring ≡ ring) × (IsPacket p × PacketFits p) × FitsOp v p.entry.op

packet_reads : (v : Version) (ring : ℕ) → IsU32 ring → ReadsBack Packet (packet_at v ring) (packet_bytes v) (IsPacketOf v ring)
unfolding packet_at
packet_reads v ring fits = reads4 ℕ (ℕ × ℕ × ℕ) Cred Op Packet
    (number_at 4 1 MOST_PLACES) (big_bytes 4) (Within 1 MOST_PLACES) (number_reads 4 1 MOST_PLACES (omega arith))
    sender_at sender_text IsSender sender_reads
    cred_at cred_bytes IsCred cred_reads
    (λ s. op_at v) (op_bytes v) (λ s. IsOpIn v) (λ s h. op_reads v)
    (λ place s c o. record { ring = ring; place = place; entry = record { node = s.0; conn = s.1; pid = s.2; cred = c; op = o } }) (packet_bytes v) (IsPacketOf v ring)
    (λ place s c o h i j k. (refl, (refl, (record { place = h; entry = record { conn = i.1.0; op = k.0.0 } }, record { ring = fits; entry = record { node = i.0; conn = i.1.1; pid = i.2; uid = j.0; gid = j.1; op = k.0.1 } }), k.1)))
    (λ p h. (p.place, (p.entry.node, p.entry.conn, p.entry.pid), p.entry.cred, p.entry.op, ap (λ (r : ℕ). record { ring = r; place = p.place; entry = p.entry }) (sym h.0), h.1.0.place, (h.1.1.entry.node, (h.1.0.entry.conn, h.1.1.entry.conn), h.1.1.entry.pid), (h.1.1.entry.uid, h.1.1.entry.gid), ((h.1.0.entry.op, h.1.1.entry.op), h.2)))

-- ---- frames

version_reads : ReadsBack Version (form_at version_of) (λ form. version_code form ∷ []) (λ form. Unit {0})
unfolding version_of
version_reads = form_reads Version version_code versions (λ (form : Version). elim form as (λ form. form_of version_code versions (version_code form) ≡ Some form) [ One ↦ refl | Two ↦ refl ])

kind_reads : ReadsBack Kind (form_at kind_of) (λ form. kind_code form ∷ []) (λ form. Unit {0})
unfolding kind_of
kind_reads = form_reads Kind kind_code all_kinds (λ (form : Kind). elim form as (λ form. form_of kind_code all_kinds (kind_code form) ≡ Some form) [ kinds.Data ↦ refl | kinds.Token ↦ refl ])

abbrev Head : Type 0
Head = Version × Kind × ℕ

abbrev head_text : Head → List ℕ
head_text h = MARK ∷ version_code h.0 ∷ kind_code h.1 ∷ big_bytes 4 h.2

abbrev IsHead : Head → Type 0
IsHead h = IsU32 h.2

head_reads : ReadsBack Head head_at head_text IsHead
unfolding head_at
head_reads = reads4 ℕ Version Kind ℕ Head (u8_at MARK MARK) (λ n. n ∷ []) (Within MARK MARK) (u8_reads MARK MARK)
    (form_at version_of) (λ x. version_code x ∷ []) (λ x. Unit {0}) version_reads
    (form_at kind_of) (λ x. kind_code x ∷ []) (λ x. Unit {0}) kind_reads
    (λ x. u32_at) (big_bytes 4) (λ x. IsU32) (λ x h. u32_reads)
    (λ m v k r. (v, k, r)) head_text IsHead
    (λ m v k r h i j l. let e : MARK ≡ m = omega (arith, h.0, h.1) in (ap (λ (n : ℕ). n ∷ version_code v ∷ kind_code k ∷ big_bytes 4 r) e, l))
    (λ h is. (MARK, h.0, h.1, h.2, refl, (omega arith, omega arith), tt, tt, is))

abbrev carried_text : Version → Frame → List ℕ
carried_text v (frames.Packet p) = packet_bytes v p
carried_text v (frames.Token t) = token_bytes t

abbrev Carried : Version → Kind → ℕ → Frame → Type 0
Carried v kinds.Data ring (frames.Packet p) = IsPacketOf v ring p
Carried v kinds.Token ring (frames.Token t) = (t.ring ≡ ring) × (IsToken t × TokenFits t)
Carried v _ ring _ = ⊥

data_parts : (v : Version) (ring : ℕ) (f : Frame) → Carried v kinds.Data ring f → (p : Packet) × (frames.Packet p ≡ f) × IsPacketOf v ring p
data_parts v ring (frames.Packet p) h = (p, refl, h)
data_parts v ring (frames.Token t) h = absurd h

token_parts : (v : Version) (ring : ℕ) (f : Frame) → Carried v kinds.Token ring f → (t : Token) × (frames.Token t ≡ f) × ((t.ring ≡ ring) × (IsToken t × TokenFits t))
token_parts v ring (frames.Token t) h = (t, refl, h)
token_parts v ring (frames.Packet p) h = absurd h

carried_reads : (v : Version) (k : Kind) (ring : ℕ) → IsU32 ring → ReadsBack Frame (carried_at v k ring) (carried_text v) (Carried v k ring)
unfolding carried_at
carried_reads v kinds.Data ring fits = reads1 Packet Frame (packet_at v ring) (packet_bytes v) (IsPacketOf v ring) (packet_reads v ring fits)
    frames.Packet (carried_text v) (Carried v kinds.Data ring) (λ p h. (refl, h)) (data_parts v ring)
carried_reads v kinds.Token ring fits = reads1 Token Frame (token_at ring) token_bytes (λ t. (t.ring ≡ ring) × (IsToken t × TokenFits t)) (token_reads ring fits)
    frames.Token (carried_text v) (Carried v kinds.Token ring) (λ t h. (refl, h)) (token_parts v ring)

-- a frame that may be spelled in that version
abbrev IsFrameIn : Version → Frame → Type 0
IsFrameIn v f = (IsFrame f × FrameFits f) × Fits v f

frame_joined : (v : Version) (k : Kind) (ring : ℕ) (f : Frame) → Carried v k ring f → (spelling v f ≡ head_text (v, k, ring) ++ carried_text v f) × IsFrameIn v f
frame_joined v kinds.Data ring (frames.Packet p) h = (ap (λ (r : ℕ). MARK ∷ version_code v ∷ kind_code kinds.Data ∷ (big_bytes 4 r ++ packet_bytes v p)) h.0, (h.1, h.2))
frame_joined v kinds.Token ring (frames.Token t) h = (ap (λ (r : ℕ). MARK ∷ version_code v ∷ kind_code kinds.Token ∷ (big_bytes 4 r ++ token_bytes t)) h.0, (h.1, tt))
frame_joined v kinds.Data ring (frames.Token t) h = absurd h
frame_joined v kinds.Token ring (frames.Packet p) h = absurd h

abbrev Versioned : Type 0
Versioned = Version × Frame

frame_parts : (v : Version) (f : Frame) → IsFrameIn v f → (h : Head) × (g : Frame) × (◌≡◌ {A = Versioned} (h.0, g) (v, f)) × IsHead h × Carried h.0 h.1 h.2 g
frame_parts v (frames.Packet p) h = ((v, kinds.Data, p.ring), frames.Packet p, refl, h.0.1.ring, (refl, h.0, h.1))
frame_parts v (frames.Token t) h = ((v, kinds.Token, t.ring), frames.Token t, refl, h.0.1.ring, (refl, h.0))

frame_reads : ReadsBack Versioned frame_at (λ x. spelling x.0 x.1) (λ x. IsFrameIn x.0 x.1)
unfolding frame_at
frame_reads = reads2 Head Frame Versioned head_at head_text IsHead head_reads
    (λ h. carried_at h.0 h.1 h.2) (λ h. carried_text h.0) (λ h. Carried h.0 h.1 h.2) (λ h is. carried_reads h.0 h.1 h.2 is)
    (λ h f. (h.0, f)) (λ x. spelling x.0 x.1) (λ x. IsFrameIn x.0 x.1)
    (λ h f is c. frame_joined h.0 h.1 h.2 f c) (λ x is. frame_parts x.0 x.1 is)

-- ---- the two directions

-- what is read is spelled so
pub read_is_spelled : (bytes : List ℕ) (frame : Frame) → IsBytes bytes → frame_of bytes ≡ Some frame → Spells bytes frame
unfolding frame_of
read_is_spelled bytes frame fits e =
    let p = bind_some (frame_at bytes) (λ x. cond (eqb (length x.1) 0) (Some x.0.1) None) frame e in
    let g = cond_some (eqb (length p.0.1) 0) p.0.0.1 frame p.2 in
    let t = frame_reads.takes bytes p.0 fits p.1 in
    let none : p.0.1 ≡ [] = nil_from_length p.0.1 (eqb-true (length p.0.1) 0 g.0) in
    let whole : bytes ≡ spelling p.0.0.0 p.0.0.1 = t.0.parts ∙ (ap (λ (r : List ℕ). spelling p.0.0.0 p.0.0.1 ++ r) none ∙ append-nil (spelling p.0.0.0 p.0.0.1)) in
    subst (λ (f : Frame). Spells bytes f) g.1 (p.0.0.0, (t.1.0.0, t.1.0.1, t.1.1, whole))

-- what is spelled so is read
pub spelled_is_read : (bytes : List ℕ) (frame : Frame) → Spells bytes frame → frame_of bytes ≡ Some frame
unfolding frame_of
spelled_is_read bytes frame h =
    let made : Versioned = (h.0, frame) in
    let e : bytes ≡ spelling h.0 frame ++ [] = h.1.3 ∙ sym (append-nil (spelling h.0 frame)) in
    ap frame_of e ∙ ap (λ (o : Option (Versioned × List ℕ)). o >>= λ x. cond (eqb (length x.1) 0) (Some x.0.1) None) (frame_reads.again made [] ((h.1.0, h.1.1), h.1.2))

-- Names, messages and credentials.
use Rattle.std.proofs.Common.{◌≡◌, ℕ, ◌≤◌, true, List, [], ◌∷◌, ◌++◌, length, refl, ap, arith}
use Rattle.std.specs.List.{All}
use Rattle.std.specs.Int.{is_in_range}
use Rattle.byteorder.specs.Endian.{big_bytes}
use Rattle.std.proofs.lemmas.List.Elements.{All-weaker}
use Rattle.std.proofs.lemmas.List.Sums.{AllPass-from_list_all, list_all-from_AllPass}
use Rattle.cpg_cred.specs.declared.credentials.Cred.{Cred}
use Rattle.cpg_entry.specs.Names.{IsName}
use Rattle.cpg_entry.specs.declared.names.TheConstants.{MOST_NAME_BYTES}
use Rattle.cpg_entry.specs.declared.messages.TheConstants.{MOST_MESSAGE_BYTES}
use Rattle.cpg_entry.specs.Ranges.{Within}
use Rattle.cpg_entry.specs.Widths.{most_u32, IsU32}
use Rattle.cpg_wire.specs.Spelling.{name_bytes, message_bytes, cred_bytes}
use Rattle.cpg_wire.specs.Reading.{number_at, u8_at, text_at, is_printing, printing_at, name_at, message_at, u32_at, cred_at}
use Rattle.cpg_wire.proofs.Readers.{ReadsBack, reads2, reads_then}
use Rattle.cpg_wire.proofs.ReadsNumbers.{number_reads, u8_reads, text_reads, printing_reads, in_range, is_in}

-- a byte of a name, as the reader tests it and as the rule says
printing_byte : (byte : ℕ) → is_in_range 0x21 0x7e byte ≡ true → (0x21 ≤ byte) × (byte ≤ 0x7e)
printing_byte byte e = in_range 0x21 0x7e byte e

printing_all : (bytes : List ℕ) → is_printing bytes ≡ true → All (λ byte. (0x21 ≤ byte) × (byte ≤ 0x7e)) bytes
printing_all bytes e = All-weaker (λ byte. is_in_range 0x21 0x7e byte ≡ true) (λ byte. (0x21 ≤ byte) × (byte ≤ 0x7e)) printing_byte bytes (AllPass-from_list_all (is_in_range 0x21 0x7e) bytes e)

all_printing : (bytes : List ℕ) → All (λ byte. (0x21 ≤ byte) × (byte ≤ 0x7e)) bytes → is_printing bytes ≡ true
all_printing bytes h = list_all-from_AllPass (is_in_range 0x21 0x7e) bytes (All-weaker (λ byte. (0x21 ≤ byte) × (byte ≤ 0x7e)) (λ byte. is_in_range 0x21 0x7e byte ≡ true) (λ byte in_it. is_in 0x21 0x7e byte in_it) bytes h)

pub name_reads : ReadsBack (List ℕ) name_at name_bytes IsName
unfolding name_at
name_reads = reads_then ℕ (List ℕ) (u8_at 1 MOST_NAME_BYTES) (λ n. n ∷ []) (Within 1 MOST_NAME_BYTES) (u8_reads 1 MOST_NAME_BYTES)
    printing_at (λ t. t) (λ n t. (length t ≡ n) × (is_printing t ≡ true)) (λ n h. printing_reads n) name_bytes IsName
    (λ n t h k. (ap (λ (m : ℕ). m ∷ t) k.0, (omega (arith, h.0, k.0), omega (arith, h.1, k.0), printing_all t k.1)))
    (λ t h. (length t, (h.0, h.1), (refl, all_printing t h.2)))

pub message_reads : ReadsBack (List ℕ) message_at message_bytes (λ m. length m ≤ MOST_MESSAGE_BYTES)
unfolding message_at
message_reads = reads_then ℕ (List ℕ) (number_at 2 0 MOST_MESSAGE_BYTES) (big_bytes 2) (Within 0 MOST_MESSAGE_BYTES) (number_reads 2 0 MOST_MESSAGE_BYTES (omega arith))
    text_at (λ t. t) (λ n t. length t ≡ n) (λ n h. text_reads n) message_bytes (λ m. length m ≤ MOST_MESSAGE_BYTES)
    (λ n t h k. (ap (λ (m : ℕ). big_bytes 2 m ++ t) k, omega (arith, h.1, k)))
    (λ t h. (length t, (omega arith, h), refl))

pub u32_reads : ReadsBack ℕ u32_at (big_bytes 4) IsU32
u32_reads = number_reads 4 0 most_u32 (omega arith)

abbrev pub IsCred : Cred → Type 0
IsCred c = IsU32 c.uid × IsU32 c.gid

pub cred_reads : ReadsBack Cred cred_at cred_bytes IsCred
unfolding cred_at
cred_reads = reads2 ℕ ℕ Cred u32_at (big_bytes 4) IsU32 u32_reads (λ a. u32_at) (λ a. big_bytes 4) (λ a. IsU32) (λ a h. u32_reads)
    (λ u g. record { uid = u; gid = g }) cred_bytes IsCred (λ u g h k. (refl, (h, k))) (λ c h. (c.uid, c.gid, refl, h.0, h.1))

-- Numbers with the lowest byte first, from bytes and back.
use Rattle.std.proofs.Common.{◌≡◌, ℕ, zero, suc, ◌+◌, ◌*◌, ◌^◌, ◌<◌, ◌≤◌, false, ltb, List, [], ◌∷◌, ◌++◌, length, take, drop, Some, refl, sym, ap, subst, ◌∙◌, append-nil, length-append, take-append-drop, arith}
use Rattle.std.proofs.Math.Nat.{mod-lt}
use Rattle.std.proofs.lemmas.Bool.{le-ltb, ltb-false}
use Rattle.std.proofs.lemmas.List.{length-take, drop_at, take-append-le, drop-append-le}
use Rattle.std.specs.Int.{byte_at, bytes_low_first}
use Rattle.byteorder.specs.Endian.{little_from, little_number, little_bytes}
use Rattle.byteorder.specs.Numbers.{little_from-cons, little_from-lt, little_from-take, little_from-append, little_number-reads_back, length-bytes_low_first}
use Rattle.cpg_wire.proofs.Bytes.{same_bytes}
use Rattle.cpg_wire.proofs.Readers.{IsBytes, IsBytes-drop, IsBytes-take, guard_some, some_is, Takes, ReadsBack}
use Rattle.cpg_wire.specs.Reading.{text_at}
use Rattle.cpg_ask.specs.Numbers.{little_at, IsU16, IsU32}

byte_below : (place x : ℕ) → byte_at place x < 256
byte_below zero x = mod-lt x (omega arith)
byte_below (suc place) x = mod-lt _ (omega arith)

bytes_below : (place count x : ℕ) → IsBytes (bytes_low_first place count x)
bytes_below place zero x i = omega arith
bytes_below place (suc count) x zero = byte_below place x
bytes_below place (suc count) x (suc i) = bytes_below (suc place) count x i

-- a number with the lowest byte first has the first byte and the others' number
same_parts : (count x y : ℕ) (xs ys : List ℕ) → IsBytes (x ∷ xs) → IsBytes (y ∷ ys) → little_number (suc count) (x ∷ xs) ≡ little_number (suc count) (y ∷ ys) → (x ≡ y) × (little_number count xs ≡ little_number count ys)
same_parts count x y xs ys fx fy same =
    let rest_x = little_from-cons 0 count x xs in
    let rest_y = little_from-cons 0 count y ys in
    let whole : x + 256 * little_from 0 count xs ≡ y + 256 * little_from 0 count ys =
    sym (ap (λ (n : ℕ). x + 256 * n) rest_x) ∙ same ∙ ap (λ (n : ℕ). y + 256 * n) rest_y in
    let low_x : x < 256 = fx 0 in
    let low_y : y < 256 = fy 0 in
    (omega (arith, whole, low_x, low_y), omega (arith, whole, low_x, low_y))

-- the bytes of the number in the first bytes are those bytes
bytes_of_little : (count : ℕ) (bytes : List ℕ) → count ≤ length bytes → IsBytes bytes → little_bytes count (little_number count bytes) ≡ take count bytes
bytes_of_little count bytes long fits =
    let number = little_number count bytes in
    let back : little_number count (little_bytes count number) ≡ number =
    ap (little_number count) (sym (append-nil (little_bytes count number))) ∙ little_number-reads_back count number [] (little_from-lt 0 count bytes fits) in
    same_bytes little_number same_parts count (little_bytes count number) (take count bytes) (length-bytes_low_first 0 count number) (omega (arith, length-take count bytes)) (bytes_below 0 count number) (IsBytes-take count bytes fits)
    (back ∙ sym (little_from-take 0 count count bytes (omega arith)))

abbrev Found : Type 0
Found = ℕ × List ℕ

little_takes : (count most : ℕ) → 256 ^ count ≡ suc most → (bytes : List ℕ) (x : Found) → IsBytes bytes → little_at count bytes ≡ Some x → Takes bytes (little_bytes count x.0) x.1 × (x.0 ≤ most)
little_takes count most power bytes x fits e =
    let made : Found = (little_number count bytes, drop count bytes) in
    let g = guard_some (ltb (length bytes) count) (Some made) x e in
    let long : count ≤ length bytes = ltb-false _ _ g.0 in
    let few = little_from-lt 0 count bytes fits in
    let taken : Takes bytes (little_bytes count made.0) made.1 = record {
      parts = sym (take-append-drop count bytes) ∙ ap (λ (t : List ℕ). t ++ drop count bytes) (sym (bytes_of_little count bytes long fits));
      rest_fits = IsBytes-drop count bytes fits;
    } in
    subst (λ (y : Found). Takes bytes (little_bytes count y.0) y.1 × (y.0 ≤ most)) (some_is made x g.1) (taken, omega (arith, few, power))

little_again : (count most : ℕ) → 256 ^ count ≡ suc most → (n : ℕ) (rest : List ℕ) → n ≤ most → little_at count (little_bytes count n ++ rest) ≡ Some (n, rest)
little_again count most power n rest h =
    let len = length-bytes_low_first 0 count n in
    let below : n < 256 ^ count = omega (arith, h, power) in
    let long : ltb (length (little_bytes count n ++ rest)) count ≡ false = le-ltb _ _ (omega (arith, len, length-append (little_bytes count n) rest)) in
    rw (long, drop_at (little_bytes count n) rest count len, little_number-reads_back count n rest below) refl

little_reads : (count most : ℕ) → 256 ^ count ≡ suc most → ReadsBack ℕ (little_at count) (little_bytes count) (λ n. n ≤ most)
little_reads count most power = record { takes = little_takes count most power; again = little_again count most power }

pub u16_reads : ReadsBack ℕ (little_at 2) (little_bytes 2) IsU16
u16_reads = little_reads 2 65535 (omega arith)

pub u32_reads : ReadsBack ℕ (little_at 4) (little_bytes 4) IsU32
u32_reads = little_reads 4 4294967295 (omega arith)

pub u64_reads : ReadsBack ℕ (little_at 8) (little_bytes 8) (λ n. n ≤ 18446744073709551615)
u64_reads = little_reads 8 18446744073709551615 (omega arith)

-- what follows does not change a number that stands in front
pub little_more : (n : ℕ) (bytes more : List ℕ) (x : Found) → little_at n bytes ≡ Some x → little_at n (bytes ++ more) ≡ Some (x.0, x.1 ++ more)
little_more n bytes more x e =
    let made : Found = (little_number n bytes, drop n bytes) in
    let g = guard_some (ltb (length bytes) n) (Some made) x e in
    let long : n ≤ length bytes = ltb-false _ _ g.0 in
    let longer : ltb (length (bytes ++ more)) n ≡ false = le-ltb _ _ (omega (arith, long, length-append bytes more)) in
    rw (longer, little_from-append n bytes more long, drop-append-le n bytes more long) (ap (λ (y : Found). Some (y.0, y.1 ++ more)) (some_is made x g.1))

-- ---- texts

abbrev Text : Type 0
Text = List ℕ × List ℕ

-- what follows does not change a text that stands in front
pub text_more : (n : ℕ) (bytes more : List ℕ) (t : Text) → text_at n bytes ≡ Some t → text_at n (bytes ++ more) ≡ Some (t.0, t.1 ++ more)
unfolding text_at
text_more n bytes more t e =
    let made : Text = (take n bytes, drop n bytes) in
    let g = guard_some (ltb (length bytes) n) (Some made) t e in
    let long : n ≤ length bytes = ltb-false _ _ g.0 in
    let longer : ltb (length (bytes ++ more)) n ≡ false = le-ltb _ _ (omega (arith, long, length-append bytes more)) in
    rw (longer, take-append-le n bytes more long, drop-append-le n bytes more long) (ap (λ (y : Text). Some (y.0, y.1 ++ more)) (some_is made t g.1))

-- the first place of a byte in a text, as a search finds it
use Rattle.std.proofs.Common.{◌≡◌, ◌≢◌, ℕ, List, length, slice_index, Bool, true, false, Option, Some, None, refl, arith}
use Rattle.std.proofs.lemmas.Bool.Decides.{nat_tests}
use Rattle.std.proofs.lemmas.List.Sums.{position_or_len_is}
use Rattle.std.specs.List.{position, position_or_len}
use Rattle.memchr.specs.Find.{IsFirstByte, is_byte, is_byte2}
use Rattle.std.specs.Prelude.{◌==◌}
use Rattle.cpg_text.specs.Lines.{is_blank}

fails : (test : Bool) → test ≢ true → test ≡ false
fails false other = refl
fails true other = absurd (other refl)

-- a place that a search finds is the first that passes its test, and where it finds none there is none
first_passing : (p : ℕ → Bool) (text : List ℕ) (found : Option ℕ) → IsFirstByte p text found → found ≡ position p text
first_passing p text None nowhere =
    let at_end : position_or_len p text ≡ length text =
    position_or_len_is p text (length text) 0 (omega arith) (λ k below. fails (p (slice_index text k)) (nowhere k (omega arith) below)) (λ past. absurd (omega (arith, past))) in
    grind (arith, nat_tests, at_end)
first_passing p text (Some place) first =
    let within = first.0.high in
    let there : position_or_len p text ≡ place =
    position_or_len_is p text place 0 (omega (arith, within)) (λ k below. fails (p (slice_index text k)) (first.0.before k (omega arith) below)) (λ past. first.1) in
    grind (arith, nat_tests, there, within)

-- a byte
pub first_place : (byte : ℕ) (text : List ℕ) (found : Option ℕ) → IsFirstByte (is_byte byte) text found → found ≡ position (λ item. item == byte) text
first_place byte text found first = first_passing (λ item. item == byte) text found first

-- a space or a tab
pub first_blank : (text : List ℕ) (found : Option ℕ) → IsFirstByte (is_byte2 32 9) text found → found ≡ position is_blank text
first_blank text found first = first_passing is_blank text found first

-- words between blanks
use Rattle.std.proofs.Common.{◌≡◌, ℕ, ◌+◌, ◌-◌, ◌<◌, List, [], ◌∷◌, length, take, drop, true, false, not, cond, Some, None, refl, ap, ◌∙◌, arith}
use Rattle.std.proofs.lemmas.Bool.Decides.{nat_tests}
use Rattle.std.proofs.lemmas.List.Splits.{slice_split_first, slice_split_none, slice_split-cons_no, slice_split-cons_yes}
use Rattle.std.proofs.lemmas.List.{take_all, length-drop, length-take}
use Rattle.std.specs.Prelude.{nat_lt}
use Rattle.std.specs.List.{filter, onto_first, position, position_or_len, slice_split}
use Rattle.cpg_text.specs.Lines.{is_blank, words_of}
use Rattle.cpg_text.specs.Steps.{StartsWord}
use Rattle.cpg_text.proofs.Texts.{some_position, none_passes}

-- the pieces that are not empty
abbrev kept : List (List ℕ) → List (List ℕ)
kept pieces = filter (λ word. nat_lt 0 (length word)) pieces

kept_first : (word : List ℕ) (pieces : List (List ℕ)) → 0 < length word → kept (word ∷ pieces) ≡ word ∷ kept pieces
kept_first [] pieces some = absurd (omega arith)
kept_first (byte ∷ word) pieces some =
    let has : nat_lt 0 (length (byte ∷ word)) ≡ true = grind (arith, nat_tests) in
    ap (λ test. cond test ((byte ∷ word) ∷ kept pieces) (kept pieces)) has

-- a blank in front is no word
pub blank_skipped : (byte : ℕ) (line : List ℕ) → is_blank byte ≡ true → words_of (byte ∷ line) ≡ words_of line
blank_skipped byte line e = ap kept (slice_split-cons_yes is_blank byte line e)

-- a blank ends a word that has begun past its first byte
word_has : (line : List ℕ) (end : ℕ) → StartsWord line → position_or_len is_blank line < length line → position_or_len is_blank line ≡ end → 0 < end
word_has [] end starts within e = absurd (omega arith)
word_has (byte ∷ line) end starts within e =
    let past : position_or_len is_blank (byte ∷ line) ≡ 1 + position_or_len is_blank line = ap (λ test. cond (not test) (1 + position_or_len is_blank line) 0) starts in
    omega (arith, past, e)

-- a word that a blank ends
pub first_of_words : (line : List ℕ) (end : ℕ) → StartsWord line → position is_blank line ≡ Some end
    → words_of line ≡ take end line ∷ words_of (take (length line - (end + 1)) (drop (end + 1) line))
first_of_words line end starts e =
    let p = some_position is_blank line end e in
    let has = word_has line end starts p.0 p.1 in
    let all = take_all (length line - (end + 1)) (drop (end + 1) line) (omega (arith, length-drop (end + 1) line)) in
    ap kept (slice_split_first is_blank line 0 p.0)
    ∙ rw (all, p.1) (kept_first (take end line) (slice_split is_blank (drop (end + 1) line)) (omega (arith, has, p.0, p.1, length-take end line)))

-- a word of one byte before a space
pub one_byte : (byte : ℕ) (line : List ℕ) → is_blank byte ≡ false → words_of (byte ∷ 32 ∷ line) ≡ (byte ∷ []) ∷ words_of line
one_byte byte line e = ap kept (slice_split-cons_no is_blank byte (32 ∷ line) e ∙ ap (onto_first byte) (slice_split-cons_yes is_blank 32 line refl))

-- a word that ends the line
pub last_of_words : (line : List ℕ) → 0 < length line → position is_blank line ≡ None → words_of line ≡ line ∷ words_of []
last_of_words line some e =
    ap kept (slice_split_none is_blank line (none_passes is_blank line e)) ∙ kept_first line [] some

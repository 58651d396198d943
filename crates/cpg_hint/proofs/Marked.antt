-- the mark stands under the word
use Rattle.std.proofs.Common.{◌≡◌, ℕ, zero, suc, Bool, true, false, List, [], ◌∷◌, drop, refl, sym, ap, ◌∙◌}
use Rattle.std.proofs.lemmas.List.Splits.{slice_split-cons_no, slice_split-cons_yes}
use Rattle.std.specs.Prelude.{if◌then◌else◌}
use Rattle.std.specs.List.{slice_split, onto_first}
use Rattle.cpg_text.specs.Lines.{is_blank, words_of}
use Rattle.cpg_text.proofs.Blanks.{blank_skipped}
use Rattle.cpg_print.proofs.Spacing.{kept, kept_begun}
use Rattle.cpg_hint.specs.Places.{from_blank, from_word, from_word_at}

-- a byte more in front of a first piece that has one
onto_two : (a b : ℕ) (pieces : List (List ℕ)) → drop 1 (kept (onto_first a (onto_first b pieces))) ≡ drop 1 (kept (onto_first b pieces))
onto_two a b [] = refl
onto_two a b (piece ∷ pieces) = ap (drop 1) (kept_begun a (b ∷ piece) pieces) ∙ sym (ap (drop 1) (kept_begun b piece pieces))

-- what follows the first word, which begins with that byte
behind_by : (a b : ℕ) (line : List ℕ) (blank : Bool) → is_blank b ≡ blank
    → words_of (from_blank line) ≡ drop 1 (kept (onto_first b (slice_split is_blank line)))
    → words_of (from_blank (b ∷ line)) ≡ drop 1 (kept (onto_first a (slice_split is_blank (b ∷ line))))
behind_by a b line true e h =
    ap (λ test. words_of (if test then b ∷ line else from_blank line)) e ∙ blank_skipped b line e
    ∙ sym (ap (λ pieces. drop 1 (kept (onto_first a pieces))) (slice_split-cons_yes is_blank b line e) ∙ ap (drop 1) (kept_begun a [] (slice_split is_blank line)))
behind_by a b line false e h =
    ap (λ test. words_of (if test then b ∷ line else from_blank line)) e ∙ h
    ∙ sym (ap (λ pieces. drop 1 (kept (onto_first a pieces))) (slice_split-cons_no is_blank b line e) ∙ onto_two a b (slice_split is_blank line))

behind : (a : ℕ) (line : List ℕ) → words_of (from_blank line) ≡ drop 1 (kept (onto_first a (slice_split is_blank line)))
behind a [] = refl
behind a (b ∷ line) = behind_by a b line (is_blank b) refl (behind b line)

-- the line from its first word has the same words
first_by : (byte : ℕ) (line : List ℕ) (blank : Bool) → is_blank byte ≡ blank → words_of (from_word line) ≡ words_of line → words_of (from_word (byte ∷ line)) ≡ words_of (byte ∷ line)
first_by byte line true e h = ap (λ test. words_of (if test then from_word line else byte ∷ line)) e ∙ h ∙ sym (blank_skipped byte line e)
first_by byte line false e h = ap (λ test. words_of (if test then from_word line else byte ∷ line)) e

words_from_word : (line : List ℕ) → words_of (from_word line) ≡ words_of line
words_from_word [] = refl
words_from_word (byte ∷ line) = first_by byte line (is_blank byte) refl (words_from_word line)

-- the line behind its first word has the words behind it
rest_by : (byte : ℕ) (line : List ℕ) (blank : Bool) → is_blank byte ≡ blank → words_of (from_blank (from_word line)) ≡ drop 1 (words_of line)
    → words_of (from_blank (from_word (byte ∷ line))) ≡ drop 1 (words_of (byte ∷ line))
rest_by byte line true e h = ap (λ test. words_of (from_blank (if test then from_word line else byte ∷ line))) e ∙ h ∙ sym (ap (drop 1) (blank_skipped byte line e))
rest_by byte line false e h =
    ap (λ test. words_of (from_blank (if test then from_word line else byte ∷ line))) e
    ∙ ap (λ test. words_of (if test then byte ∷ line else from_blank line)) e
    ∙ behind byte line ∙ sym (ap (λ pieces. drop 1 (kept pieces)) (slice_split-cons_no is_blank byte line e))

words_from_rest : (line : List ℕ) → words_of (from_blank (from_word line)) ≡ drop 1 (words_of line)
words_from_rest [] = refl
words_from_rest (byte ∷ line) = rest_by byte line (is_blank byte) refl (words_from_rest line)

drop_one_more : (index : ℕ) (words : List (List ℕ)) → drop index (drop 1 words) ≡ drop (suc index) words
drop_one_more zero [] = refl
drop_one_more (suc index) [] = refl
drop_one_more index (word ∷ words) = refl

-- the line from a word's place has that word and those behind it
pub words_from_place : (index : ℕ) (line : List ℕ) → words_of (from_word_at index line) ≡ drop index (words_of line)
words_from_place zero line = words_from_word line
words_from_place (suc index) line =
    words_from_place index (from_blank (from_word line)) ∙ ap (drop index) (words_from_rest line) ∙ drop_one_more index (words_of line)

-- words that are printed with a blank between them are those words again
use Rattle.std.proofs.Common.{◌≡◌, ℕ, ◌+◌, List, [], ◌∷◌, ◌++◌, length, length-append, Bool, true, false, ◌&&◌, not, nat_lt, cond, Some, None, refl, ap, ◌∙◌, append_assoc, arith}
use Rattle.std.proofs.lemmas.Bool.Decides.{nat_tests}
use Rattle.std.proofs.lemmas.List.Elements.{All-from_recursion}
use Rattle.std.proofs.lemmas.List.Folds.{list_all-append}
use Rattle.std.proofs.lemmas.List.Splits.{slice_split_at, slice_split_none}
use Rattle.std.proofs.Math.Seq.{take-append_seam, drop-append-add}
use Rattle.std.specs.Prelude.{◌==◌, codes}
use Rattle.std.specs.List.{AllByRecursion, filter, list_all, prefix_len, slice_split}
use Rattle.cpg_entry.specs.Names.{is_name_byte}
use Rattle.cpg_text.specs.Lines.{is_blank, words_of}
use Rattle.cpg_text.specs.Words.{cut_at}

-- one byte at least, each a printing ASCII character
abbrev pub is_word : List ℕ → Bool
is_word word = nat_lt 0 (length word) && list_all is_name_byte word

pub both : (x y : Bool) → (x && y) ≡ true → (x ≡ true) × (y ≡ true)
both true y e = (refl, e)
both false y e = (e, cc)

-- what passes one test passes the other
pub passes_also : (p q : ℕ → Bool) → ((byte : ℕ) → p byte ≡ true → q byte ≡ true) → (word : List ℕ) → list_all p word ≡ true → list_all q word ≡ true
passes_also p q also [] e = refl
passes_also p q also (byte ∷ word) e =
    let h = both (p byte) (list_all p word) e in
    rw (also byte h.0) (passes_also p q also word h.1)

-- what passes one test fails the other
fails_each : (p q : ℕ → Bool) → ((byte : ℕ) → p byte ≡ true → q byte ≡ false) → (word : List ℕ) → list_all p word ≡ true → AllByRecursion (λ byte. q byte ≡ false) word
fails_each p q fails [] e = tt
fails_each p q fails (byte ∷ word) e =
    let h = both (p byte) (list_all p word) e in
    (fails byte h.0, fails_each p q fails word h.1)

no_blank : (byte : ℕ) → is_name_byte byte ≡ true → is_blank byte ≡ false
no_blank byte e = grind (arith, nat_tests)

-- the pieces that are not empty
abbrev pub kept : List (List ℕ) → List (List ℕ)
kept pieces = filter (λ word. nat_lt 0 (length word)) pieces

kept_first : (word : List ℕ) (pieces : List (List ℕ)) → nat_lt 0 (length word) ≡ true → kept (word ∷ pieces) ≡ word ∷ kept pieces
kept_first word pieces some = ap (λ test. cond test (word ∷ kept pieces) (kept pieces)) some

-- a word with a blank after it is the first word
pub words_first : (word rest : List ℕ) → is_word word ≡ true → words_of (word ++ 32 ∷ rest) ≡ word ∷ words_of rest
words_first word rest e =
    let h = both (nat_lt 0 (length word)) (list_all is_name_byte word) e in
    ap kept (slice_split_at is_blank word 32 rest (All-from_recursion (λ byte. is_blank byte ≡ false) word (fails_each is_name_byte is_blank no_blank word h.1)) refl)
    ∙ kept_first word (slice_split is_blank rest) h.0

-- a word alone
pub words_last : (word : List ℕ) → is_word word ≡ true → words_of word ≡ word ∷ []
words_last word e =
    let h = both (nat_lt 0 (length word)) (list_all is_name_byte word) e in
    ap kept (slice_split_none is_blank word (All-from_recursion (λ byte. is_blank byte ≡ false) word (fails_each is_name_byte is_blank no_blank word h.1)))
    ∙ kept_first word [] h.0

-- a word, a blank, and what is printed after them
pub words_spaced : (word rest : List ℕ) → is_word word ≡ true → words_of (word ++ codes " " ++ rest) ≡ word ∷ words_of rest
words_spaced word rest e = ap words_of (append_assoc word (codes " ") rest) ∙ words_first word rest e

-- what is printed after a second word, joined to that word
regroup : (a b c : List ℕ) → (a ++ codes " " ++ b) ++ c ≡ a ++ codes " " ++ (b ++ c)
regroup a b c = append_assoc (a ++ codes " ") b c

-- two words, each with a blank after it
pub two_spaced : (a b rest : List ℕ) → is_word a ≡ true → is_word b ≡ true → words_of (a ++ codes " " ++ b ++ codes " " ++ rest) ≡ a ∷ b ∷ words_of rest
two_spaced a b rest one two =
    ap (λ l. words_of (l ++ rest)) (regroup a b (codes " ")) ∙ ap words_of (regroup a (b ++ codes " ") rest)
    ∙ words_spaced a (b ++ codes " " ++ rest) one ∙ ap (λ l. a ∷ l) (words_spaced b rest two)

-- what is printed after four words, put to the right
apart : (a b c d rest : List ℕ) → a ++ codes " " ++ b ++ codes " " ++ c ++ codes " " ++ d ++ codes " " ++ rest ≡ a ++ 32 ∷ (b ++ 32 ∷ (c ++ 32 ∷ (d ++ 32 ∷ rest)))
apart a b c d rest = simp append_assoc

-- four words, each with a blank after it
pub four_spaced : (a b c d rest : List ℕ) → is_word a ≡ true → is_word b ≡ true → is_word c ≡ true → is_word d ≡ true
    → words_of (a ++ codes " " ++ b ++ codes " " ++ c ++ codes " " ++ d ++ codes " " ++ rest) ≡ a ∷ b ∷ c ∷ d ∷ words_of rest
four_spaced a b c d rest one two three four =
    ap words_of (apart a b c d rest)
    ∙ words_first a (b ++ 32 ∷ (c ++ 32 ∷ (d ++ 32 ∷ rest))) one
    ∙ ap (λ l. a ∷ l) (words_first b (c ++ 32 ∷ (d ++ 32 ∷ rest)) two)
    ∙ ap (λ l. a ∷ b ∷ l) (words_first c (d ++ 32 ∷ rest) three)
    ∙ ap (λ l. a ∷ b ∷ c ∷ l) (words_first d rest four)

-- two words that are printed as one
pub word_joined : (a b : List ℕ) → is_word a ≡ true → list_all is_name_byte b ≡ true → is_word (a ++ b) ≡ true
word_joined a b one two =
    let h = both (nat_lt 0 (length a)) (list_all is_name_byte a) one in
    let all : list_all is_name_byte (a ++ b) ≡ true = rw (list_all-append is_name_byte a b, h.1) two in
    let long : nat_lt 0 (length (a ++ b)) ≡ true = grind (arith, nat_tests, length-append a b) in
    rw long all

-- no byte of the word is the separator
abbrev pub lacks : ℕ → List ℕ → Bool
lacks separator word = list_all (λ byte. not (byte == separator)) word

-- the first separator stands where the word ends
first_place : (separator : ℕ) (word rest : List ℕ) → lacks separator word ≡ true → prefix_len (λ byte. not (byte == separator)) (word ++ separator ∷ rest) ≡ length word
first_place separator [] rest e = let same : (separator == separator) ≡ true = grind (arith, nat_tests) in rw same refl
first_place separator (byte ∷ word) rest e =
    let h = both (not (byte == separator)) (lacks separator word) e in
    let past : prefix_len (λ b. not (b == separator)) (byte ∷ (word ++ separator ∷ rest)) ≡ 1 + prefix_len (λ b. not (b == separator)) (word ++ separator ∷ rest) = ap (λ test. cond test (1 + prefix_len (λ b. not (b == separator)) (word ++ separator ∷ rest)) 0) h.0 in
    omega (arith, past, first_place separator word rest h.1)

no_place : (separator : ℕ) (word : List ℕ) → lacks separator word ≡ true → prefix_len (λ byte. not (byte == separator)) word ≡ length word
no_place separator [] e = refl
no_place separator (byte ∷ word) e =
    let h = both (not (byte == separator)) (lacks separator word) e in
    let past : prefix_len (λ b. not (b == separator)) (byte ∷ word) ≡ 1 + prefix_len (λ b. not (b == separator)) word = ap (λ test. cond test (1 + prefix_len (λ b. not (b == separator)) word) 0) h.0 in
    omega (arith, past, no_place separator word h.1)

-- a word is cut off at the separator after it
pub cut_first : (separator : ℕ) (word rest : List ℕ) → lacks separator word ≡ true → cut_at separator (word ++ separator ∷ rest) ≡ Some (word, rest)
cut_first separator word rest e =
    let place = first_place separator word rest e in
    let within : nat_lt (length word) (length (word ++ separator ∷ rest)) ≡ true = grind (arith, nat_tests, length-append word (separator ∷ rest)) in
    let front = take-append_seam word (separator ∷ rest) in
    let back = drop-append-add word (separator ∷ rest) 1 in
    rw (place, within, front, back) refl

-- a word with no separator is not cut
pub cut_none : (separator : ℕ) (word : List ℕ) → lacks separator word ≡ true → cut_at separator word ≡ None
cut_none separator word e =
    let past : nat_lt (length word) (length word) ≡ false = grind (arith, nat_tests) in
    rw (no_place separator word e, past) refl

some_bytes : (byte : ℕ) (more : List ℕ) → nat_lt 0 (length (byte ∷ more)) ≡ true
some_bytes byte more = grind (arith, nat_tests)

-- a piece that has a first byte is kept
pub kept_begun : (byte : ℕ) (more : List ℕ) (pieces : List (List ℕ)) → kept ((byte ∷ more) ∷ pieces) ≡ (byte ∷ more) ∷ kept pieces
kept_begun byte more pieces = kept_first (byte ∷ more) pieces (some_bytes byte more)

-- the word has a first byte
abbrev pub HasFirst : List ℕ → Type 0
HasFirst [] = ⊥
HasFirst (byte ∷ more) = Unit {0}

-- printing characters are a word, where there is a first
pub word_of_bytes : (word : List ℕ) → HasFirst word → list_all is_name_byte word ≡ true → is_word word ≡ true
word_of_bytes [] first e = absurd first
word_of_bytes (byte ∷ more) first e = rw (some_bytes byte more) e

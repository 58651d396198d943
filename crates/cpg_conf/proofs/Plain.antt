-- lines that are spelled just so
use Rattle.std.proofs.Common.{◌≡◌, ◌≢◌, ℕ, suc, ◌-◌, ◌<◌, ◌==◌, List, [], ◌∷◌, length, get_or, take, drop, codes, true, false, nat_lt, Option, None, Some, Ok, refl, sym, ap, ◌∙◌, subst, arith}
use Rattle.std.specs.Prelude.{slice_index, option_map, if◌then◌else◌}
use Rattle.std.proofs.Math.Seq.{take-length}
use Rattle.std.proofs.lemmas.Bool.Decides.{nat_tests}
use Rattle.std.proofs.lemmas.List.Sums.{suffix_len_is}
use Rattle.std.specs.List.{position, suffix_len}
use Rattle.std.specs.Option.{ok_or}
use Rattle.cpg_cred.specs.declared.refusals.Refusal.TheVariants.{BadValue}
use Rattle.cpg_text.specs.Lines.{is_edge, trimmed, trimmed_end, trimmed_front, words_of}
use Rattle.cpg_text.specs.Numbers.{first_number, number_in}
use Rattle.cpg_conf.specs.Lines.{Key, keyed, line_of, opened}
use Rattle.cpg_conf.specs.Names.{User, made, naming_in, naming_of, three, value_on}
use Rattle.cpg_conf.specs.Steps.{BeginsNaming, BeginsUser, EndsWhole}

-- a byte past the space is no edge, so the front stays, also past one space
front_stays : (first : ℕ) (rest : List ℕ) → 32 < first → trimmed_front (first ∷ rest) ≡ first ∷ rest
front_stays first rest past =
    let word : is_edge first ≡ false = grind (arith, nat_tests) in
    let some : nat_lt 0 (suc (length rest)) ≡ true = grind (arith, nat_tests) in
    rw (word, some) refl

front_goes : (first : ℕ) (rest : List ℕ) → 32 < first → trimmed_front (32 ∷ first ∷ rest) ≡ first ∷ rest
front_goes first rest past =
    let word : is_edge first ≡ false = grind (arith, nat_tests) in
    let some : nat_lt 1 (suc (suc (length rest))) ≡ true = grind (arith, nat_tests) in
    rw (word, some) refl

-- so does the end
end_stays : (line : List ℕ) → 0 < length line → 32 < slice_index line (length line - 1) → trimmed_end line ≡ line
end_stays line some past =
    let word : is_edge (get_or line (length line - 1) 0) ≡ false = grind (arith, nat_tests) in
    let none : suffix_len is_edge line ≡ length line - length line = suffix_len_is is_edge line (length line) 0 (omega arith) (λ k from within. absurd (omega (arith, from, within))) (λ _. word) in
    let all : length line - suffix_len is_edge line ≡ length line = omega (arith, none) in
    ap (λ n. take n line) all ∙ take-length line

trimmed_stays : (first : ℕ) (rest : List ℕ) → 32 < first → EndsWhole (first ∷ rest) → trimmed (first ∷ rest) ≡ first ∷ rest
trimmed_stays first rest past (some, last, other) = ap trimmed_end (front_stays first rest past) ∙ end_stays (first ∷ rest) some last

-- the end of what follows is the line's own
ends_later : (byte next : ℕ) (rest : List ℕ) → EndsWhole (byte ∷ next ∷ rest) → EndsWhole (next ∷ rest)
ends_later byte next rest (some, last, other) =
    let at : length (byte ∷ next ∷ rest) - 1 ≡ suc (length rest) = omega arith in
    let later : length (next ∷ rest) - 1 ≡ length rest = omega arith in
    let same : slice_index (byte ∷ next ∷ rest) (length (byte ∷ next ∷ rest) - 1) ≡ slice_index (next ∷ rest) (length (next ∷ rest) - 1) =
    ap (slice_index (byte ∷ next ∷ rest)) at ∙ sym (ap (slice_index (next ∷ rest)) later) in
    (omega arith, subst (λ end. 32 < end) same last, subst (λ end. end ≢ 123) same other)

value_stays : (first : ℕ) (rest : List ℕ) → 32 < first → EndsWhole (first ∷ rest) → trimmed (32 ∷ first ∷ rest) ≡ first ∷ rest
value_stays first rest past (some, last, other) = ap trimmed_end (front_goes first rest past) ∙ end_stays (first ∷ rest) some last

-- no brace ends it
unopened : (line : List ℕ) → slice_index line (length line - 1) ≢ 123 → opened line ≡ []
unopened line other =
    let test : (slice_index line (length line - 1) == 123) ≡ false = grind (arith, nat_tests) in
    rw test refl

key_of : (first : ℕ) (rest : List ℕ) → 32 < first → EndsWhole (first ∷ rest) → EndsWhole (117 ∷ 105 ∷ 100 ∷ 58 ∷ 32 ∷ first ∷ rest)
    → line_of (117 ∷ 105 ∷ 100 ∷ 58 ∷ 32 ∷ first ∷ rest) ≡ Key (codes "uid") (first ∷ rest)
key_of first rest past ends (some_whole, last, other) =
    let line = 117 ∷ 105 ∷ 100 ∷ 58 ∷ 32 ∷ first ∷ rest in
    let some : nat_lt 3 (suc (suc (suc (suc (suc (suc (length rest))))))) ≡ true = grind (arith, nat_tests) in
    let place : position (λ byte. byte == 58) line ≡ Some 3 = rw some refl in
    ap (λ name. if nat_lt 0 (length name) then Rattle.cpg_conf.specs.Lines.Open name else keyed line (position (λ byte. byte == 58) line)) (unopened line other)
    ∙ ap (keyed line) place
    ∙ ap (Key (codes "uid")) (value_stays first rest past ends)

key_at : (first : ℕ) (rest : List ℕ) → 32 < first → EndsWhole (117 ∷ 105 ∷ 100 ∷ 58 ∷ 32 ∷ first ∷ rest)
    → line_of (trimmed (117 ∷ 105 ∷ 100 ∷ 58 ∷ 32 ∷ first ∷ rest)) ≡ Key (codes "uid") (take (length (117 ∷ 105 ∷ 100 ∷ 58 ∷ 32 ∷ first ∷ rest) - 5) (first ∷ rest))
key_at first rest past whole =
    let ends = ends_later 32 first rest (ends_later 58 32 (first ∷ rest) (ends_later 100 58 (32 ∷ first ∷ rest) (ends_later 105 100 (58 ∷ 32 ∷ first ∷ rest) (ends_later 117 105 (100 ∷ 58 ∷ 32 ∷ first ∷ rest) whole)))) in
    let all : length (117 ∷ 105 ∷ 100 ∷ 58 ∷ 32 ∷ first ∷ rest) - 5 ≡ length (first ∷ rest) = omega arith in
    ap line_of (trimmed_stays 117 (105 ∷ 100 ∷ 58 ∷ 32 ∷ first ∷ rest) (omega arith) whole)
    ∙ key_of first rest past ends whole
    ∙ ap (Key (codes "uid")) (sym (ap (λ n. take n (first ∷ rest)) all ∙ take-length (first ∷ rest)))

pub plain_key : (line : List ℕ) → BeginsUser line → EndsWhole line → line_of (trimmed line) ≡ Key (codes "uid") (take (length line - 5) (drop 5 line))
plain_key (a ∷ b ∷ c ∷ d ∷ e ∷ first ∷ rest) (ea, eb, ec, ed, ee, past) whole =
    let same : 117 ∷ 105 ∷ 100 ∷ 58 ∷ 32 ∷ first ∷ rest ≡ a ∷ b ∷ c ∷ d ∷ e ∷ first ∷ rest = rw (ea, eb, ec, ed, ee) refl in
    subst (λ line. EndsWhole line → line_of (trimmed line) ≡ Key (codes "uid") (take (length line - 5) (drop 5 line))) same (key_at first rest past) whole
plain_key [] begins whole = elim begins [ ]
plain_key (a ∷ []) begins whole = elim begins [ ]
plain_key (a ∷ b ∷ []) begins whole = elim begins [ ]
plain_key (a ∷ b ∷ c ∷ []) begins whole = elim begins [ ]
plain_key (a ∷ b ∷ c ∷ d ∷ []) begins whole = elim begins [ ]
plain_key (a ∷ b ∷ c ∷ d ∷ e ∷ []) begins whole = elim begins [ ]

-- a name and a number say a user's number
said : (line number : ℕ) (name word : List ℕ) (rest : List (List ℕ)) (found : Option ℕ) → number_in 0 4294967295 word ≡ found
    → option_map {U = ℕ × List (List ℕ)} (λ n. (n, rest)) found ≡ Some (number, []) → (value_on line word ≡ Ok number) × (rest ≡ [])
said line number name word rest None e same = absurd (cc)
said line number name word rest (Some n) e same =
    let both : (n, rest) ≡ (number, []) = ap (λ o. option_or o (n, rest)) same in
    (ap (λ f. ok_or f (BadValue line)) e ∙ ap (λ p. Ok p.0) both, ap (λ p. p.1) both)
  where
    option_or : Option (ℕ × List (List ℕ)) → ℕ × List (List ℕ) → ℕ × List (List ℕ)
    option_or None other = other
    option_or (Some pair) other = pair

pub named : (line number : ℕ) (name : List ℕ) (words : List (List ℕ)) → first_number words ≡ Some (number, [])
    → naming_in line (three (codes "user" ∷ name ∷ words)) ≡ Ok (User name number)
named line number name [] e = absurd (cc)
named line number name (word ∷ rest) e =
    let (value, last) = said line number name word rest (number_in 0 4294967295 word) refl e in
    ap (λ more. naming_in line (three (codes "user" ∷ name ∷ word ∷ more))) last ∙ ap (made (User name)) value

naming_at : (number : ℕ) (rest : List ℕ) → EndsWhole (117 ∷ 115 ∷ 101 ∷ 114 ∷ 32 ∷ rest)
    → naming_of number (trimmed (117 ∷ 115 ∷ 101 ∷ 114 ∷ 32 ∷ rest)) ≡ naming_in number (three (codes "user" ∷ words_of (take (length (117 ∷ 115 ∷ 101 ∷ 114 ∷ 32 ∷ rest) - 5) rest)))
naming_at number rest whole =
    let all : length (117 ∷ 115 ∷ 101 ∷ 114 ∷ 32 ∷ rest) - 5 ≡ length rest = omega arith in
    ap (naming_of number) (trimmed_stays 117 (115 ∷ 101 ∷ 114 ∷ 32 ∷ rest) (omega arith) whole)
    ∙ ap (λ more. naming_in number (three (codes "user" ∷ words_of more))) (sym (ap (λ n. take n rest) all ∙ take-length rest))

pub plain_naming : (number : ℕ) (line : List ℕ) → BeginsNaming line → EndsWhole line
    → naming_of number (trimmed line) ≡ naming_in number (three (codes "user" ∷ words_of (take (length line - 5) (drop 5 line))))
plain_naming number (a ∷ b ∷ c ∷ d ∷ e ∷ rest) (ea, eb, ec, ed, ee) whole =
    let same : 117 ∷ 115 ∷ 101 ∷ 114 ∷ 32 ∷ rest ≡ a ∷ b ∷ c ∷ d ∷ e ∷ rest = rw (ea, eb, ec, ed, ee) refl in
    subst (λ line. EndsWhole line → naming_of number (trimmed line) ≡ naming_in number (three (codes "user" ∷ words_of (take (length line - 5) (drop 5 line))))) same (naming_at number rest) whole
plain_naming number [] begins whole = elim begins [ ]
plain_naming number (a ∷ []) begins whole = elim begins [ ]
plain_naming number (a ∷ b ∷ []) begins whole = elim begins [ ]
plain_naming number (a ∷ b ∷ c ∷ []) begins whole = elim begins [ ]
plain_naming number (a ∷ b ∷ c ∷ d ∷ []) begins whole = elim begins [ ]

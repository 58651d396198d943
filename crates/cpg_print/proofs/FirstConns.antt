-- a connection at the front of a line, read number by number
use Rattle.std.proofs.Common.{◌≡◌, ℕ, suc, ◌+◌, ◌-◌, ◌<◌, ◌≤◌, List, [], ◌∷◌, ◌++◌, length, take, drop, get_or, Bool, true, false, ◌&&◌, not, nat_le, nat_lt, if◌then◌else◌, Option, Some, None, option_map, refl, sym, ap, ◌∙◌, arith}
use Rattle.std.proofs.lemmas.Bool.Decides.{nat_tests}
use Rattle.std.proofs.lemmas.List.{take_all, take-append-drop, length-drop, length-take}
use Rattle.std.proofs.lemmas.List.Splits.{slice_split-cons_no, length-slice_split}
use Rattle.std.proofs.Math.Seq.{drop-cons}
use Rattle.std.proofs.Math.Numerals.{suc-eq-add-one}
use Rattle.std.specs.Char.{is_ascii_digit}
use Rattle.std.specs.Prelude.{◌==◌}
use Rattle.std.specs.List.{list_all, onto_first, slice_split}
use Rattle.cpg_cred.specs.declared.nodes.TheConstants.{MOST_NODES}
use Rattle.cpg_entry.specs.declared.ranges.TheConstants.{MOST_CONNECTIONS}
use Rattle.cpg_record.specs.declared.connections.ConnId.{ConnId}
use Rattle.cpg_text.specs.Lines.{is_blank, words_of}
use Rattle.cpg_text.specs.Numbers.{is_number, value_of, number_in, first_number}
use Rattle.cpg_text.specs.Words.{◌>>=◌}
use Rattle.cpg_print.specs.Entries.{conn_in_limits, conn_in_parts, conn_of_word, first_conn}
use Rattle.cpg_print.proofs.Spacing.{both, cut_first, kept, kept_begun, passes_also}

digit_is_no_blank : (byte : ℕ) → is_ascii_digit byte ≡ true → is_blank byte ≡ false
digit_is_no_blank byte e = grind (arith, nat_tests)

-- digits in front of a piece belong to it
digits_onto : (digits rest piece : List ℕ) (pieces : List (List ℕ)) → list_all is_ascii_digit digits ≡ true → slice_split is_blank rest ≡ piece ∷ pieces
    → slice_split is_blank (digits ++ rest) ≡ (digits ++ piece) ∷ pieces
digits_onto [] rest piece pieces digits e = e
digits_onto (byte ∷ more) rest piece pieces digits e =
    let tests = both (is_ascii_digit byte) (list_all is_ascii_digit more) digits in
    slice_split-cons_no is_blank byte (more ++ rest) (digit_is_no_blank byte tests.0) ∙ ap (onto_first byte) (digits_onto more rest piece pieces tests.1 e)

-- a first word of digits, a dot and what begins with a digit
first_dotted : (node : ℕ) (nodes : List ℕ) (digit : ℕ) (rest piece : List ℕ) (pieces : List (List ℕ)) → list_all is_ascii_digit (node ∷ nodes) ≡ true → is_ascii_digit digit ≡ true
    → slice_split is_blank rest ≡ piece ∷ pieces
    → (words_of (digit ∷ rest) ≡ (digit ∷ piece) ∷ kept pieces) × (words_of (node ∷ nodes ++ 46 ∷ digit ∷ rest) ≡ (node ∷ nodes ++ 46 ∷ digit ∷ piece) ∷ kept pieces)
first_dotted node nodes digit rest piece pieces digits is e =
    let one : slice_split is_blank (digit ∷ rest) ≡ (digit ∷ piece) ∷ pieces =
    slice_split-cons_no is_blank digit rest (digit_is_no_blank digit is) ∙ ap (onto_first digit) e in
    let dot : slice_split is_blank (46 ∷ digit ∷ rest) ≡ (46 ∷ digit ∷ piece) ∷ pieces =
    slice_split-cons_no is_blank 46 (digit ∷ rest) refl ∙ ap (onto_first 46) one in
    let all = digits_onto (node ∷ nodes) (46 ∷ digit ∷ rest) (46 ∷ digit ∷ piece) pieces digits dot in
    (ap kept one ∙ kept_begun digit piece pieces, ap kept all ∙ kept_begun node (nodes ++ 46 ∷ digit ∷ piece) pieces)

-- a number within narrower limits
abbrev pub within : ℕ → ℕ → Option ℕ
within most n = if nat_le 1 n && nat_le n most then Some n else None

narrowed : (most : ℕ) (word : List ℕ) → most ≤ 4294967295 → number_in 1 most word ≡ (number_in 0 4294967295 word >>= within most)
narrowed most word small = by_tests (is_number word) (nat_le 1 (value_of word)) (nat_le (value_of word) most) refl refl refl
  where
    by_tests : (is least fits : Bool) → is_number word ≡ is → nat_le 1 (value_of word) ≡ least → nat_le (value_of word) most ≡ fits
        → number_in 1 most word ≡ (number_in 0 4294967295 word >>= within most)
    by_tests false least fits i l f = rw i refl
    by_tests true least true i l f =
        let low : nat_le 0 (value_of word) ≡ true = grind (arith, nat_tests) in
        let high : nat_le (value_of word) 4294967295 ≡ true = grind (arith, nat_tests) in
        rw (i, low, high, l, f) refl
    by_tests true true false i l f = by_high (nat_le (value_of word) 4294967295) refl
      where
        by_high : (high : Bool) → nat_le (value_of word) 4294967295 ≡ high → number_in 1 most word ≡ (number_in 0 4294967295 word >>= within most)
        by_high false h = let low : nat_le 0 (value_of word) ≡ true = grind (arith, nat_tests) in rw (i, low, h, l, f) refl
        by_high true h = let low : nat_le 0 (value_of word) ≡ true = grind (arith, nat_tests) in rw (i, low, h, l, f) refl
    by_tests true false fits i l f = by_high (nat_le (value_of word) 4294967295) refl
      where
        by_high : (high : Bool) → nat_le (value_of word) 4294967295 ≡ high → number_in 1 most word ≡ (number_in 0 4294967295 word >>= within most)
        by_high false h = let low : nat_le 0 (value_of word) ≡ true = grind (arith, nat_tests) in rw (i, low, h, l) refl
        by_high true h = let low : nat_le 0 (value_of word) ≡ true = grind (arith, nat_tests) in rw (i, low, h, l) refl

abbrev joined : ℕ → ℕ → ConnId
joined node conn = record { node = node; conn = conn }

-- both numbers are tested, in either order
by_test : (node conn : ℕ) (fits : Bool)
    → ((if fits then Some conn else None) >>= λ c. Some (joined node c)) ≡ (if fits then Some (joined node conn) else None)
by_test node conn false = refl
by_test node conn true = refl

by_parts : (node : ℕ) (fits : Bool) (o : Option ℕ)
    → ((if fits then Some node else None) >>= λ n. (o >>= within MOST_CONNECTIONS) >>= λ c. Some (joined n c))
    ≡ (o >>= λ c. if fits && (nat_le 1 c && nat_le c MOST_CONNECTIONS) then Some (joined node c) else None)
by_parts node false None = refl
by_parts node false (Some conn) = refl
by_parts node true None = refl
by_parts node true (Some conn) = by_test node conn (nat_le 1 conn && nat_le conn MOST_CONNECTIONS)

digit_is_no_dot : (byte : ℕ) → is_ascii_digit byte ≡ true → not (byte == 46) ≡ true
digit_is_no_dot byte e = grind (arith, nat_tests)

-- the connection of digits, a dot and what follows
conn_of_digits : (digits word : List ℕ) → 0 < length digits → list_all is_ascii_digit digits ≡ true
    → conn_of_word (digits ++ 46 ∷ word) ≡ (number_in 0 4294967295 word >>= λ conn. conn_in_limits (value_of digits) conn)
conn_of_digits digits word some all =
    let one : nat_lt 0 (length digits) ≡ true = grind (arith, nat_tests) in
    ap (λ parts. parts >>= conn_in_parts) (cut_first 46 digits word (passes_also is_ascii_digit (λ byte. not (byte == 46)) digit_is_no_dot digits all))
    ∙ rw (one, all, narrowed MOST_CONNECTIONS word (omega arith))
    (by_parts (value_of digits) (nat_le 1 (value_of digits) && nat_le (value_of digits) MOST_NODES) (number_in 0 4294967295 word))

-- the connection of a number, where it is one, and the words after it
abbrev pub conn_after : ℕ → ℕ × List (List ℕ) → Option (ConnId × List (List ℕ))
conn_after node found = option_map (λ conn. (conn, found.1)) (conn_in_limits node found.0)

found_after : (node : ℕ) (words : List (List ℕ)) (o : Option ℕ)
    → option_map (λ conn. (conn, words)) (o >>= λ conn. conn_in_limits node conn) ≡ (option_map (λ number. (number, words)) o >>= conn_after node)
found_after node words None = refl
found_after node words (Some conn) = refl

-- the first connection of digits, a dot and what begins with a digit
conn_dotted : (digits : List ℕ) (digit : ℕ) (rest : List ℕ) (pieces : List (List ℕ)) → 0 < length digits → list_all is_ascii_digit digits ≡ true → is_ascii_digit digit ≡ true
    → slice_split is_blank rest ≡ pieces
    → first_conn (words_of (digits ++ 46 ∷ digit ∷ rest)) ≡ (first_number (words_of (digit ∷ rest)) >>= conn_after (value_of digits))
conn_dotted digits digit rest [] some all is e = absurd (omega (arith, length-slice_split is_blank rest, ap length e))
conn_dotted [] digit rest (piece ∷ pieces) some all is e = absurd (omega arith)
conn_dotted (node ∷ nodes) digit rest (piece ∷ pieces) some all is e =
    let words = first_dotted node nodes digit rest piece pieces all is e in
    ap first_conn words.1
    ∙ ap (option_map (λ conn. (conn, kept pieces))) (conn_of_digits (node ∷ nodes) (digit ∷ piece) some all)
    ∙ found_after (value_of (node ∷ nodes)) (kept pieces) (number_in 0 4294967295 (digit ∷ piece))
    ∙ ap (λ left. first_number left >>= conn_after (value_of (node ∷ nodes))) (sym words.0)

-- the first connection of a line that begins so
pub conn_there : (line : List ℕ) (node dot : ℕ) → 0 < dot → dot + 1 < length line → list_all is_ascii_digit (take dot line) ≡ true → node ≡ value_of (take dot line)
    → get_or line dot 0 ≡ 46 → is_ascii_digit (get_or line (dot + 1) 0) ≡ true
    → first_conn (words_of line) ≡ (first_number (words_of (take (length line - (dot + 1)) (drop (dot + 1) line))) >>= conn_after node)
conn_there line node dot some more all value is digit =
    let byte = get_or line (dot + 1) 0 in
    let rest = drop (suc (dot + 1)) line in
    let digits = take dot line in
    let back : drop (dot + 1) line ≡ byte ∷ rest = drop-cons line (dot + 1) 0 more in
    let behind : drop dot line ≡ 46 ∷ drop (dot + 1) line =
    drop-cons line dot 0 (omega (arith, more)) ∙ ap (λ b. b ∷ drop (suc dot) line) is ∙ ap (λ k. 46 ∷ drop k line) (suc-eq-add-one dot) in
    let whole : line ≡ digits ++ 46 ∷ byte ∷ rest = sym (take-append-drop dot line) ∙ ap (λ r. digits ++ r) (behind ∙ ap (λ r. 46 ∷ r) back) in
    let left : take (length line - (dot + 1)) (drop (dot + 1) line) ≡ byte ∷ rest =
    take_all (length line - (dot + 1)) (drop (dot + 1) line) (omega (arith, length-drop (dot + 1) line)) ∙ back in
    ap (λ l. first_conn (words_of l)) whole
    ∙ conn_dotted digits byte rest (slice_split is_blank rest) (omega (arith, some, more, length-take dot line)) all digit refl
    ∙ ap (λ n. first_number (words_of (byte ∷ rest)) >>= conn_after n) (sym value)
    ∙ ap (λ l. first_number (words_of l) >>= conn_after node) (sym left)

-- what there is then
pub after_none : (node : ℕ) (left : List (List ℕ)) (first : Option (ConnId × List (List ℕ))) → first ≡ (first_number left >>= conn_after node) → None ≡ first_number left
    → None ≡ first
after_none node left first there e = sym (there ∙ rw (← e) refl)

pub after_limits : (node number : ℕ) (left words : List (List ℕ)) (first : Option (ConnId × List (List ℕ))) → first ≡ (first_number left >>= conn_after node)
    → Some (number, words) ≡ first_number left → None ≡ conn_in_limits node number → None ≡ first
after_limits node number left words first there e limits = sym (there ∙ ap (λ o. o >>= conn_after node) (sym e) ∙ ap (option_map (λ conn. (conn, words))) (sym limits))

pub after_conn : (node number : ℕ) (left words : List (List ℕ)) (first : Option (ConnId × List (List ℕ))) (conn : ConnId) → first ≡ (first_number left >>= conn_after node)
    → Some (number, words) ≡ first_number left → Some conn ≡ conn_in_limits node number → Some (conn, words) ≡ first
after_conn node number left words first conn there e limits = sym (there ∙ ap (λ o. o >>= conn_after node) (sym e) ∙ ap (option_map (λ conn. (conn, words))) (sym limits))

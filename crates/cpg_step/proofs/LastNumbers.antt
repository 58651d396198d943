-- numbers that are read while their ends are looked for
use Rattle.std.proofs.Common.{◌≡◌, ℕ, ◌-◌, ◌<◌, ◌≤◌, List, [], ◌∷◌, length, take, drop, get_or, Bool, true, false, ◌&&◌, Option, Some, None, refl, sym, ap, ◌∙◌, arith}
use Rattle.std.proofs.lemmas.Bool.Decides.{nat_tests}
use Rattle.std.proofs.lemmas.List.{length-take-le}
use Rattle.std.specs.Char.{is_ascii_digit}
use Rattle.std.specs.List.{list_all}
use Rattle.std.specs.Prelude.{codes, nat_le, if◌then◌else◌, option_map}
use Rattle.std.specs.Option.{unwrap_or}
use Rattle.cpg_cred.specs.declared.nodes.TheConstants.{MOST_NODES}
use Rattle.cpg_entry.specs.declared.ranges.TheConstants.{MOST_CONNECTIONS}
use Rattle.cpg_text.specs.Words.{◌>>=◌}
use Rattle.cpg_text.specs.Lines.{is_blank, words_of}
use Rattle.cpg_text.specs.Numbers.{first_number, is_number, number_in, value_of}
use Rattle.cpg_text.proofs.FirstNumbers.{number_at_end, number_before_blank}
use Rattle.cpg_world_laws.specs.declared.events.WorldEvent.{WorldEvent}
use Rattle.cpg_world_laws.specs.declared.events.WorldEvent.TheVariants.{Deliver, Frame, Take}
use Rattle.cpg_step.specs.declared.commands.Command.TheVariants.{Act}
use Rattle.cpg_step.specs.Commands.{act_or_look, command_of, conn_of, frame_of, in_ring, node_alone, node_and_conn, u64_of}
use Rattle.cpg_step.specs.Steps.{at_numbered, between, node_numbered, two_numbers}
use Rattle.cpg_step.proofs.Beginnings.{found, more_left, taken_both, widen}

-- a word that writes a number of 32 bits writes it in each range of them that has it
narrowed : (low high : ℕ) (word : List ℕ) (number : ℕ) → number_in 0 4294967295 word ≡ Some number → high ≤ 4294967295
    → number_in low high word ≡ between low high number
narrowed low high word number is most = by_case (is_number word) (value_of word) is
  where
    same : (fits : Bool) (value : ℕ) → (if fits then Some value else None) ≡ Some number → value ≡ number
    same true value e = ap (λ o. unwrap_or o value) e
    same false value e = cc

    by_case : (digits : Bool) (value : ℕ) → (if digits && nat_le 0 value && nat_le value 4294967295 then Some value else None) ≡ Some number
        → (if digits && nat_le low value && nat_le value high then Some value else None) ≡ between low high number
    by_case false value e = cc
    by_case true value e = ap (between low high) (same (nat_le 0 value && nat_le value 4294967295) value e)

-- a number that ends a line is the node of it
alone_numbered : (nodes : ℕ) (words : List (List ℕ)) (number : ℕ) → first_number words ≡ found number [] → node_alone nodes words ≡ node_numbered nodes number
alone_numbered nodes [] number e = cc
alone_numbered nodes (a ∷ []) number e =
    ap (λ o. o >>= in_ring nodes) (narrowed 1 MOST_NODES a number (taken_both [] [] number (number_in 0 4294967295 a) e).0 (omega arith))
alone_numbered nodes (a ∷ b ∷ more) number e = absurd (more_left b more number (number_in 0 4294967295 a) e)

-- no digit is a blank, and each is a small number
no_blank : (digit : ℕ) → is_ascii_digit digit ≡ true → is_blank digit ≡ false
no_blank digit is = grind (arith, nat_tests)

small_digit : (digit : ℕ) → is_ascii_digit digit ≡ true → digit - 48 < 1000000000
small_digit digit is = let most : digit ≤ 57 = grind (arith, nat_tests) in omega (arith, most)

abbrev pair : ℕ → ℕ → Option (ℕ × ℕ)
pair n m = Some (n, m)

-- two numbers, one after the other, are all there is
numbers_two : (words after : List (List ℕ)) (n m : ℕ) → first_number words ≡ found n after → first_number after ≡ found m [] → two_numbers words ≡ Some (n, m)
numbers_two [] after n m first second = cc
numbers_two (a ∷ words) after n m first second =
    let is = taken_both words after n (number_in 0 4294967295 a) first in
    by_rest words is.0 (ap first_number is.1 ∙ second)
  where
    by_rest : (rest : List (List ℕ)) → number_in 0 4294967295 a ≡ Some n → first_number rest ≡ found m [] → two_numbers (a ∷ rest) ≡ Some (n, m)
    by_rest [] one e = cc
    by_rest (b ∷ []) one e =
        ap (λ (o : Option ℕ). o >>= λ i. number_in 0 4294967295 b >>= λ j. Some (i, j)) one
        ∙ ap (λ (o : Option ℕ). o >>= λ j. Some (n, j)) (taken_both [] [] m (number_in 0 4294967295 b) e).0
    by_rest (b ∷ c ∷ more) one e = absurd (more_left c more m (number_in 0 4294967295 b) e)

-- and each is what was read
the_two : (first second : Option ℕ) (n m : ℕ) → (first >>= λ i. second >>= λ j. pair i j) ≡ Some (n, m) → (first ≡ Some n) × (second ≡ Some m)
the_two None second n m e = absurd (cc)
the_two (Some i) None n m e = absurd (cc)
the_two (Some i) (Some j) n m e = (ap (λ (o : Option (ℕ × ℕ)). Some (unwrap_or o (i, j)).0) e, ap (λ (o : Option (ℕ × ℕ)). Some (unwrap_or o (i, j)).1) e)

-- two numbers are the node and the connection
at_two : (nodes : ℕ) (words : List (List ℕ)) (n m : ℕ) → two_numbers words ≡ Some (n, m) → node_and_conn nodes words ≡ at_numbered nodes n m
at_two nodes [] n m e = cc
at_two nodes (a ∷ []) n m e = cc
at_two nodes (a ∷ b ∷ []) n m e =
    let is = the_two (number_in 0 4294967295 a) (number_in 0 4294967295 b) n m e in
    ap (λ (o : Option ℕ). o >>= in_ring nodes >>= λ i. conn_of b >>= λ j. pair i j) (narrowed 1 MOST_NODES a n is.0 (omega arith))
    ∙ ap (λ (o : Option ℕ). node_numbered nodes n >>= λ i. o >>= λ j. pair i j) (narrowed 1 MOST_CONNECTIONS b m is.1 (omega arith))
at_two nodes (a ∷ b ∷ c ∷ more) n m e = cc

-- and the node and the number of a frame
abbrev framed : ℕ → ℕ → Option WorldEvent
framed n k = Some (Frame n k)

frame_two : (nodes : ℕ) (words : List (List ℕ)) (n k : ℕ) → two_numbers words ≡ Some (n, k) → frame_of nodes words ≡ (node_numbered nodes n >>= λ i. Some (Frame i k))
frame_two nodes [] n k e = cc
frame_two nodes (a ∷ []) n k e = cc
frame_two nodes (a ∷ b ∷ []) n k e =
    let is = the_two (number_in 0 4294967295 a) (number_in 0 4294967295 b) n k e in
    ap (λ (o : Option ℕ). o >>= in_ring nodes >>= λ i. u64_of b >>= λ j. framed i j) (narrowed 1 MOST_NODES a n is.0 (omega arith))
    ∙ ap (λ (o : Option ℕ). node_numbered nodes n >>= λ i. o >>= λ j. framed i j) (widen (is_number b) (value_of b) k is.1)
frame_two nodes (a ∷ b ∷ c ∷ more) n k e = cc

-- a digit is the number of its word
digit_alone : (digit : ℕ) → is_ascii_digit digit ≡ true → first_number (words_of (digit ∷ [])) ≡ found (digit - 48) []
digit_alone digit is =
    sym (number_at_end (digit ∷ []) (digit - 48) 1 (omega arith) refl (rw (is) refl) (omega arith) (small_digit digit is))

-- a digit alone is the node of it
digit_node : (nodes digit : ℕ) → is_ascii_digit digit ≡ true → node_alone nodes (words_of (digit ∷ [])) ≡ node_numbered nodes (digit - 48)
digit_node nodes digit is = alone_numbered nodes (words_of (digit ∷ [])) (digit - 48) (digit_alone digit is)

-- what follows a digit and a blank
abbrev pub behind_two : List ℕ → List ℕ
behind_two line = take (length line - 2) (drop 2 line)

-- a digit, a blank and digits are two numbers
pub digit_and_digits : (line : List ℕ) (second end : ℕ) → 2 < length line → is_ascii_digit (get_or line 0 0) ≡ true → get_or line 1 0 ≡ 32
    → end ≡ length line - 2 → end ≤ length (behind_two line) → list_all is_ascii_digit (take end (behind_two line)) ≡ true → second ≡ value_of (take end (behind_two line)) → second < 1000000000
    → two_numbers (words_of line) ≡ Some (get_or line 0 0 - 48, second)
digit_and_digits [] second end long is blank at within all value small = absurd (omega (arith, long))
digit_and_digits (digit ∷ []) second end long is blank at within all value small = absurd (omega (arith, long))
digit_and_digits (digit ∷ byte ∷ more) second end long is blank at within all value small =
    let tail = behind_two (digit ∷ byte ∷ more) in
    let less : length tail ≡ length (digit ∷ byte ∷ more) - 2 = length-take-le (length (digit ∷ byte ∷ more) - 2) more (omega arith) in
    numbers_two (words_of (digit ∷ byte ∷ more)) (words_of tail) (digit - 48) second
    (sym (number_before_blank (digit ∷ byte ∷ more) (digit - 48) 1 (no_blank digit is) (omega (arith, long)) (rw (is) refl) (omega arith) (small_digit digit is) (ap is_blank blank)))
    (sym (number_at_end tail second end (omega (arith, at, long)) (omega (arith, at, within, less)) all value small))

-- ---- commands that are written as they are printed

pub plain_deliver : (nodes digit node : ℕ) → is_ascii_digit digit ≡ true → node_numbered nodes (digit - 48) ≡ Some node
    → command_of nodes (codes "deliver" ∷ words_of (digit ∷ [])) ≡ Some (Act (Deliver node))
plain_deliver nodes digit node is at = ap (λ (o : Option ℕ). act_or_look (option_map (λ n. Deliver n) o) None) (digit_node nodes digit is ∙ at)

pub plain_frame : (nodes : ℕ) (words : List (List ℕ)) (n k node : ℕ) → two_numbers words ≡ Some (n, k) → node_numbered nodes n ≡ Some node
    → command_of nodes (codes "frame" ∷ words) ≡ Some (Act (Frame node k))
plain_frame nodes words n k node two at = ap (λ (o : Option WorldEvent). act_or_look o None) (frame_two nodes words n k two ∙ ap (λ (o : Option ℕ). o >>= λ i. framed i k) at)

pub plain_take : (nodes : ℕ) (words : List (List ℕ)) (n m node conn : ℕ) → two_numbers words ≡ Some (n, m) → at_numbered nodes n m ≡ Some (node, conn)
    → command_of nodes (codes "take" ∷ words) ≡ Some (Act (Take node conn))
plain_take nodes words n m node conn two at =
    ap (λ (o : Option (ℕ × ℕ)). act_or_look (option_map (λ at. Take at.0 at.1) o) None) (at_two nodes words n m two ∙ at)

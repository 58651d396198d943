-- how deep the lines of a text can stand, and what one line more does
use Rattle.std.proofs.Common.{◌≡◌, ℕ, ◌+◌, ◌≤◌, List, [], ◌∷◌, ◌++◌, length, length-append, Bool, true, false, cond, Result, Ok, Err, refl, sym, ap, ◌∙◌, append_assoc, arith}
use Rattle.std.specs.List.{concat, onto_first}
use Rattle.std.specs.Result.{result_err}
use Rattle.cpg_cred.specs.Listed.{Listed}
use Rattle.cpg_cred.specs.declared.refusals.Refusal.{Refusal}
use Rattle.cpg_text.specs.Lines.{trimmed, lines_of, is_line_feed}
use Rattle.cpg_conf.specs.Lines.{Line, Ignored, Close, Open, Key, Bad, line_of}
use Rattle.cpg_conf.specs.Listed.{nothing, joined, and_then}
use Rattle.cpg_conf.specs.Names.{Known, next_number}
use Rattle.cpg_conf.specs.Steps.{nesting_after, said_at, said_from, shapes}
use Rattle.cpg_conf.specs.declared.nesting.Nesting.{Nesting}

-- a byte more in the first line
onto_longer : (byte : ℕ) (lines : List (List ℕ)) → length (concat (onto_first byte lines)) ≤ length (concat lines) + 1
onto_longer byte [] = omega arith
onto_longer byte (line ∷ lines) = omega (arith)

-- the lines have no more bytes than the text
pub lines_fit : (text : List ℕ) → length (concat (lines_of text)) ≤ length text
lines_fit [] = omega arith
lines_fit (byte ∷ text) = by (is_line_feed byte) (lines_fit text)
  where
    by : (test : Bool) → length (concat (lines_of text)) ≤ length text
        → length (concat (cond test ([] ∷ lines_of text) (onto_first byte (lines_of text)))) ≤ length (byte ∷ text)
    by true rest = omega (arith, rest)
    by false rest = omega (arith, rest, onto_longer byte (lines_of text))

-- a line leads at most one deeper
one_deeper : (nesting : Nesting) (line : Line) → (nesting_after nesting line).depth ≤ nesting.depth + 1
one_deeper nesting Ignored = omega arith
one_deeper nesting Close = omega arith
one_deeper nesting (Open name) = omega arith
one_deeper nesting (Key key value) = omega arith
one_deeper nesting Bad = omega arith

-- and an empty one not at all
rises_by_bytes : (nesting : Nesting) (line : List ℕ) → (nesting_after nesting (line_of (trimmed line))).depth ≤ nesting.depth + length line
rises_by_bytes nesting [] = omega arith
rises_by_bytes nesting (byte ∷ line) = omega (arith, one_deeper nesting (line_of (trimmed (byte ∷ line))))

pub shallow_past : (nesting : Nesting) (line : List ℕ) (rest : List (List ℕ)) (most : ℕ) → nesting.depth + length (concat (line ∷ rest)) ≤ most
    → (nesting_after nesting (line_of (trimmed line))).depth + length (concat rest) ≤ most
shallow_past nesting line rest most shallow = omega (arith, shallow, length-append line (concat rest), rises_by_bytes nesting line)

-- past a line without a fault the fault is that of the lines after it
fault_later : (list : Listed) (later : Result Listed Refusal) → result_err (and_then (Ok list) later) ≡ result_err later
fault_later list (Ok more) = refl
fault_later list (Err fault) = refl

pub fault_past : (names : Known) (nesting : Nesting) (number : ℕ) (line : List ℕ) (rest : List (List ℕ)) (list : Listed)
    → said_at names nesting number (line_of (trimmed line)) ≡ Ok list
    → result_err (said_from names nesting number (shapes (line ∷ rest))) ≡ result_err (said_from names (nesting_after nesting (line_of (trimmed line))) (next_number number) (shapes rest))
fault_past names nesting number line rest list e =
    let later = said_from names (nesting_after nesting (line_of (trimmed line))) (next_number number) (shapes rest) in
    ap (λ said. result_err (and_then said later)) e ∙ fault_later list later

-- and what was listed grows by what the lines after it list
joined_later : (list more : Listed) (later : Result Listed Refusal) → and_then (Ok list) (and_then (Ok more) later) ≡ and_then (Ok (joined list more)) later
joined_later list more (Ok last) =
    ap (λ users. Ok (record { users = users; groups = list.groups ++ (more.groups ++ last.groups) })) (sym (append_assoc list.users more.users last.users))
    ∙ ap (λ groups. Ok (record { users = (list.users ++ more.users) ++ last.users; groups = groups })) (sym (append_assoc list.groups more.groups last.groups))
joined_later list more (Err fault) = refl

pub listed_past : (names : Known) (nesting : Nesting) (number : ℕ) (line : List ℕ) (rest : List (List ℕ)) (list more : Listed)
    → said_at names nesting number (line_of (trimmed line)) ≡ Ok more
    → and_then (Ok list) (said_from names nesting number (shapes (line ∷ rest)))
    ≡ and_then (Ok (joined list more)) (said_from names (nesting_after nesting (line_of (trimmed line))) (next_number number) (shapes rest))
listed_past names nesting number line rest list more e =
    let later = said_from names (nesting_after nesting (line_of (trimmed line))) (next_number number) (shapes rest) in
    ap (λ said. and_then (Ok list) (and_then said later)) e ∙ joined_later list more later

-- nothing, and then more
pub nothing_first : (later : Result Listed Refusal) → later ≡ and_then (Ok nothing) later
nothing_first (Ok more) = refl
nothing_first (Err fault) = refl

-- at the outset
pub shallow_first : (text : List ℕ) (nesting : Nesting) (lines : List (List ℕ)) → nesting.depth ≡ 0 → lines ≡ lines_of text
    → nesting.depth + length (concat lines) ≤ length text
shallow_first text nesting lines outside whole = omega (arith, outside, lines_fit text, ap (λ each. length (concat each)) whole)

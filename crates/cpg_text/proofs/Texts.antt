use Rattle.std.proofs.Common.{◌≡◌, ℕ, ◌+◌, ◌-◌, ◌<◌, ◌≤◌, List, [], ◌∷◌, ◌++◌, length, take, drop, Bool, false, Option, Some, None, refl, ap, append_assoc, ◌∙◌, length-append, arith}
use Rattle.std.proofs.lemmas.Bool.Decides.{nat_tests}
use Rattle.std.proofs.lemmas.List.Splits.{slice_split_first, slice_split_none}
use Rattle.std.proofs.lemmas.List.{take_all, length-drop}
use Rattle.std.proofs.lemmas.List.Elements.{All-from_get_or}
use Rattle.std.proofs.lemmas.List.Sums.{fails_before_first}
use Rattle.std.specs.Prelude.{All}
use Rattle.std.specs.List.{position, position_or_len}
use Rattle.cpg_text.specs.Percent.{before}
use Rattle.cpg_text.specs.Steps.{after, counted_after}
use Rattle.cpg_text.specs.Lines.{is_line_feed, lines_of}

-- one byte more in front of what the rest stands for
pub after_push : (front : List ℕ) (b : ℕ) (o : Option (List ℕ)) → after (front ++ b ∷ []) o ≡ after front (before b o)
after_push front b None = refl
after_push front b (Some bs) = ap Some (append_assoc front (b ∷ []) bs)

-- a piece more: a byte and those behind it
pub after_piece : (front : List ℕ) (b : ℕ) (run : List ℕ) (o : Option (List ℕ)) → after ((front ++ b ∷ []) ++ run) o ≡ after front (before b (after run o))
after_piece front b run None = refl
after_piece front b run (Some bs) = ap Some (append_assoc (front ++ b ∷ []) run bs ∙ append_assoc front (b ∷ []) (run ++ bs))

-- a piece more before the count of what the rest stands for
pub counted_piece : (count b : ℕ) (run : List ℕ) (o : Option (List ℕ)) → counted_after (count + (1 + length run)) o ≡ counted_after count (before b (after run o))
counted_piece count b run None = refl
counted_piece count b run (Some bs) = ap Some (omega (arith, length-append run bs))

-- one byte more before the count of what the rest stands for
pub counted_push : (count b : ℕ) (o : Option (List ℕ)) → counted_after (count + 1) o ≡ counted_after count (before b o)
counted_push count b None = refl
counted_push count b (Some bs) = ap Some (omega arith)

-- the first place, taken apart
pub some_position : (p : ℕ → Bool) (text : List ℕ) (end : ℕ) → position p text ≡ Some end → (position_or_len p text < length text) × (position_or_len p text ≡ end)
some_position p text end e = grind (arith, nat_tests)

-- a line feed at `end` is the first: the line is what stands before it
pub first_of_lines : (text : List ℕ) (end : ℕ) → position is_line_feed text ≡ Some end → lines_of text ≡ take end text ∷ lines_of (take (length text - (end + 1)) (drop (end + 1) text))
first_of_lines text end e =
    let p = some_position is_line_feed text end e in
    let all = take_all (length text - (end + 1)) (drop (end + 1) text) (omega (arith, length-drop (end + 1) text)) in
    rw (all, ← p.1) (slice_split_first is_line_feed text 0 p.0)

-- no place: no item passes
pub none_passes : (p : ℕ → Bool) (text : List ℕ) → position p text ≡ None → All (λ x. p x ≡ false) text
none_passes p text e =
    let past : length text ≤ position_or_len p text = grind (arith, nat_tests) in
    All-from_get_or (λ x. p x ≡ false) text 0 (λ i within. fails_before_first p text i 0 (omega arith))

-- no line feed: the text is the last line
pub last_of_lines : (text : List ℕ) → position is_line_feed text ≡ None → lines_of text ≡ text ∷ []
last_of_lines text e = slice_split_none is_line_feed text (none_passes is_line_feed text e)

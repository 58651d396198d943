-- a text that is cut at the first line that begins a part
use Rattle.std.proofs.Common.{◌≡◌, ℕ, ◌+◌, ◌<◌, ◌==◌, List, [], ◌∷◌, ◌++◌, length, length-append, take, not, cond, Option, Some, None, is_some, refl, sym, ap, ◌∙◌, append_assoc, append-nil, arith}
use Rattle.std.proofs.lemmas.List.{take-append-le, take_all}
use Rattle.std.proofs.lemmas.List.Sums.{take_while-cons}
use Rattle.std.proofs.lemmas.List.Splits.{join_with_byte-slice_split, length-slice_split}
use Rattle.std.specs.Borrow.{Bor}
use Rattle.std.specs.Prelude.{option_map, IfSome}
use Rattle.std.specs.List.{join_with_byte, take_while}
use Rattle.cpg_text.specs.Lines.{lines_of, lines_left, trimmed}
use Rattle.cpg_conf.specs.Names.{next_number}
use Rattle.cpg_accept.specs.Parts.{head_of, is_head, text_before, part_then, parts_from}
use Rattle.cpg_accept.specs.Steps.{len_after}
use Rattle.cpg_accept.specs.declared.parts.Kind.{Kind}

-- lines as a text
abbrev text_of : List (List ℕ) → List ℕ
text_of lines = join_with_byte 10 lines

-- the lines before the first that begins a part
abbrev plain : List (List ℕ) → List (List ℕ)
plain lines = take_while (λ line. not (is_head line)) lines

-- the lines of a text make it
text_is : (text : List ℕ) → text_of (lines_of text) ≡ text
text_is text = join_with_byte-slice_split 10 text

-- lines before others: a line feed stands between them
text_parted : (line : List ℕ) (front : List (List ℕ)) (next : List ℕ) (back : List (List ℕ))
    → text_of ((line ∷ front) ++ (next ∷ back)) ≡ text_of (line ∷ front) ++ (10 ∷ text_of (next ∷ back))
text_parted line [] next back = refl
text_parted line (other ∷ front) next back =
    ap (λ text. line ++ (10 ∷ text)) (text_parted other front next back) ∙ sym (append_assoc line (10 ∷ text_of (other ∷ front)) (10 ∷ text_of (next ∷ back)))

-- so the first bytes are the text of the first lines
text_taken : (front : List (List ℕ)) (next : List ℕ) (back : List (List ℕ)) → take (length (text_of front)) (text_of (front ++ (next ∷ back))) ≡ text_of front
text_taken [] next back = refl
text_taken (line ∷ front) next back =
    ap (take (length (text_of (line ∷ front)))) (text_parted line front next back)
    ∙ take-append-le (length (text_of (line ∷ front))) (text_of (line ∷ front)) (10 ∷ text_of (next ∷ back)) (omega arith)
    ∙ take_all (length (text_of (line ∷ front))) (text_of (line ∷ front)) (omega arith)

-- the lines of a text that were passed, none of which begins a part, and those that are left
pub record Passed (text : List ℕ) (lines_before : ℕ) (left : List (List ℕ)) (number end : ℕ) : Type 0 where
  pub front : List (List ℕ)
  pub whole : lines_of text ≡ front ++ left
  pub headless : plain (lines_of text) ≡ front ++ plain left
  pub parts : parts_from (next_number lines_before) (lines_of text) ≡ parts_from (next_number number) left
  pub ends : end ≡ length (text_of front)

-- at the outset
pub passed_none : (text : List ℕ) (lines_before : ℕ) (left : List (List ℕ)) → left ≡ lines_of text → Passed text lines_before left lines_before 0
passed_none text lines_before left all = record {
  front = [];
  whole = sym all;
  headless = ap plain (sym all);
  parts = ap (parts_from (next_number lines_before)) (sym all);
  ends = refl;
}

-- a line that begins no part
plain_line : (line : List ℕ) (left : List (List ℕ)) → head_of (trimmed line) ≡ None → plain (line ∷ left) ≡ line ∷ plain left
plain_line line left none =
    take_while-cons (λ l. not (is_head l)) line left ∙ ap (λ head. cond (not (is_some head)) (line ∷ plain left) []) none

-- one that does
head_line : (line : List ℕ) (left : List (List ℕ)) (kind : Kind) → head_of (trimmed line) ≡ Some kind → plain (line ∷ left) ≡ []
head_line line left kind some =
    take_while-cons (λ l. not (is_head l)) line left ∙ ap (λ head. cond (not (is_some head)) (line ∷ plain left) []) some

-- where the lines that were passed end: a rest stands after a line feed
ends_there : (text : List ℕ) (first : List ℕ) (front : List (List ℕ)) (rest : Option (Bor (List ℕ))) (end : ℕ)
    → lines_of text ≡ (first ∷ front) ++ lines_left (option_map (λ r. r.now) rest) → end + len_after rest ≡ length text → end ≡ length (text_of (first ∷ front))
ends_there text first front None end whole e =
    let same : text ≡ text_of (first ∷ front) = sym (text_is text) ∙ ap text_of (whole ∙ append-nil (first ∷ front)) in
    omega (arith, e, ap length same)
ends_there text first front (Some rest) end whole e = by (lines_of rest.now) refl whole
  where
    by : (left : List (List ℕ)) → lines_of rest.now ≡ left → lines_of text ≡ (first ∷ front) ++ left → end ≡ length (text_of (first ∷ front))
    by [] none same = absurd (omega (arith, ap length none, length-slice_split (λ byte. byte == 10) rest.now))
    by (next ∷ back) some same =
        let parted : text ≡ text_of (first ∷ front) ++ (10 ∷ text_of (next ∷ back)) = sym (text_is text) ∙ ap text_of same ∙ text_parted first front next back in
        let after : text_of (next ∷ back) ≡ rest.now = ap text_of (sym some) ∙ text_is rest.now in
        omega (arith, e, ap length parted, ap length after, length-append (text_of (first ∷ front)) (10 ∷ text_of (next ∷ back)))

-- a rest is shorter than the text
rest_shorter : (text : List ℕ) (first : List ℕ) (front : List (List ℕ)) (rest : Option (Bor (List ℕ)))
    → lines_of text ≡ (first ∷ front) ++ lines_left (option_map (λ r. r.now) rest) → IfSome rest (λ r. length r.now < length text)
rest_shorter text first front None whole = tt
rest_shorter text first front (Some rest) whole = by (lines_of rest.now) refl whole
  where
    by : (left : List (List ℕ)) → lines_of rest.now ≡ left → lines_of text ≡ (first ∷ front) ++ left → length rest.now < length text
    by [] none same = absurd (omega (arith, ap length none, length-slice_split (λ byte. byte == 10) rest.now))
    by (next ∷ back) some same =
        let parted : text ≡ text_of (first ∷ front) ++ (10 ∷ text_of (next ∷ back)) = sym (text_is text) ∙ ap text_of same ∙ text_parted first front next back in
        let after : text_of (next ∷ back) ≡ rest.now = ap text_of (sym some) ∙ text_is rest.now in
        omega (arith, ap length parted, ap length after, length-append (text_of (first ∷ front)) (10 ∷ text_of (next ∷ back)))

-- the passed lines and one more have a first
begun : (front : List (List ℕ)) (line : List ℕ) → (first : List ℕ) × (more : List (List ℕ)) × (front ++ line ∷ [] ≡ first ∷ more)
begun [] line = (line, [], refl)
begun (first ∷ front) line = (first, front ++ line ∷ [], refl)

one_more : (front : List (List ℕ)) (line : List ℕ) (left : List (List ℕ)) → front ++ (line ∷ left) ≡ (front ++ line ∷ []) ++ left
one_more front line left = sym (append_assoc front (line ∷ []) left)

pub shorter : (text : List ℕ) (lines_before : ℕ) (line : List ℕ) (rest : Option (Bor (List ℕ))) (number end : ℕ)
    → Passed text lines_before (line ∷ lines_left (option_map (λ r. r.now) rest)) number end → IfSome rest (λ r. length r.now < length text)
shorter text lines_before line rest number end passed =
    let left = lines_left (option_map (λ r. r.now) rest) in
    let b = begun passed.front line in
    rest_shorter text b.0 b.1 rest (passed.whole ∙ one_more passed.front line left ∙ ap (λ front. front ++ left) b.2)

pub passed_line : (text : List ℕ) (lines_before : ℕ) (line : List ℕ) (rest : Option (Bor (List ℕ))) (number end next : ℕ)
    → Passed text lines_before (line ∷ lines_left (option_map (λ r. r.now) rest)) number end → head_of (trimmed line) ≡ None → next + len_after rest ≡ length text
    → Passed text lines_before (lines_left (option_map (λ r. r.now) rest)) (next_number number) next
passed_line text lines_before line rest number end next passed none e =
    let left = lines_left (option_map (λ r. r.now) rest) in
    let b = begun passed.front line in
    let whole = passed.whole ∙ one_more passed.front line left in
    record {
      front = passed.front ++ line ∷ [];
      whole = whole;
      headless = passed.headless ∙ ap (λ more. passed.front ++ more) (plain_line line left none) ∙ one_more passed.front line (plain left);
      parts = passed.parts ∙ ap (λ head. part_then head (next_number number) (text_before left) (parts_from (next_number (next_number number)) left)) none;
      ends = ends_there text b.0 b.1 rest next (whole ∙ ap (λ front. front ++ left) b.2) e ∙ ap (λ front. length (text_of front)) (sym b.2);
    }

pub cut_before : (text : List ℕ) (lines_before : ℕ) (line : List ℕ) (left : List (List ℕ)) (number end : ℕ) (kind : Kind)
    → Passed text lines_before (line ∷ left) number end → head_of (trimmed line) ≡ Some kind → take end text ≡ text_before (lines_of text)
cut_before text lines_before line left number end kind passed some =
    ap (λ n. take n text) passed.ends
    ∙ ap (take (length (text_of passed.front))) (sym (text_is text) ∙ ap text_of passed.whole)
    ∙ text_taken passed.front line left
    ∙ ap text_of (sym (passed.headless ∙ ap (λ more. passed.front ++ more) (head_line line left kind some) ∙ append-nil passed.front))

pub cut_after : (text : List ℕ) (lines_before : ℕ) (line : List ℕ) (left : List (List ℕ)) (number end : ℕ) (kind : Kind)
    → Passed text lines_before (line ∷ left) number end → head_of (trimmed line) ≡ Some kind
    → record { kind = kind; line = next_number number; text = text_before left } ∷ parts_from (next_number (next_number number)) left ≡ parts_from (next_number lines_before) (lines_of text)
cut_after text lines_before line left number end kind passed some =
    sym (passed.parts ∙ ap (λ head. part_then head (next_number number) (text_before left) (parts_from (next_number (next_number number)) left)) some)

pub uncut_before : (text : List ℕ) (lines_before number end : ℕ) → Passed text lines_before [] number end → text ≡ text_before (lines_of text)
uncut_before text lines_before number end passed =
    sym (text_is text) ∙ ap text_of (passed.whole ∙ sym passed.headless)

pub end_fits : (text : List ℕ) (lines_before : ℕ) (line : List ℕ) (left : List (List ℕ)) (number end : ℕ)
    → Passed text lines_before (line ∷ left) number end → end ≡ length (take end text)
end_fits text lines_before line left number end passed =
    passed.ends
    ∙ ap length (sym (ap (λ n. take n text) passed.ends ∙ ap (take (length (text_of passed.front))) (sym (text_is text) ∙ ap text_of passed.whole) ∙ text_taken passed.front line left))

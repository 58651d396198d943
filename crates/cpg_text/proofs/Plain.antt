use Rattle.std.proofs.Common.{◌≡◌, ◌≢◌, ◌≤◌, ◌<◌, ℕ, suc, ◌+◌, ◌*◌, List, [], ◌∷◌, ◌++◌, length, take, drop, cond, Bool, true, false, ◌&&◌, not, Option, Some, None, refl, sym, ap, ap₂, ◌∙◌, append_assoc, arith}
use Rattle.std.specs.Prelude.{◌==◌, if◌then◌else◌}
use Rattle.std.specs.Char.{is_digit, digit_value}
use Rattle.std.specs.List.{list_all, position, position_or_len, prefix_len}
use Rattle.std.proofs.lemmas.Bool.Decides.{nat_tests}
use Rattle.std.proofs.lemmas.List.{append-nil, drop_all, take_all}
use Rattle.std.proofs.lemmas.List.Folds.{list_all_at}
use Rattle.std.proofs.lemmas.List.Quantifiers.{position-Some}
use Rattle.cpg_text.specs.Lines.{is_blank, words_of}
use Rattle.cpg_text.specs.Percent.{before, decoded, encoded, escape, escaped, is_plain}
use Rattle.cpg_text.specs.Steps.{after}
use Rattle.cpg_text.proofs.Blanks.{last_of_words}
use Rattle.cpg_text.proofs.Round.{plain_first}
use Rattle.cpg_text.proofs.Texts.{some_position}

-- a message is spelled by its plain front, and then by what follows
pub run_spelled : (bytes : List ℕ) → encoded bytes ≡ take (prefix_len is_plain bytes) bytes ++ encoded (drop (prefix_len is_plain bytes) bytes)
run_spelled [] = refl
run_spelled (b ∷ bs) = by_test (is_plain b) refl (run_spelled bs)
  where
    by_test : (p : Bool) → is_plain b ≡ p → encoded bs ≡ take (prefix_len is_plain bs) bs ++ encoded (drop (prefix_len is_plain bs) bs) → (if p then b ∷ [] else escape b) ++ encoded bs
        ≡ take (cond p (1 + prefix_len is_plain bs) 0) (b ∷ bs) ++ encoded (drop (cond p (1 + prefix_len is_plain bs) 0) (b ∷ bs))
    by_test false e front = rw e refl
    by_test true e front = let one : 1 + prefix_len is_plain bs ≡ suc (prefix_len is_plain bs) = omega arith in rw one (ap (λ (rest : List ℕ). b ∷ rest) front)

-- a message that is plain throughout is spelled by itself
pub all_spelled : (bytes : List ℕ) → prefix_len is_plain bytes ≡ length bytes → encoded bytes ≡ bytes
all_spelled bytes whole =
    run_spelled bytes ∙ ap₂ (λ (front rest : List ℕ). front ++ encoded rest) (take_all (prefix_len is_plain bytes) bytes (omega (arith, whole))) (drop_all (prefix_len is_plain bytes) bytes (omega (arith, whole))) ∙ append-nil bytes

-- the plain front was put, and what follows is still to come
pub run_put : (old new message run rest : List ℕ) (n : ℕ) → new ≡ old ++ run → run ≡ take n message → rest ≡ drop n message → n ≡ prefix_len is_plain message
    → new ++ encoded rest ≡ old ++ encoded message
run_put old new message run rest n put front back long =
    rw (put, front, back, long, append_assoc) (ap (λ (tail : List ℕ). old ++ tail) (sym (run_spelled message)))

-- nothing in front changes nothing
pub after_none : (o : Option (List ℕ)) → o ≡ after [] o
after_none None = refl
after_none (Some bytes) = refl

-- a byte before what stands behind a front
before_after : (b : ℕ) (front : List ℕ) (o : Option (List ℕ)) → before b (after front o) ≡ after (b ∷ front) o
before_after b front None = refl
before_after b front (Some bytes) = refl

-- a text stands for its bytes before the first percent sign, and then for what the rest stands for
abbrev run_of : List ℕ → ℕ
run_of text = position_or_len (λ byte. byte == 37) text

pub run_decoded : (text : List ℕ) → decoded text ≡ after (take (run_of text) text) (decoded (drop (run_of text) text))
run_decoded [] = refl
run_decoded (b ∷ bs) = by_test (b == 37) refl (run_decoded bs)
  where
    by_test : (percent : Bool) → (b == 37) ≡ percent → decoded bs ≡ after (take (run_of bs) bs) (decoded (drop (run_of bs) bs)) → decoded (b ∷ bs)
        ≡ after (take (cond (not percent) (1 + run_of bs) 0) (b ∷ bs)) (decoded (drop (cond (not percent) (1 + run_of bs) 0) (b ∷ bs)))
    by_test true e rest = after_none (decoded (b ∷ bs))
    by_test false e rest =
        let one : 1 + run_of bs ≡ suc (run_of bs) = omega arith in
        rw one (plain_first b bs e ∙ ap (before b) rest ∙ before_after b (take (run_of bs) bs) (decoded (drop (run_of bs) bs)))

-- the same where a search found the first percent sign
pub run_found : (text : List ℕ) (end : ℕ) → position (λ byte. byte == 37) text ≡ Some end → decoded text ≡ after (take end text) (decoded (drop end text))
run_found text end e = let p = some_position (λ byte. byte == 37) text end e in rw (← p.1) (run_decoded text)

-- and where there is none
pub run_alone : (text : List ℕ) → position (λ byte. byte == 37) text ≡ None → decoded text ≡ Some (text ++ [])
run_alone text e =
    let past : length text ≤ run_of text = grind (arith, nat_tests) in
    run_decoded text ∙ ap₂ (λ (front rest : List ℕ). after front (decoded rest)) (take_all (run_of text) text past) (drop_all (run_of text) text past)

pub run_whole : (text : List ℕ) → position (λ byte. byte == 37) text ≡ None → decoded text ≡ Some text
run_whole text e = run_alone text e ∙ ap Some (append-nil text)

-- what stands behind the byte that was put before it
behind : (b : ℕ) (more : Option (List ℕ)) (bytes : List ℕ) → before b more ≡ Some bytes → (rest : List ℕ) × (more ≡ Some rest) × (b ∷ rest ≡ bytes)
behind b None bytes e = absurd (cc)
behind b (Some rest) bytes e = (rest, refl, cc)

-- a text is no shorter than the bytes that it stands for, and longer where it has a percent sign
abbrev Shrinks : List ℕ → List ℕ → Type 0
Shrinks text bytes = (length bytes ≤ length text) × (list_all (λ byte. not (byte == 37)) text ≡ false → length bytes < length text)

one_shrinks : (b : ℕ) (text bytes : List ℕ) (percent : Bool) (other : Option (List ℕ)) → (b == 37) ≡ percent →
    (percent ≡ true → other ≡ Some bytes → length bytes ≤ length text) →
    ((rest : List ℕ) → decoded text ≡ Some rest → Shrinks text rest) →
    (if percent then other else before b (decoded text)) ≡ Some bytes → Shrinks (b ∷ text) bytes
one_shrinks b text bytes true other is fewer shorter e =
    let h = fewer refl e in
    (omega (arith, h), λ some. omega (arith, h))
one_shrinks b text bytes false other is fewer shorter e =
    let found = behind b (decoded text) bytes e in
    let h = shorter found.0 found.1 in
    let long : suc (length found.0) ≡ length bytes = ap length found.2 in
    (omega (arith, h.0, long), λ some. let more = h.1 (rest_has some) in omega (arith, more, long))
  where
    rest_has : list_all (λ byte. not (byte == 37)) (b ∷ text) ≡ false → list_all (λ byte. not (byte == 37)) text ≡ false
    rest_has some = rw is at some

escape_shrinks : (high low : ℕ) (rest bytes : List ℕ) → ((more : List ℕ) → decoded rest ≡ Some more → Shrinks rest more) →
    escaped high low (decoded rest) ≡ Some bytes → length bytes ≤ suc (suc (length rest))
escape_shrinks high low rest bytes shorter e = by_digits (is_digit high 16 && is_digit low 16) e
  where
    by_digits : (digits : Bool) → (if digits then before (16 * digit_value high + digit_value low) (decoded rest) else None) ≡ Some bytes → length bytes ≤ suc (suc (length rest))
    by_digits false f = absurd (cc)
    by_digits true f =
        let found = behind (16 * digit_value high + digit_value low) (decoded rest) bytes f in
        let h = shorter found.0 found.1 in
        let long : suc (length found.0) ≡ length bytes = ap length found.2 in
        omega (arith, h.0, long)

shrinks : (text bytes : List ℕ) → decoded text ≡ Some bytes → Shrinks text bytes
shrinks [] bytes e = let none : [] ≡ bytes = cc in let long : 0 ≡ length bytes = ap length none in (omega (arith, long), λ some. absurd (cc))
shrinks (b ∷ []) bytes e = one_shrinks b [] bytes (b == 37) None refl (λ is none. absurd (cc)) (shrinks []) e
shrinks (b ∷ next ∷ []) bytes e = one_shrinks b (next ∷ []) bytes (b == 37) None refl (λ is none. absurd (cc)) (shrinks (next ∷ [])) e
shrinks (b ∷ high ∷ low ∷ rest) bytes e =
    one_shrinks b (high ∷ low ∷ rest) bytes (b == 37) (escaped high low (decoded rest)) refl (λ is f. escape_shrinks high low rest bytes (shrinks rest) f) (shrinks (high ∷ low ∷ rest)) e

-- a text with a percent sign does not stand for itself
percent_decoded : (text : List ℕ) → list_all (λ byte. not (byte == 37)) text ≡ false → decoded text ≢ Some text
percent_decoded text some same = let h = (shrinks text text same).1 some in absurd (omega (arith, h))

-- the same where a search found one
pub percent_found : (text : List ℕ) (end : ℕ) → position (λ byte. byte == 37) text ≡ Some end → decoded text ≢ Some text
percent_found text end e =
    let first = position-Some (λ byte. byte == 37) text end 0 e in
    percent_decoded text (list_all_at (λ byte. not (byte == 37)) text end 0 first.0 (ap not first.1))

-- a text that is plain throughout stands for itself
pub plain_whole : (text : List ℕ) → prefix_len is_plain text ≡ length text → decoded text ≡ Some text
plain_whole [] e = refl
plain_whole (b ∷ bs) e = by_test (is_plain b) refl (plain_whole bs) e
  where
    by_test : (p : Bool) → is_plain b ≡ p → (prefix_len is_plain bs ≡ length bs → decoded bs ≡ Some bs) → cond p (1 + prefix_len is_plain bs) 0 ≡ suc (length bs) → decoded (b ∷ bs) ≡ Some (b ∷ bs)
    by_test false plain rest whole = absurd (cc)
    by_test true plain rest whole =
        let percent : (b == 37) ≡ false = grind (arith, nat_tests) in
        plain_first b bs percent ∙ ap (before b) (rest (omega (arith, whole)))

-- no byte of it is a blank
unbroken : (text : List ℕ) → prefix_len is_plain text ≡ length text → position_or_len is_blank text ≡ length text
unbroken [] e = refl
unbroken (b ∷ bs) e = by_test (is_plain b) refl (unbroken bs) e
  where
    by_test : (p : Bool) → is_plain b ≡ p → (prefix_len is_plain bs ≡ length bs → position_or_len is_blank bs ≡ length bs) → cond p (1 + prefix_len is_plain bs) 0 ≡ suc (length bs) → position_or_len is_blank (b ∷ bs) ≡ suc (length bs)
    by_test false plain rest whole = absurd (cc)
    by_test true plain rest whole =
        let blank : is_blank b ≡ false = grind (arith, nat_tests) in
        let more = rest (omega (arith, whole)) in
        rw blank (omega (arith, more))

-- so that it is one word
pub plain_alone : (text : List ℕ) → text ≢ [] → prefix_len is_plain text ≡ length text → words_of text ≡ text ∷ []
plain_alone [] some e = absurd (some refl)
plain_alone (b ∷ bs) other e =
    let text = b ∷ bs in
    let past = unbroken text e in
    let some : 0 < length text = omega arith in
    let none : position is_blank text ≡ None = grind (arith, nat_tests) in
    last_of_words text some none

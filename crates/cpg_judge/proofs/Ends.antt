-- Texts as one, and where each of them ends.
use Rattle.std.proofs.Common.{◌≡◌, ℕ, zero, suc, Bool, true, false, cond, ◌+◌, ◌-◌, ◌<◌, ◌≤◌, List, [], ◌∷◌, ◌++◌, length, take, drop, get_or, refl, sym, ap, ◌∙◌, append_assoc, append-nil, zero-add, arith}
use Rattle.std.specs.List.{concat}
use Rattle.std.proofs.lemmas.List.{length-append, take-append-drop, take-take, take_at, drop_at}
use Rattle.std.proofs.lemmas.List.Folds.{concat-append}
use Rattle.cpg_entry.specs.Entries.{is_move}
use Rattle.cpg_record.specs.declared.records.Record.{Record}
use Rattle.cpg_judge.specs.Texts.{TextValue, HoldsTexts, ends_from, showing, with_place, with_text}

-- there is an end for each text
pub ends_length : (start : ℕ) (texts : List (List ℕ)) → length (ends_from start texts) ≡ length texts
ends_length start [] = refl
ends_length start (text ∷ texts) = ap suc (ends_length (start + length text) texts)

-- each is where the texts up to it end
pub end_is : (start : ℕ) (texts : List (List ℕ)) (i d : ℕ) → i < length texts → get_or (ends_from start texts) i d ≡ start + length (concat (take (suc i) texts))
end_is start [] i d h = absurd (omega arith)
end_is start (text ∷ texts) zero d h = ap (λ n. start + n) (ap length (sym (append-nil text)))
end_is start (text ∷ texts) (suc i) d h =
    end_is (start + length text) texts i d (omega (arith, h))
    ∙ omega (arith, length-append text (concat (take (suc i) texts)))

-- one text more is one end more
ends_more : (start : ℕ) (texts : List (List ℕ)) (text : List ℕ) → ends_from start (texts ++ text ∷ []) ≡ ends_from start texts ++ (start + length (concat texts) + length text) ∷ []
ends_more start [] text =
    let here : start + length text ≡ start + 0 + length text = omega arith in
    ap (λ n. n ∷ []) here
ends_more start (one ∷ texts) text =
    let here : start + length one + length (concat texts) + length text ≡ start + length (one ++ concat texts) + length text = omega (arith, length-append one (concat texts)) in
    ap (λ l. (start + length one) ∷ l) (ends_more (start + length one) texts text ∙ ap (λ n. ends_from (start + length one) texts ++ n ∷ []) here)

pub holds_more : (value : TextValue) (texts : List (List ℕ)) (text : List ℕ) → HoldsTexts value texts → HoldsTexts (with_text text value) (texts ++ text ∷ [])
holds_more value texts text h =
    let sum : length (value.text ++ text) ≡ 0 + length (concat texts) + length text = omega (arith, length-append value.text text, ap length h.0) in (
      ap (λ l. l ++ text) h.0 ∙ ap (λ l. concat texts ++ l) (sym (append-nil text)) ∙ sym (concat-append texts (text ∷ [])),
      ap (λ l. l ++ length (value.text ++ text) ∷ []) h.1 ∙ ap (λ n. ends_from 0 texts ++ n ∷ []) sum ∙ sym (ends_more 0 texts text),
    )

-- and so for a record's text, whomever the record moves
pub holds_place : (value : TextValue) (texts : List (List ℕ)) (text : List ℕ) (r : Record) → HoldsTexts value texts → HoldsTexts (with_place r text value) (texts ++ text ∷ [])
holds_place value texts text r h = by_case (is_move r.entry.op)
  where
    by_case : (b : Bool) → HoldsTexts (with_text text (cond b (showing r.members value) value)) (texts ++ text ∷ [])
    by_case true = holds_more (showing r.members value) texts text h
    by_case false = holds_more value texts text h

-- the end of the first so many
pub end_at : (value : TextValue) (texts : List (List ℕ)) (count : ℕ) (d : ℕ) → HoldsTexts value texts → 0 < count → count ≤ length texts
    → get_or value.ends (count - 1) d ≡ length (concat (take count texts))
end_at value texts count d h some within =
    let back : suc (count - 1) ≡ count = omega (arith, some) in
    ap (λ ends. get_or ends (count - 1) d) h.1 ∙ end_is 0 texts (count - 1) d (omega (arith, some, within))
    ∙ zero-add (length (concat (take (suc (count - 1)) texts))) ∙ ap (λ n. length (concat (take n texts))) back

-- texts in three parts
module _ (texts : List (List ℕ)) (from to : ℕ) (low : from ≤ to) where
  abbrev front : List ℕ
  front = concat (take from texts)

  abbrev amid : List ℕ
  amid = concat (drop from (take to texts))

  abbrev rest : List ℕ
  rest = concat (drop to texts)

  pub front_amid : concat (take to texts) ≡ front ++ amid
  front_amid =
      ap concat (sym (take-append-drop from (take to texts))) ∙ concat-append (take from (take to texts)) (drop from (take to texts))
      ∙ ap (λ l. concat l ++ amid) (take-take from to texts low)

  three : concat texts ≡ front ++ (amid ++ rest)
  three =
      ap concat (sym (take-append-drop to texts)) ∙ concat-append (take to texts) (drop to texts)
      ∙ ap (λ l. l ++ rest) front_amid ∙ append_assoc front amid rest

  pub ends_within : (length front ≤ length (concat (take to texts))) × (length (concat (take to texts)) ≤ length (concat texts))
  ends_within = (
    omega (arith, ap length front_amid, length-append front amid),
    omega (arith, ap length front_amid, length-append front amid, ap length three, length-append front (amid ++ rest), length-append amid rest),
  )

  pub cut_out : take (length (concat (take to texts)) - length front) (drop (length front) (concat texts)) ≡ amid
  cut_out =
      let size : length (concat (take to texts)) - length front ≡ length amid = omega (arith, ap length front_amid, length-append front amid) in
      ap (λ l. take (length (concat (take to texts)) - length front) l) (ap (drop (length front)) three ∙ drop_at front (amid ++ rest) (length front) refl)
      ∙ ap (λ n. take n (amid ++ rest)) size ∙ take_at amid rest (length amid) refl

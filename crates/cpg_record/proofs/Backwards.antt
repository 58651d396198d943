-- What is gathered of records from the last one on: of each its part, in front of what the later ones give.
use Rattle.std.proofs.Common.{◌≡◌, ℕ, zero, suc, ◌+◌, ◌-◌, ◌<◌, ◌≤◌, Bool, true, false, if◌then◌else◌, List, [], ◌∷◌, ◌++◌, length, get_or, reverse, drop, refl, sym, ap, subst, ◌∙◌, arith}
use Rattle.std.proofs.Math.Seq.{drop-cons}
use Rattle.std.proofs.lemmas.List.{reverse-append}
use Rattle.cpg_record.specs.declared.connections.ConnId.{ConnId}
use Rattle.cpg_record.specs.declared.records.Record.{Record}

pub one_or_none : {X : Type 0} (b : Bool) (x : X) → reverse (if b then x ∷ [] else []) ≡ (if b then x ∷ [] else [])
one_or_none true x = refl
one_or_none false x = refl

module _ {X : Type 0} (gathered : ℕ → List Record → List X) (part : ℕ → Record → List Record → List X) (Known : List ConnId → List Record → Type 0)
    (parts : (place : ℕ) (r : Record) (later : List Record) → gathered place (r ∷ later) ≡ part place r later ++ gathered (suc place) later)
    (alike : (place : ℕ) (r : Record) (later : List Record) → reverse (part place r later) ≡ part place r later) where
  -- what is found, and known, with the record before an index
  pub found_before : (index : ℕ) (r : Record) (records : List Record) (old new : List X) (ended after : List ConnId) → 0 < index → index ≤ length records →
      get_or records (index - 1) r ≡ r →
      old ≡ reverse (gathered (suc index) (drop index records)) → Known ended (drop index records) →
      ((later : List Record) → Known ended later → new ≡ old ++ part (index - 1 + 1) r later) →
      ((later : List Record) → Known ended later → Known after (r ∷ later)) →
      (new ≡ reverse (gathered (suc (index - 1)) (drop (index - 1) records))) × Known after (drop (index - 1) records)
  found_before zero r records old new ended after some within is put known more end = absurd (omega arith)
  found_before (suc index) r records old new ended after some within is put known more end =
      let less : suc index - 1 ≡ index = omega arith in
      let place : suc index - 1 + 1 ≡ suc index = omega arith in
      let later : List Record = drop (suc index) records in
      let at : get_or records index r ≡ r = subst (λ n. get_or records n r ≡ r) less is in
      let first : drop index records ≡ r ∷ later = drop-cons records index r (omega arith) ∙ ap (λ x. x ∷ later) at in
      subst (λ n. (new ≡ reverse (gathered (suc n) (drop n records))) × Known after (drop n records)) (sym less) (
        more later known ∙ ap (λ n. old ++ part n r later) place
            ∙ ap (λ x. x ++ part (suc index) r later) put
            ∙ ap (λ x. reverse (gathered (suc (suc index)) later) ++ x) (sym (alike (suc index) r later))
            ∙ sym (reverse-append (part (suc index) r later) (gathered (suc (suc index)) later))
            ∙ ap reverse (sym (ap (gathered (suc index)) first ∙ parts (suc index) r later)),
        subst (Known after) (sym first) (end later known),
      )

-- what was found once the first record was looked at
pub all_found : {X : Type 0} (gathered : ℕ → List Record → List X) (index : ℕ) (records : List Record) (found : List X) → index ≤ 0 →
    found ≡ reverse (gathered (suc index) (drop index records)) → found ≡ reverse (gathered 1 records)
all_found gathered zero records found none put = put
all_found gathered (suc index) records found none put = absurd (omega arith)

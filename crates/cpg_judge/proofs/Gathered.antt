-- The texts of groups after one place more.
use Rattle.std.proofs.Common.{◌≡◌, ℕ, suc, ◌-◌, ◌≤◌, Bool, true, false, ◌&&◌, cond, List, [], ◌∷◌, ◌++◌, length, map, take, drop, get_or, Option, Some, None, refl, sym, ap, subst, ◌∙◌, append-nil, arith}
use Rattle.std.specs.List.{slice_get}
use Rattle.std.specs.Str.{bytes_eq}
use Rattle.std.proofs.lemmas.List.{map-append}
use Rattle.std.proofs.lemmas.Option.{slice_get_within, slice_get-get_or}
use Rattle.cpg_record.specs.declared.records.Record.{Record}
use Rattle.cpg_record.specs.Membership.{is_allowed, is_named}
use Rattle.cpg_record.specs.Nexts.{acts_in}
use Rattle.cpg_record.specs.Places.{places_from, places_of, record_at}
use Rattle.cpg_record.proofs.Nexts.{and_false}
use Rattle.cpg_record.proofs.Placing.{record_at-index}
use Rattle.cpg_judge.specs.Texts.{kept_text, told_text, texts_upto, with_place, AreTexts, HoldsTexts, KeptTexts}
use Rattle.cpg_judge.proofs.Ends.{holds_place}
use Rattle.cpg_judge.proofs.Telling.{places_parted, record_there}

-- the record that is read at a place stands there
pub stands : (rs : List Record) (place : ℕ) (r : Record) → 1 ≤ place → place ≤ length rs → r ≡ get_or rs (place - 1) r → record_at rs place ≡ Some r
stands rs place r some within is =
    record_at-index rs place some ∙ slice_get-get_or rs (place - 1) r (omega (arith, some, within)) ∙ ap Some (sym is)

-- the places of a group after those before the place, up to it
abbrev pub places_between : List Record → List ℕ → ℕ → List ℕ
places_between rs g place = places_from (acts_in g) (suc (place - 1)) (take (place - (place - 1)) (drop (place - 1) rs))

module _ (rs : List Record) (place : ℕ) (r : Record) (some : 1 ≤ place) (is : record_at rs place ≡ Some r) where
  -- that is the place itself, where its record acts in the group
  pub one_between : (g : List ℕ) → places_between rs g place ≡ cond (acts_in g r) (place ∷ []) []
  one_between g =
      let at : slice_get rs (place - 1) ≡ Some r = sym (record_at-index rs place some) ∙ is in
      let there = record_there rs (place - 1) (slice_get_within rs (place - 1) r at) in
      let alike : Some there.0 ≡ Some r = sym there.1 ∙ at in
      let same : there.0 ≡ r = cc in
      let one : place - (place - 1) ≡ 1 = omega (arith, some) in
      let back : suc (place - 1) ≡ place = omega (arith, some) in
      ap (λ n. places_from (acts_in g) (suc (place - 1)) (take n (drop (place - 1) rs))) one
      ∙ ap (λ (l : List Record). places_from (acts_in g) (suc (place - 1)) (take 1 l)) there.2
      ∙ ap (λ (q : Record). cond (acts_in g q) (suc (place - 1) ∷ []) []) same
      ∙ ap (λ n. cond (acts_in g r) (n ∷ []) []) back

  -- the texts of a group, and that of the place where its record acts in it
  texts_more : (g : List ℕ) → texts_upto rs g place ≡ texts_upto rs g (place - 1) ++ cond (acts_in g r) (told_text rs place ∷ []) []
  texts_more g =
      let within = slice_get_within rs (place - 1) r (sym (record_at-index rs place some) ∙ is) in
      ap (map (told_text rs)) (places_parted (acts_in g) rs (place - 1) place (omega arith) (omega (arith, within)) ∙ ap (λ ps. places_of (acts_in g) (take (place - 1) rs) ++ ps) (one_between g))
      ∙ map-append (told_text rs) (places_of (acts_in g) (take (place - 1) rs)) (cond (acts_in g r) (place ∷ []) [])
      ∙ ap (λ l. texts_upto rs g (place - 1) ++ l) (by_case (acts_in g r))
    where
      by_case : (b : Bool) → map (told_text rs) (cond b (place ∷ []) []) ≡ cond b (told_text rs place ∷ []) []
      by_case true = refl
      by_case false = refl

  module _ (kept : KeptTexts) (are : AreTexts kept rs (place - 1)) where
    same_texts : ((g : List ℕ) → acts_in g r ≡ false) → AreTexts kept rs place
    same_texts quiet = λ g.
        let same : texts_upto rs g (place - 1) ≡ texts_upto rs g place =
        sym (append-nil (texts_upto rs g (place - 1))) ∙ ap (λ (b : Bool). texts_upto rs g (place - 1) ++ cond b (told_text rs place ∷ []) []) (sym (quiet g)) ∙ sym (texts_more g) in
        subst (HoldsTexts (kept_text kept g)) same (are g)

    -- a record without a group
    pub without_group : r.group ≡ None → AreTexts kept rs place
    without_group none = same_texts (λ g. ap (λ (o : Option (List ℕ)). is_allowed r.verdict && is_named o g) none ∙ and_false (is_allowed r.verdict))

    -- a denied one
    pub not_told : is_allowed r.verdict ≡ false → AreTexts kept rs place
    not_told denied = same_texts (λ g. ap (λ (b : Bool). b && is_named r.group g) denied)

    -- an allowed one of a group
    pub one_told : (new : KeptTexts) (name : List ℕ) → r.group ≡ Some name → is_allowed r.verdict ≡ true →
        ((g : List ℕ) → kept_text new g ≡ cond (bytes_eq name g) (with_place r (told_text rs place) (kept_text kept g)) (kept_text kept g)) → AreTexts new rs place
    one_told new name of allowed grown = λ g.
        let acts : acts_in g r ≡ bytes_eq name g =
        ap (λ (b : Bool). b && is_named r.group g) allowed ∙ ap (λ (o : Option (List ℕ)). is_named o g) of in
        subst (λ value. HoldsTexts value (texts_upto rs g place)) (sym (grown g)) (for g (bytes_eq name g) acts)
      where
        for : (g : List ℕ) (b : Bool) → acts_in g r ≡ b → HoldsTexts (cond b (with_place r (told_text rs place) (kept_text kept g)) (kept_text kept g)) (texts_upto rs g place)
        for g true acts =
            subst (HoldsTexts (with_place r (told_text rs place) (kept_text kept g)))
            (ap (λ (b : Bool). texts_upto rs g (place - 1) ++ cond b (told_text rs place ∷ []) []) (sym acts) ∙ sym (texts_more g))
            (holds_place (kept_text kept g) (texts_upto rs g (place - 1)) (told_text rs place) r (are g))
        for g false acts =
            subst (HoldsTexts (kept_text kept g))
            (sym (append-nil (texts_upto rs g (place - 1))) ∙ ap (λ (b : Bool). texts_upto rs g (place - 1) ++ cond b (told_text rs place ∷ []) []) (sym acts) ∙ sym (texts_more g))
            (are g)

-- why denied entries were denied, one after the other
use Rattle.std.proofs.Common.{◌≡◌, ℕ, ◌+◌, ◌<◌, Bool, true, false, cond, List, [], ◌∷◌, ◌++◌, length, take, slice_get, Some, refl, sym, ap, ◌∙◌, append-nil, arith}
use Rattle.std.specs.List.{flat_map}
use Rattle.std.proofs.lemmas.Grind.{flat_map-append}
use Rattle.std.proofs.lemmas.List.{length-take, take_more}
use Rattle.std.proofs.lemmas.Option.{get_or_from_slice_get, slice_get_within}
use Rattle.cpg_entry.specs.declared.entries.Entry.{Entry}
use Rattle.cpg_record.specs.Judging.{judged, record_of}
use Rattle.cpg_record.specs.Places.{places_of}
use Rattle.cpg_record.proofs.Denials.{each_entry_is_judged}
use Rattle.cpg_record.proofs.Positions.{places_from-push}
use Rattle.cpg_why.specs.declared.findings.Finding.{Finding}
use Rattle.cpg_why.specs.Findings.{denial_by, is_denied, why_at, why_by}
use Rattle.cpg_why.proofs.Walked.{judged_push, why_next}

-- the places of the denied entries, of the first so many
abbrev pub denied_places : List Entry → ℕ → List ℕ
denied_places entries count = places_of is_denied (judged (take count entries))

-- why these were denied
abbrev pub denied_upto : List Entry → ℕ → List Finding
denied_upto entries count = flat_map (why_at (judged entries)) (denied_places entries count)

module _ (entries : List Entry) (index : ℕ) (entry : Entry) (stands : slice_get entries index ≡ Some entry) where
  places_more : denied_places entries (index + 1) ≡ denied_places entries index ++ cond (is_denied (record_of (judged (take index entries)) entry)) ((index + 1) ∷ []) []
  places_more =
      let within : index < length entries = slice_get_within entries index entry stands in
      let more : take (index + 1) entries ≡ take index entries ++ entry ∷ [] =
      take_more entries index entry within ∙ ap (λ (e : Entry). take index entries ++ e ∷ []) (get_or_from_slice_get entries index entry entry stands) in
      let count : 1 + length (judged (take index entries)) ≡ index + 1 = omega (arith, (each_entry_is_judged (take index entries)).0, length-take index entries) in
      ap (λ (es : List Entry). places_of is_denied (judged es)) more
      ∙ ap (places_of is_denied) (judged_push (take index entries) entry)
      ∙ places_from-push is_denied 1 (judged (take index entries)) (record_of (judged (take index entries)) entry)
      ∙ ap (λ n. denied_places entries index ++ cond (is_denied (record_of (judged (take index entries)) entry)) (n ∷ []) []) count

  found_more : (denied : Bool) → is_denied (record_of (judged (take index entries)) entry) ≡ denied →
      denied_upto entries (index + 1)
      ≡ denied_upto entries index ++ cond denied (why_by (judged (take index entries)) (index + 1) (Some (record_of (judged (take index entries)) entry))) []
  found_more true is =
      let f = why_at (judged entries) in
      let places = denied_places entries index in
      ap (flat_map f) (places_more ∙ ap (λ (b : Bool). places ++ cond b ((index + 1) ∷ []) []) is)
      ∙ flat_map-append f places ((index + 1) ∷ [])
      ∙ ap (λ (more : List Finding). flat_map f places ++ more) (append-nil (f (index + 1)) ∙ why_next entries index entry stands)
  found_more false is =
      let places = denied_places entries index in
      ap (flat_map (why_at (judged entries))) (places_more ∙ ap (λ (b : Bool). places ++ cond b ((index + 1) ∷ []) []) is ∙ append-nil places)
      ∙ sym (append-nil (denied_upto entries index))

-- one entry more
pub denied_next : (entries passed : List Entry) (index : ℕ) (entry : Entry) (list more : List Finding) → slice_get entries index ≡ Some entry → passed ≡ take index entries
    → list ≡ denied_upto entries index → more ≡ list ++ denial_by (judged passed) (length passed + 1) (record_of (judged passed) entry) → more ≡ denied_upto entries (index + 1)
denied_next entries passed index entry list more stands is before put =
    let within : index < length entries = slice_get_within entries index entry stands in
    let count : length passed ≡ index = omega (arith, ap length is, length-take index entries) in
    let r = record_of (judged (take index entries)) entry in
    put
    ∙ ap (λ (es : List Entry). list ++ denial_by (judged es) (length passed + 1) (record_of (judged es) entry)) is
    ∙ ap (λ n. list ++ denial_by (judged (take index entries)) (n + 1) r) count
    ∙ ap (λ (xs : List Finding). xs ++ denial_by (judged (take index entries)) (index + 1) r) before
    ∙ sym (found_more entries index entry stands (is_denied r) refl)

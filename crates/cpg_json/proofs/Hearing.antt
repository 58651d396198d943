-- What places tell a connection that made no entry at them: what they tell the group that it is in.
use Rattle.std.proofs.Common.{◌≡◌, ◌≢◌, ℕ, suc, ◌-◌, ◌≤◌, Bool, true, false, ◌||◌, cond, List, [], ◌∷◌, ◌++◌, length, map, take, drop, Option, Some, None, refl, sym, ap, subst, ◌∙◌, append-nil, append_assoc, arith}
use Rattle.std.specs.Prelude.{◌↔◌, is_some, option_to_list}
use Rattle.std.specs.List.{flat_map}
use Rattle.std.proofs.lemmas.List.{length-append, length-take-le, length-drop, take_all, take_at, drop_at}
use Rattle.std.proofs.lemmas.List.Concat.{flat_map_single}
use Rattle.std.proofs.lemmas.Option.{slice_get_within}
use Rattle.cpg_record.specs.declared.connections.ConnId.{ConnId}
use Rattle.cpg_record.specs.declared.events.Event.{Event}
use Rattle.cpg_record.specs.declared.events.Event.TheVariants.{Verdict}
use Rattle.cpg_record.specs.declared.records.Record.{Record}
use Rattle.cpg_record.specs.Events.{events, events_by, news}
use Rattle.cpg_record.specs.Membership.{group_of}
use Rattle.cpg_record.specs.Nexts.{acts_in, is_made_by, reaches}
use Rattle.cpg_record.specs.Places.{places_from, places_of, record_at, records_before}
use Rattle.cpg_record.proofs.Nexts.{tells_exactly}
use Rattle.cpg_record.proofs.Positions.{sound}
use Rattle.cpg_group.specs.Telling.{told, told_from, told_in}
use Rattle.cpg_judge.specs.Texts.{MakesNone}
use Rattle.cpg_judge.proofs.Telling.{none_there, places_parted, told_there}
use Rattle.cpg_json.proofs.Told.{by_group, in_two}
use Rattle.cpg_json.specs.Events.{event_json}
use Rattle.cpg_json.specs.Steps.{lines_at, lines_between, ArePlaces}
use Rattle.cpg_json.specs.Tails.{front_of, heard_line, tail_of}

-- ---- one place

said : (rs : List Record) (conn : ConnId) (place : ℕ) (n : Option Event) (b : Bool) → (option_to_list n ≢ []) ↔ (b ≡ true) → (is_some n ≡ true → n ≡ told rs place)
    → map (event_json conn) (option_to_list n) ≡ cond b (heard_line rs conn place ∷ []) []
said rs conn place (Some e) true tells same =
    ap (λ l. l ∷ [])
    (in_two conn e ∙ ap (λ l. front_of conn ++ l) (sym (append-nil (tail_of e))) ∙ ap (λ (o : Option Event). front_of conn ++ flat_map tail_of (option_to_list o)) (same refl))
said rs conn place (Some e) false tells same =
    let bad : false ≡ true = tells.0 (λ empty. absurd (cc)) in
    absurd (cc)
said rs conn place None true tells same = absurd (tells.1 refl refl)
said rs conn place None false tells same = refl

-- the lines of another's record
lines_of_others : (rs : List Record) (conn : ConnId) (place : ℕ) (r : Record) → record_at rs place ≡ Some r → is_made_by conn r ≡ false →
    lines_at rs conn place ≡ cond (reaches (group_of (records_before rs place) conn) r) (heard_line rs conn place ∷ []) []
lines_of_others rs conn place r is other =
    let n = news place (records_before rs place) r conn r.group in
    let b = reaches (group_of (records_before rs place) conn) r in
    let quiet : events rs place conn ≡ option_to_list n =
    ap (events_by place (records_before rs place) conn) is ∙ ap (λ (made : Bool). cond made (Verdict place r.verdict ∷ []) [] ++ option_to_list n) other in
    let told_to : (events rs place conn ≢ []) ↔ (b ≡ true) = subst (λ (made : Bool). (events rs place conn ≢ []) ↔ ((made || b) ≡ true)) other (tells_exactly rs conn place r is) in
    let tells : (option_to_list n ≢ []) ↔ (b ≡ true) = subst (λ (es : List Event). (es ≢ []) ↔ (b ≡ true)) quiet told_to in
    let group : told_in place (records_before rs place) r r.group ≡ told rs place = sym (ap (told_from place (records_before rs place)) is) in
    ap (map (event_json conn)) quiet ∙ said rs conn place n b tells (λ some. by_group place (records_before rs place) r conn r.group some ∙ group)

-- ---- places in a row

-- what a place tells those who hear it
abbrev heard_at : List Record → ConnId → ℕ → List (List ℕ)
heard_at rs conn place = heard_line rs conn place ∷ []

-- a connection that made no entry at them, and is in no group, hears nothing
pub heard_nothing : (rs : List Record) (conn : ConnId) (after last : ℕ) → after ≤ last → last ≤ length rs → MakesNone rs conn after last →
    group_of (take after rs) conn ≡ None → lines_between rs conn after last ≡ []
heard_nothing rs conn = none_there rs conn (lines_at rs conn) (heard_at rs conn) (lines_of_others rs conn)

-- one that is in a group hears what its places tell the group
pub heard_in : (rs : List Record) (conn : ConnId) (g : List ℕ) (after last : ℕ) → after ≤ last → last ≤ length rs → MakesNone rs conn after last →
    Some g ≡ group_of (take after rs) conn → map (heard_line rs conn) (places_from (acts_in g) (suc after) (take (last - after) (drop after rs))) ≡ lines_between rs conn after last
heard_in rs conn g after last low within quiet there =
    sym (flat_map_single (heard_line rs conn) (places_from (acts_in g) (suc after) (take (last - after) (drop after rs))))
    ∙ told_there rs conn (lines_at rs conn) (heard_at rs conn) (lines_of_others rs conn) after last low within quiet g (sym there)

-- ---- the places of a group

module _ (q : Record → Bool) (rs : List Record) (after last : ℕ) (low : after ≤ last) (within : last ≤ length rs) where
  abbrev before : List ℕ
  before = places_of q (take after rs)

  abbrev between : List ℕ
  between = places_from q (suc after) (take (last - after) (drop after rs))

  abbrev behind : List ℕ
  behind = places_from q (suc last) (take (length rs - last) (drop last rs))

  upto : places_of q (take last rs) ≡ before ++ between
  upto = places_parted q rs after last low (omega (arith, low, within))

  whole : places_of q rs ≡ before ++ (between ++ behind)
  whole =
      ap (places_of q) (sym (take_all (length rs) rs (omega arith))) ∙ places_parted q rs last (length rs) within within
      ∙ ap (λ l. l ++ behind) upto ∙ append_assoc before between behind

  -- how many come up to the one and to the other
  pub counts : (length before ≤ length (places_of q (take last rs))) × (length (places_of q (take last rs)) ≤ length (places_of q rs))
  counts = (
    omega (arith, ap length upto, length-append before between),
    omega (arith, ap length upto, length-append before between, ap length whole, length-append before (between ++ behind), length-append between behind),
  )

  -- those between them
  pub cut_between : (ps : List ℕ) (from to : ℕ) → ps ≡ places_of q rs → from ≡ length before → to ≡ length (places_of q (take last rs)) → take (to - from) (drop from ps) ≡ between
  cut_between ps from to are low_is high_is =
      let long : length between ≡ to - from = omega (arith, low_is, high_is, ap length upto, length-append before between) in
      ap (λ l. take (to - from) (drop from l)) (are ∙ whole)
      ∙ ap (take (to - from)) (drop_at before (between ++ behind) from (sym low_is))
      ∙ take_at between behind (to - from) long

  -- at each of them stands a record
  pub are_places : ArePlaces rs between
  are_places = λ index place is.
      let there = sound q (suc after) (take (last - after) (drop after rs)) index place is in
      let inside = slice_get_within (take (last - after) (drop after rs)) there.index there.r there.stands in (
        omega (arith, there.counted),
        omega (arith, there.counted, inside, length-take-le (last - after) (drop after rs) (omega (arith, length-drop after rs, low, within)), low, within),
      )

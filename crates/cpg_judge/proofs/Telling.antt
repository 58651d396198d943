-- What places tell a connection that made no entry at them: what they tell the group that it is in.
use Rattle.std.proofs.Common.{◌≡◌, ℕ, zero, suc, ◌+◌, ◌-◌, ◌<◌, ◌≤◌, Bool, true, false, ◌&&◌, cond, List, [], ◌∷◌, ◌++◌, length, map, take, drop, Option, Some, None, refl, sym, ap, ◌∙◌, arith}
use Rattle.std.specs.Prelude.{option_to_list}
use Rattle.std.specs.List.{concat, flat_map, range_with_len, slice_get}
use Rattle.std.proofs.lemmas.List.{length-append, length-map, length-take-le, map-append, take-append-drop, take-take, take-map, take_at, drop_at, drop-take}
use Rattle.std.proofs.lemmas.List.Folds.{concat-append}
use Rattle.cpg_entry.specs.declared.calls.Call.TheVariants.{Join, Leave, Send, Insert, Remove}
use Rattle.cpg_entry.specs.declared.calls.Op.{Op}
use Rattle.cpg_entry.specs.declared.calls.Op.TheVariants.{Act, Gone}
use Rattle.cpg_record.specs.declared.connections.ConnId.{ConnId}
use Rattle.cpg_record.specs.declared.events.Event.{Event}
use Rattle.cpg_record.specs.declared.events.Event.TheVariants as event
use Rattle.cpg_record.specs.declared.records.Record.{Record}
use Rattle.cpg_record.specs.Events.{events_by, hears_change, news, news_by}
use Rattle.cpg_record.specs.Membership.{group_of, is_allowed, is_member, is_named}
use Rattle.cpg_record.specs.Nexts.{acts_in, is_made_by, reaches}
use Rattle.cpg_record.specs.Places.{places_from, places_of, record_at, records_before}
use Rattle.cpg_record.proofs.Nexts.{groups_stay, hears_of_others, same_either_way}
use Rattle.cpg_group.proofs.Counted.{places_from-append}
use Rattle.cpg_group.specs.Telling.{told_by, told_in, told_from}
use Rattle.cpg_print.specs.Events.{event_line}
use Rattle.cpg_judge.proofs.Ranges.{made_between}
use Rattle.cpg_judge.specs.Inboxes.{told_between}
use Rattle.cpg_judge.specs.Texts.{lines_at, lines_between, told_lines, told_text, texts_upto, HoldsTexts, MakesNone, TextValue}

-- ---- one place

-- members are told what the op tells the group
news_told : (place : ℕ) (before : List Record) (r : Record) (conn : ConnId) (g : List ℕ) (op : Op) (x : Bool) →
    is_member before conn g ≡ x → hears_change before r conn g ≡ x → news_by place before r conn g op ≡ cond x (Some (told_by place before r g op)) None
news_told place before r conn g (Act (Send m)) x is hears = ap (λ (b : Bool). cond b (Some (told_by place before r g (Act (Send m)))) None) is
news_told place before r conn g (Act (Join h)) x is hears = ap (λ (b : Bool). cond b (Some (told_by place before r g (Act (Join h)))) None) hears
news_told place before r conn g (Act Leave) x is hears = ap (λ (b : Bool). cond b (Some (told_by place before r g (Act Leave))) None) hears
news_told place before r conn g Gone x is hears = ap (λ (b : Bool). cond b (Some (told_by place before r g Gone)) None) hears
news_told place before r conn g (Act (Insert h at rule)) x is hears = ap (λ (b : Bool). cond b (Some (told_by place before r g (Act (Insert h at rule)))) None) is
news_told place before r conn g (Act (Remove h id)) x is hears = ap (λ (b : Bool). cond b (Some (told_by place before r g (Act (Remove h id)))) None) is

abbrev no_event : Option Event
no_event = None

none_either_way : (b : Bool) → cond b no_event no_event ≡ no_event
none_either_way true = refl
none_either_way false = refl

-- an allowed record of a group reaches those that are in it
reaches_members : (o : Option (List ℕ)) (r : Record) (g : List ℕ) → is_allowed r.verdict ≡ true → r.group ≡ Some g → reaches o r ≡ is_named o g
reaches_members None r g allowed is = refl
reaches_members (Some h) r g allowed is =
    ap (λ (b : Bool). b && is_named r.group h) allowed ∙ ap (λ (k : Option (List ℕ)). is_named k h) is ∙ same_either_way g h

-- the news of another's record: what it tells its group, where it reaches the connection's
news_of_others : (place : ℕ) (before : List Record) (r : Record) (conn : ConnId) (o : Option (List ℕ)) → r.group ≡ o → is_made_by conn r ≡ false →
    news place before r conn o ≡ cond (reaches (group_of before conn) r) (told_in place before r o) None
news_of_others place before r conn None is other = sym (none_either_way (reaches (group_of before conn) r))
news_of_others place before r conn (Some g) is other = by_case (is_allowed r.verdict) refl
  where
    by_case : (b : Bool) → is_allowed r.verdict ≡ b →
        cond b (news_by place before r conn g r.entry.op) None ≡ cond (reaches (group_of before conn) r) (cond b (Some (told_by place before r g r.entry.op)) None) None
    by_case false denied = sym (none_either_way (reaches (group_of before conn) r))
    by_case true allowed =
        news_told place before r conn g r.entry.op (is_member before conn g) refl (hears_of_others before r conn g (is_member before conn g) other refl)
        ∙ ap (λ (b : Bool). cond b (Some (told_by place before r g r.entry.op)) None) (sym (reaches_members (group_of before conn) r g allowed is))

lines_of_case : (b : Bool) (o : Option Event) → map event_line (option_to_list (cond b o None)) ≡ cond b (map event_line (option_to_list o)) []
lines_of_case true o = refl
lines_of_case false o = refl

-- the lines of another's record
lines_of_others : (rs : List Record) (conn : ConnId) (place : ℕ) (r : Record) → record_at rs place ≡ Some r → is_made_by conn r ≡ false →
    lines_at rs conn place ≡ cond (reaches (group_of (records_before rs place) conn) r) (told_lines rs place) []
lines_of_others rs conn place r is other =
    let before = records_before rs place in
    ap (λ (o : Option Record). map event_line (events_by place (records_before rs place) conn o)) is
    ∙ ap (λ (b : Bool). map event_line (cond b (event.Verdict place r.verdict ∷ []) [] ++ option_to_list (news place (records_before rs place) r conn r.group))) other
    ∙ ap (λ (o : Option Event). map event_line (option_to_list o)) (news_of_others place (records_before rs place) r conn r.group refl other)
    ∙ lines_of_case (reaches (group_of (records_before rs place) conn) r) (told_in place (records_before rs place) r r.group)
    ∙ ap (λ (o : Option Record). cond (reaches (group_of (records_before rs place) conn) r) (map event_line (option_to_list (told_from place (records_before rs place) o))) []) (sym is)

-- ---- places in a row

pub record_there : (rs : List Record) (n : ℕ) → n < length rs → (r : Record) × (slice_get rs n ≡ Some r) × (drop n rs ≡ r ∷ drop (suc n) rs)
record_there [] n h = absurd (omega arith)
record_there (r ∷ rs) zero h = (r, refl, refl)
record_there (r ∷ rs) (suc n) h = record_there rs n (omega (arith, h))

-- places that each make what they tell, or nothing
module _ {A : Type 0} (rs : List Record) (at told : ℕ → List A) (q : Record → Bool) where
  abbrev TellsSo : ℕ → ℕ → Type 0
  TellsSo after last = (place : ℕ) (r : Record) → after < place → place ≤ last → record_at rs place ≡ Some r → at place ≡ cond (q r) (told place) []

  in_a_row : (after count : ℕ) → after + count ≤ length rs → TellsSo after (after + count) →
      flat_map at (range_with_len (after + 1) count) ≡ flat_map told (places_from q (suc after) (take count (drop after rs)))
  in_a_row after zero within so = refl
  in_a_row after (suc count) within so =
      let there = record_there rs after (omega (arith, within)) in
      let next : after + 1 ≡ suc after = omega arith in
      let here : at (after + 1) ≡ cond (q there.0) (told (suc after)) [] =
      ap at next ∙ so (suc after) there.0 (omega arith) (omega arith) there.1 in
      let later : flat_map at (range_with_len (suc after + 1) count) ≡ flat_map told (places_from q (suc (suc after)) (take count (drop (suc after) rs))) =
      in_a_row (suc after) count (omega (arith, within)) (λ place r above below is. so place r (omega (arith, above)) (omega (arith, below)) is) in
      let further : after + 1 + 1 ≡ suc after + 1 = omega arith in
      ap (λ l. l ++ flat_map at (range_with_len (after + 1 + 1) count)) here
      ∙ ap (λ n. cond (q there.0) (told (suc after)) [] ++ flat_map at (range_with_len n count)) further
      ∙ ap (λ l. cond (q there.0) (told (suc after)) [] ++ l) later
      ∙ by_case (q there.0)
      ∙ ap (λ (l : List Record). flat_map told (places_from q (suc after) (take (suc count) l))) (sym there.2)
    where
      by_case : (b : Bool) → cond b (told (suc after)) [] ++ flat_map told (places_from q (suc (suc after)) (take count (drop (suc after) rs)))
          ≡ flat_map told (cond b (suc after ∷ places_from q (suc (suc after)) (take count (drop (suc after) rs))) (places_from q (suc (suc after)) (take count (drop (suc after) rs))))
      by_case true = refl
      by_case false = refl

-- places that make of another's record what they tell, where it reaches the connection's group, and else nothing
abbrev pub OthersTell : {A : Type 0} → List Record → ConnId → (ℕ → List A) → (ℕ → List A) → Type 0
OthersTell rs conn at told =
    (place : ℕ) (r : Record) → record_at rs place ≡ Some r → is_made_by conn r ≡ false → at place ≡ cond (reaches (group_of (records_before rs place) conn) r) (told place) []

module _ {A : Type 0} (rs : List Record) (conn : ConnId) (at told : ℕ → List A) (others : OthersTell rs conn at told)
    (after last : ℕ) (low : after ≤ last) (within : last ≤ length rs) (quiet : MakesNone rs conn after last) where
  -- a connection that made no entry at them hears what places tell the group that it is in before them
  pub heard_there : made_between at after last ≡ flat_map told (places_from (reaches (group_of (take after rs) conn)) (suc after) (take (last - after) (drop after rs)))
  heard_there =
      let sum : after + (last - after) ≡ last = omega (arith, low) in
      in_a_row rs at told (reaches (group_of (take after rs) conn)) after (last - after) (omega (arith, sum, within))
      (λ place r above below is.
      let other : is_made_by conn r ≡ false = quiet place r above (omega (arith, below, sum)) is in
      let same : group_of (records_before rs place) conn ≡ group_of (take after rs) conn =
      groups_stay rs conn after (place - 1) (omega (arith, above)) (λ n s from upto there. quiet (suc n) s (omega (arith, from)) (omega (arith, upto, below, sum)) there) in
      others place r is other
      ∙ ap (λ (o : Option (List ℕ)). cond (reaches o r) (told place) []) same)

  -- one that is in no group hears nothing
  pub none_there : group_of (take after rs) conn ≡ None → made_between at after last ≡ []
  none_there none =
      heard_there
      ∙ ap (λ (o : Option (List ℕ)). flat_map told (places_from (reaches o) (suc after) (take (last - after) (drop after rs)))) none
      ∙ ap (flat_map told) (nowhere (suc after) (take (last - after) (drop after rs)))
    where
      nowhere : (m : ℕ) (past : List Record) → places_from (reaches None) m past ≡ []
      nowhere m [] = refl
      nowhere m (r ∷ past) = nowhere (suc m) past

  -- one that is in a group hears what its places tell the group
  pub told_there : (g : List ℕ) → group_of (take after rs) conn ≡ Some g → flat_map told (places_from (acts_in g) (suc after) (take (last - after) (drop after rs))) ≡ made_between at after last
  told_there g there =
      ap (λ (o : Option (List ℕ)). flat_map told (places_from (reaches o) (suc after) (take (last - after) (drop after rs)))) (sym there)
      ∙ sym heard_there

-- ---- the places of a group

-- the places up to the later one, after those up to the earlier
pub places_parted : (q : Record → Bool) (rs : List Record) (after last : ℕ) → after ≤ last → after ≤ length rs →
    places_of q (take last rs) ≡ places_of q (take after rs) ++ places_from q (suc after) (take (last - after) (drop after rs))
places_parted q rs after last low within =
    let sum : after + (last - after) ≡ last = omega (arith, low) in
    let long : 1 + length (take after rs) ≡ suc after = omega (arith, length-take-le after rs within) in
    let split : take last rs ≡ take after rs ++ take (last - after) (drop after rs) =
    sym (take-append-drop after (take last rs)) ∙ ap (λ l. l ++ drop after (take last rs)) (take-take after last rs low)
    ∙ ap (λ n. take after rs ++ drop after (take n rs)) (sym sum) ∙ ap (λ l. take after rs ++ l) (drop-take after (last - after) rs) in
    ap (places_of q) split ∙ places_from-append q 1 (take after rs) (take (last - after) (drop after rs))
    ∙ ap (λ n. places_of q (take after rs) ++ places_from q n (take (last - after) (drop after rs))) long

-- texts in one, line by line
one_by_one : (rs : List Record) (places : List ℕ) → concat (map (told_text rs) places) ≡ concat (flat_map (told_lines rs) places)
one_by_one rs [] = refl
one_by_one rs (place ∷ places) =
    ap (λ l. told_text rs place ++ l) (one_by_one rs places) ∙ sym (concat-append (told_lines rs place) (flat_map (told_lines rs) places))

module _ (rs : List Record) (g : List ℕ) (after last : ℕ) (low : after ≤ last) (within : last ≤ length rs) where
  abbrev count_at : ℕ → ℕ
  count_at place = length (places_of (acts_in g) (take place rs))

  abbrev between : List ℕ
  between = places_from (acts_in g) (suc after) (take (last - after) (drop after rs))

  pub counts_ascend : count_at after ≤ count_at last
  counts_ascend = omega (arith, ap length (places_parted (acts_in g) rs after last low (omega (arith, low, within))), length-append (places_of (acts_in g) (take after rs)) between)

  pub counts_within : count_at last ≤ length (texts_upto rs g (length rs))
  counts_within =
      omega (
        arith,
        length-map (places_of (acts_in g) (take (length rs) rs)) (told_text rs),
        ap length (places_parted (acts_in g) rs last (length rs) within within),
        length-append (places_of (acts_in g) (take last rs)) (places_from (acts_in g) (suc last) (take (length rs - last) (drop last rs))),
      )

  pub texts_cut : concat (drop (count_at after) (take (count_at last) (texts_upto rs g (length rs)))) ≡ concat (flat_map (told_lines rs) between)
  texts_cut =
      let upto : take (count_at last) (texts_upto rs g (length rs)) ≡ map (told_text rs) (places_of (acts_in g) (take last rs)) =
      take-map (told_text rs) (count_at last) (places_of (acts_in g) (take (length rs) rs))
      ∙ ap (λ ps. map (told_text rs) (take (count_at last) ps)) (places_parted (acts_in g) rs last (length rs) within within)
      ∙ ap (map (told_text rs)) (take_at (places_of (acts_in g) (take last rs)) (places_from (acts_in g) (suc last) (take (length rs - last) (drop last rs))) (count_at last) refl) in
      let parts : map (told_text rs) (places_of (acts_in g) (take last rs)) ≡ map (told_text rs) (places_of (acts_in g) (take after rs)) ++ map (told_text rs) between =
      ap (map (told_text rs)) (places_parted (acts_in g) rs after last low (omega (arith, low, within)))
      ∙ map-append (told_text rs) (places_of (acts_in g) (take after rs)) between in
      ap (λ l. concat (drop (count_at after) l)) (upto ∙ parts)
      ∙ ap concat (drop_at (map (told_text rs) (places_of (acts_in g) (take after rs))) (map (told_text rs) between) (count_at after)
      (length-map (places_of (acts_in g) (take after rs)) (told_text rs)))
      ∙ one_by_one rs between

-- a connection that is in no group hears nothing
pub heard_nothing : (rs : List Record) (conn : ConnId) (after last : ℕ) → after ≤ last → last ≤ length rs → MakesNone rs conn after last →
    group_of (take after rs) conn ≡ None → lines_between rs conn after last ≡ []
heard_nothing rs conn = none_there rs conn (lines_at rs conn) (told_lines rs) (lines_of_others rs conn)

-- what a cut of a group's texts holds, from the count of its places up to one to that up to another
pub told_cut : (rs : List Record) (g : List ℕ) (after last : ℕ) (value : TextValue) (text : List ℕ) (from to : ℕ) → after ≤ last → last ≤ length rs →
    from ≡ length (places_of (acts_in g) (take after rs)) → to ≡ length (places_of (acts_in g) (take last rs)) →
    HoldsTexts value (texts_upto rs g (length rs)) →
    ((texts : List (List ℕ)) → HoldsTexts value texts → from ≤ to → to ≤ length texts → text ≡ concat (drop from (take to texts))) →
    text ≡ told_between rs g after last
told_cut rs g after last value text from to low within from_is to_is holds cut =
    cut (texts_upto rs g (length rs)) holds (omega (arith, from_is, to_is, counts_ascend rs g after last low within)) (omega (arith, to_is, counts_within rs g after last low within))
    ∙ ap (λ n. concat (drop n (take to (texts_upto rs g (length rs))))) from_is
    ∙ ap (λ n. concat (drop (length (places_of (acts_in g) (take after rs))) (take n (texts_upto rs g (length rs))))) to_is
    ∙ texts_cut rs g after last low within

-- one that is in a group hears what its places tell the group
pub heard_in : (rs : List Record) (conn : ConnId) (g : List ℕ) (after last : ℕ) → after ≤ last → last ≤ length rs → MakesNone rs conn after last →
    group_of (take after rs) conn ≡ Some g → told_between rs g after last ≡ concat (lines_between rs conn after last)
heard_in rs conn g after last low within quiet there =
    ap concat (told_there rs conn (lines_at rs conn) (told_lines rs) (lines_of_others rs conn) after last low within quiet g there)

-- the lines of places, one stretch after the other
use Rattle.std.proofs.Common.{◌≡◌, ℕ, ◌+◌, ◌-◌, ◌<◌, ◌≤◌, zero, suc, Bool, true, false, List, [], ◌∷◌, ◌++◌, length, refl, ap, ◌∙◌, append-nil, arith, if◌then◌else◌}
use Rattle.std.specs.List.{concat, flat_map, range_with_len}
use Rattle.std.proofs.lemmas.List.Concat.{flat_map-append}
use Rattle.std.proofs.lemmas.List.Folds.{concat-append}
use Rattle.cpg_record.specs.declared.connections.ConnId.{ConnId}
use Rattle.cpg_record.specs.declared.records.Record.{Record}
use Rattle.cpg_record.specs.Events.{events}
use Rattle.cpg_record.specs.Nexts.{IsNextTold, TellsNoMore}
use Rattle.cpg_record.specs.Places.{record_at}
use Rattle.cpg_judge.specs.Filtering.{event_kept, keeps_there, lines_at, told_lines}
use Rattle.cpg_judge.specs.FilterSteps.{lines_between}
use Rattle.cpg_judge.specs.Judging.{Form, told_at, told_upto}
use Rattle.cpg_judge.specs.declared.filter.filters.Filter.{Filter}
use Rattle.cpg_judge.proofs.Ranges.{made_from_first, made_parted, numbers_parted}

-- nothing, whether it is kept or not
nothing_kept : (b : Bool) (none : List (List ℕ)) → none ≡ [] → (if b then none else []) ≡ []
nothing_kept true none is = is
nothing_kept false none is = refl

-- lists that items make, as one list
pub concat_flat_map : {A : Type 0} (f : A → List (List ℕ)) (xs : List A) → concat (flat_map f xs) ≡ flat_map (λ x. concat (f x)) xs
concat_flat_map f [] = refl
concat_flat_map f (x ∷ xs) = concat-append (f x) (flat_map f xs) ∙ ap (λ l. concat (f x) ++ l) (concat_flat_map f xs)

module _ (f : Form) (rs : List Record) where
  -- the lines of the records of one place more, and then those of the later ones
  pub told_parted : (count more : ℕ) → told_upto f rs (count + more) ≡ told_upto f rs count ++ flat_map (told_at f rs) (range_with_len (1 + count) more)
  told_parted count more =
      ap (flat_map (told_at f rs)) (numbers_parted 1 count more) ∙ flat_map-append (told_at f rs) (range_with_len 1 count) (range_with_len (1 + count) more)

  pub one_told_more : (count : ℕ) → told_upto f rs (count + 1) ≡ told_upto f rs count ++ told_at f rs (count + 1)
  one_told_more count =
      let here : 1 + count ≡ count + 1 = omega arith in
      told_parted count 1 ∙ ap (λ n. told_upto f rs count ++ (told_at f rs n ++ [])) here ∙ ap (λ l. told_upto f rs count ++ l) (append-nil (told_at f rs (count + 1)))

module _ (f : Filter) (rs : List Record) (conn : ConnId) where
  -- a place that tells nothing has no lines
  quiet_at : (place : ℕ) → events rs place conn ≡ [] → lines_at f rs conn place ≡ []
  quiet_at place quiet =
      nothing_kept (keeps_there f place (record_at rs place)) (flat_map (event_kept f.only) (events rs place conn)) (ap (flat_map (event_kept f.only)) quiet)

  -- the lines between two places, parted at one amid
  pub between_parted : (after amid last : ℕ) → after ≤ amid → amid ≤ last
      → lines_between f rs conn after last ≡ lines_between f rs conn after amid ++ lines_between f rs conn amid last
  between_parted = made_parted (lines_at f rs conn)

  -- the lines of all places
  pub all_places : told_lines f rs conn ≡ lines_between f rs conn 0 (length rs)
  all_places = made_from_first (lines_at f rs conn) (length rs)

  quiet_range : (start count : ℕ) → ((place : ℕ) → start ≤ place → place < start + count → events rs place conn ≡ []) → flat_map (lines_at f rs conn) (range_with_len start count) ≡ []
  quiet_range start zero quiet = refl
  quiet_range start (suc count) quiet =
      ap (λ told. told ++ flat_map (lines_at f rs conn) (range_with_len (start + 1) count)) (quiet_at start (quiet start (omega arith) (omega arith)))
      ∙ quiet_range (start + 1) count (λ place low high. quiet place (omega (arith, low)) (omega (arith, high)))

  -- places that tell nothing have no lines
  pub quiet_between : (after last : ℕ) → after ≤ last → ((place : ℕ) → after < place → place ≤ last → events rs place conn ≡ []) → lines_between f rs conn after last ≡ []
  quiet_between after last low quiet =
      quiet_range (after + 1) (last - after) (λ place from upto. quiet place (omega (arith, from)) (omega (arith, low, upto)))

  -- the lines up to the next place that tells anything are those of that place
  pub next_between : (after place : ℕ) → IsNextTold rs after conn place → lines_between f rs conn after place ≡ lines_at f rs conn place
  next_between after place next =
      let one : place - (place - 1) ≡ 1 = omega (arith, next.above) in
      let here : place - 1 + 1 ≡ place = omega (arith, next.above) in
      between_parted after (place - 1) place (omega (arith, next.above)) (omega (arith, next.above))
      ∙ ap (λ l. l ++ lines_between f rs conn (place - 1) place) (quiet_between after (place - 1) (omega (arith, next.above)) (λ earlier from upto. next.none_between earlier from (omega (arith, upto, next.above))))
      ∙ ap (λ n. flat_map (lines_at f rs conn) (range_with_len (place - 1 + 1) n)) one
      ∙ ap (λ n. lines_at f rs conn n ++ []) here
      ∙ append-nil (lines_at f rs conn place)

  -- the lines up to a place that tells something, those before it and its own
  pub one_place_more : (after place : ℕ) → IsNextTold rs after conn place → lines_between f rs conn 0 place ≡ lines_between f rs conn 0 after ++ lines_at f rs conn place
  one_place_more after place next =
      between_parted 0 after place (omega arith) (omega (arith, next.above)) ∙ ap (λ l. lines_between f rs conn 0 after ++ l) (next_between after place next)

  -- where no place above tells anything
  pub all_told : (after : ℕ) → after ≤ length rs → TellsNoMore rs after conn → told_lines f rs conn ≡ lines_between f rs conn 0 after
  all_told after within none =
      all_places ∙ between_parted 0 after (length rs) (omega arith) within
      ∙ ap (λ l. lines_between f rs conn 0 after ++ l) (quiet_between after (length rs) within (λ place above upto. none place above))
      ∙ append-nil (lines_between f rs conn 0 after)

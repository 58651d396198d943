-- the lines of places, one stretch after the other
use Rattle.std.proofs.Common.{◌≡◌, ℕ, ◌-◌, ◌<◌, ◌≤◌, List, [], ◌∷◌, ◌++◌, length, map, refl, ap, ◌∙◌, arith}
use Rattle.std.specs.List.{concat, flat_map, range_with_len}
use Rattle.cpg_record.specs.declared.connections.ConnId.{ConnId}
use Rattle.cpg_record.specs.declared.events.Event.{Event}
use Rattle.cpg_record.specs.declared.records.Record.{Record}
use Rattle.cpg_record.specs.Events.{events, inbox}
use Rattle.cpg_text.proofs.Lined.{map-flat_map}
use Rattle.cpg_judge.proofs.Ranges.{made_by_last, made_from_first, made_parted}
use Rattle.cpg_json.specs.Events.{event_json}
use Rattle.cpg_json.specs.Steps.{lines_at, lines_between}

module _ (rs : List Record) (conn : ConnId) where
  -- the lines between two places, parted at one amid
  pub between_parted : (after amid last : ℕ) → after ≤ amid → amid ≤ last
      → lines_between rs conn after last ≡ lines_between rs conn after amid ++ lines_between rs conn amid last
  between_parted = made_parted (lines_at rs conn)

  -- the lines of all places are those of the inbox
  pub inbox_by_place : map (event_json conn) (inbox rs conn) ≡ lines_between rs conn 0 (length rs)
  inbox_by_place =
      map-flat_map (event_json conn) (λ place. events rs place conn) (range_with_len 1 (length rs)) ∙ made_from_first (lines_at rs conn) (length rs)

  -- the lines up to a place, and those of the place
  pub one_place_more : (after place : ℕ) → after < place → lines_between rs conn after place ≡ lines_between rs conn after (place - 1) ++ lines_at rs conn place
  one_place_more = made_by_last (lines_at rs conn)

  -- the inbox, up to a place and after it
  pub inbox_parted : (place : ℕ) → place ≤ length rs → map (event_json conn) (inbox rs conn) ≡ lines_between rs conn 0 place ++ lines_between rs conn place (length rs)
  inbox_parted place within = inbox_by_place ∙ between_parted 0 place (length rs) (omega arith) within

  -- lines as one text
  pub one_text : (told : List Event) → flat_map (event_json conn) told ≡ concat (map (event_json conn) told)
  one_text [] = refl
  one_text (event ∷ told) = ap (λ text. event_json conn event ++ text) (one_text told)

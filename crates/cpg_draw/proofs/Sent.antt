-- the frames of a row as arrows, one after the other
use Rattle.std.proofs.Common.{◌≡◌, ℕ, ◌+◌, ◌<◌, ◌≤◌, List, [], ◌∷◌, ◌++◌, length, drop, slice_get, get_or, Option, Some, None, refl, sym, ap, ◌∙◌, append_assoc, append-nil, add-one, arith}
use Rattle.std.proofs.lemmas.List.{drop_more, drop_all}
use Rattle.std.proofs.lemmas.Option.{none-some, get_or_from_slice_get, slice_get-get_or, slice_get_within}
use Rattle.cpg_ring.specs.States.{Frame}
use Rattle.cpg_ring.specs.Worlds.{item}
use Rattle.cpg_draw.specs.declared.arrows.Arrow.{Arrow}
use Rattle.cpg_draw.specs.declared.excerpts.Spot.{Spot}
use Rattle.cpg_draw.specs.Arrows.{arrow_of, arrow_list, made_at, arrows_of}

-- what is left of a list at an item that is there
drop_at_item : (sent : List Frame) (index : ℕ) (f : Frame) → slice_get sent index ≡ Some f → drop index sent ≡ f ∷ drop (index + 1) sent
drop_at_item sent index f e =
    drop_more sent index f (slice_get_within sent index f e) ∙ ap (λ x. x ∷ drop (index + 1) sent) (get_or_from_slice_get sent index f f e)

-- the arrow of one frame more
sent_more : (row : Spot) (node seq index : ℕ) (sent : List Frame) (f : Frame) (whole known next : List Arrow) → slice_get sent index ≡ Some f
    → whole ≡ known ++ arrows_of (index + 1) row node seq (drop index sent) → next ≡ known ++ arrow_of (index + 1) row node seq f ∷ []
    → whole ≡ next ++ arrows_of (index + 1 + 1) row node seq (drop (index + 1) sent)
sent_more row node seq index sent f whole known next there before put =
    before ∙ (ap (λ fs. known ++ arrows_of (index + 1) row node seq fs) (drop_at_item sent index f there)
    ∙ (sym (append_assoc known (arrow_of (index + 1) row node seq f ∷ []) (arrows_of (index + 1 + 1) row node seq (drop (index + 1) sent)))
    ∙ ap (λ arrows. arrows ++ arrows_of (index + 1 + 1) row node seq (drop (index + 1) sent)) (sym put)))

sent_at : (row : Spot) (node seq index : ℕ) (sent : List Frame) (o : Option Frame) (whole known next : List Arrow) → slice_get sent index ≡ o → index < length sent
    → whole ≡ known ++ arrows_of (index + 1) row node seq (drop index sent) → next ≡ known ++ arrow_list (made_at (index + 1) row node seq o)
    → whole ≡ next ++ arrows_of (index + 1 + 1) row node seq (drop (index + 1) sent)
sent_at row node seq index [] None whole known next there within before put = absurd (omega arith)
sent_at row node seq index (f ∷ sent) None whole known next there within before put =
    absurd (none-some (get_or (f ∷ sent) index f) (sym there ∙ slice_get-get_or (f ∷ sent) index f within))
sent_at row node seq index sent (Some f) whole known next there within before put = sent_more row node seq index sent f whole known next there before put

item_next : (sent : List Frame) (i : ℕ) → item sent (i + 1) ≡ slice_get sent i
item_next sent i = ap (item sent) (add-one i)

-- the arrow of the frame at an index that is there
pub sent_step : (row : Spot) (node seq index : ℕ) (sent : List Frame) (whole known next : List Arrow) → index < length sent
    → whole ≡ known ++ arrows_of (index + 1) row node seq (drop index sent) → next ≡ known ++ arrow_list (made_at (index + 1) row node seq (item sent (index + 1)))
    → whole ≡ next ++ arrows_of (index + 1 + 1) row node seq (drop (index + 1) sent)
sent_step row node seq index sent whole known next within before put =
    sent_at row node seq index sent (slice_get sent index) whole known next refl within before
    (put ∙ ap (λ o. known ++ arrow_list (made_at (index + 1) row node seq o)) (item_next sent index))

-- no frame is left
pub sent_all : (row : Spot) (node seq index : ℕ) (sent : List Frame) (whole known : List Arrow) → length sent ≤ index
    → whole ≡ known ++ arrows_of (index + 1) row node seq (drop index sent) → known ≡ whole
sent_all row node seq index sent whole known all before =
    sym (before ∙ (ap (λ fs. known ++ arrows_of (index + 1) row node seq fs) (drop_all index sent all) ∙ append-nil known))

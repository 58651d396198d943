-- How a connection stands to the entries of records, one record more.
use Rattle.std.proofs.Common.{◌≡◌, ℕ, ◌+◌, ◌<◌, Bool, true, false, cond, List, [], ◌∷◌, ◌++◌, length, take, Option, Some, None, sym, ap, ◌∙◌, arith}
use Rattle.std.specs.List.{fold, enumerate_from}
use Rattle.std.proofs.lemmas.List.{length-take-le}
use Rattle.std.proofs.lemmas.List.Sums.{fold_push}
use Rattle.cpg_record.specs.declared.connections.ConnId.{ConnId}
use Rattle.cpg_record.specs.declared.records.Record.{Record}
use Rattle.cpg_record.proofs.Growing.{enumerate_from-push}
use Rattle.cpg_why.specs.Moves.{last_move, moved}
use Rattle.cpg_why.specs.Standings.{last_tried, tried}
use Rattle.cpg_why.proofs.Moved.{last_move_push}

-- the last denied join after one record more
last_tried_push : (rs : List Record) (r : Record) (conn : ConnId) → last_tried (rs ++ r ∷ []) conn ≡ tried conn (last_tried rs conn) (1 + length rs, r)
last_tried_push rs r conn =
    ap (fold (tried conn) None) (enumerate_from-push 1 rs r) ∙ fold_push (tried conn) None (enumerate_from 1 rs) (1 + length rs, r)

-- what was seen of the first records, and of one more
pub seen_one_more : (rs : List Record) (conn : ConnId) (index : ℕ) (r : Record) (last again : Option ℕ) → index < length rs → take (index + 1) rs ≡ take index rs ++ r ∷ []
    → last ≡ last_move (take index rs) conn → again ≡ last_tried (take index rs) conn
    → (moved conn last (index + 1, r) ≡ last_move (take (index + 1) rs) conn) × (tried conn again (index + 1, r) ≡ last_tried (take (index + 1) rs) conn)
seen_one_more rs conn index r last again within more moves tries =
    let count : 1 + length (take index rs) ≡ index + 1 = omega (arith, length-take-le index rs (omega (arith, within))) in (
      ap (λ (seen : Option ℕ). moved conn seen (index + 1, r)) moves ∙ ap (λ (n : ℕ). moved conn (last_move (take index rs) conn) (n, r)) (sym count)
          ∙ (sym (last_move_push (take index rs) r conn) ∙ ap (λ (past : List Record). last_move past conn) (sym more)),
      ap (λ (seen : Option ℕ). tried conn seen (index + 1, r)) tries ∙ ap (λ (n : ℕ). tried conn (last_tried (take index rs) conn) (n, r)) (sym count)
          ∙ (sym (last_tried_push (take index rs) r conn) ∙ ap (λ (past : List Record). last_tried past conn) (sym more)),
    )

-- the last moves of connections after one record more
use Rattle.std.proofs.Common.{◌≡◌, ℕ, ◌+◌, Bool, true, cond, ◌&&◌, List, [], ◌∷◌, ◌++◌, length, Option, Some, None, sym, ap, ◌∙◌}
use Rattle.std.specs.List.{fold, enumerate_from}
use Rattle.std.proofs.lemmas.List.Sums.{fold_push}
use Rattle.cpg_entry.specs.Entries.{is_move}
use Rattle.cpg_record.specs.declared.connections.ConnId.{ConnId}
use Rattle.cpg_record.specs.declared.records.Record.{Record}
use Rattle.cpg_record.specs.Connections.{conn_of, is_conn}
use Rattle.cpg_record.specs.Membership.{is_allowed}
use Rattle.cpg_record.proofs.Growing.{enumerate_from-push}
use Rattle.cpg_why.specs.Moves.{moved, last_move, kept_move, KeptMoves, AreLastMoves}

-- an allowed move is of its maker
pub moved_by : (place : ℕ) (r : Record) (maker conn : ConnId) (last : Option ℕ) → maker ≡ conn_of r.entry → is_allowed r.verdict ≡ true → is_move r.entry.op ≡ true
    → cond (is_conn maker conn) (Some place) last ≡ moved conn last (place, r)
moved_by place r maker conn last by allowed move =
    ap (λ (k : ConnId). cond (is_conn k conn) (Some place) last) by
    ∙ sym (ap (λ (b : Bool). cond (b && is_move r.entry.op && is_conn (conn_of r.entry) conn) (Some place) last) allowed
    ∙ ap (λ (b : Bool). cond (true && b && is_conn (conn_of r.entry) conn) (Some place) last) move)

-- the last move after one record more
pub last_move_push : (rs : List Record) (r : Record) (conn : ConnId) → last_move (rs ++ r ∷ []) conn ≡ moved conn (last_move rs conn) (1 + length rs, r)
last_move_push rs r conn =
    ap (fold (moved conn) None) (enumerate_from-push 1 rs r) ∙ fold_push (moved conn) None (enumerate_from 1 rs) (1 + length rs, r)

-- the kept ones are those of the records with one more
pub moves_push : (old new : KeptMoves) (rs : List Record) (r : Record) → AreLastMoves old rs → ((conn : ConnId) → kept_move new conn ≡ moved conn (kept_move old conn) (1 + length rs, r))
    → AreLastMoves new (rs ++ r ∷ [])
moves_push old new rs r are taken = λ conn.
    taken conn ∙ ap (λ (last : Option ℕ). moved conn last (1 + length rs, r)) (are conn) ∙ sym (last_move_push rs r conn)

-- Members and moves as processes.
use Rattle.std.proofs.Common.{◌≡◌, ℕ, suc, List, [], ◌∷◌, ◌++◌, map, length, refl, ap, ◌∙◌, append_assoc}
use Rattle.std.specs.List.{flat_map}
use Rattle.cpg_record.specs.declared.memberships.Member.{Member}
use Rattle.cpg_record.specs.declared.moves.Move.{Move}
use Rattle.cpg_ask.specs.Tells.{still, moved, member_bytes, move_bytes, processes_bytes, all_bytes}

pub members_mapped : (members : List Member) → processes_bytes (map still members) ≡ flat_map member_bytes members
members_mapped [] = refl
members_mapped (m ∷ members) = ap (λ (l : List ℕ). member_bytes m ++ l) (members_mapped members)

pub moves_mapped : (moves : List Move) → processes_bytes (map moved moves) ≡ flat_map move_bytes moves
moves_mapped [] = refl
moves_mapped (m ∷ moves) = ap (λ (l : List ℕ). move_bytes m ++ l) (moves_mapped moves)

pub length_mapped : {X Y : Type 0} (f : X → Y) (xs : List X) → length (map f xs) ≡ length xs
length_mapped f [] = refl
length_mapped f (x ∷ xs) = ap suc (length_mapped f xs)

pub all_mapped : (out : List ℕ) (members : List Member) (left joined : List Move)
    → ((out ++ flat_map member_bytes members) ++ flat_map move_bytes left) ++ flat_map move_bytes joined ≡ out ++ all_bytes (map still members) (map moved left) (map moved joined)
all_mapped out members left joined =
    rw (members_mapped members, moves_mapped left, moves_mapped joined)
    (append_assoc (out ++ flat_map member_bytes members) (flat_map move_bytes left) (flat_map move_bytes joined)
    ∙ append_assoc out (flat_map member_bytes members) (flat_map move_bytes left ++ flat_map move_bytes joined))

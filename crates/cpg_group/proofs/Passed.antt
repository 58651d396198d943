-- what one record more does, under names of this crate
use Rattle.std.proofs.Common.{◌≡◌, ℕ, ◌-◌, ◌≤◌, List, [], ◌∷◌, ◌++◌}
use Rattle.cpg_record.specs.declared.connections.ConnId.{ConnId}
use Rattle.cpg_record.specs.declared.records.Record.{Record}
use Rattle.cpg_record.specs.Membership.{group_of, members}
use Rattle.std.specs.List.{slice_get}
use Rattle.cpg_record.specs.Places.{record_at}
use Rattle.cpg_record.specs.Steps.{group_after, members_after}
use Rattle.cpg_record.proofs.Growing as push
use Rattle.cpg_record.proofs.Placing as placing

pub members_push : (rs : List Record) (r : Record) (g : List ℕ) → members (rs ++ r ∷ []) g ≡ members_after r g (members rs g)
members_push rs r g = push.members_push rs r g

pub group_of_push : (rs : List Record) (r : Record) (conn : ConnId) → group_of (rs ++ r ∷ []) conn ≡ group_after r conn (group_of rs conn)
group_of_push rs r conn = push.group_of_push rs r conn

pub record_at_index : (rs : List Record) (place : ℕ) → 1 ≤ place → record_at rs place ≡ slice_get rs (place - 1)
record_at_index rs place h = placing.record_at-index rs place h

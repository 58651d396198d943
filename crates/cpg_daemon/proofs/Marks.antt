-- The safe mark that a node's station tells, and the beginning of the history after which it is that.
use Rattle.std.proofs.Common.{◌≡◌, ℕ, List, inl, inr, subst}
use Rattle.cpg_ring.specs.States.{safe_mark}
use Rattle.cpg_world_laws.specs.declared.events.WorldEvent.{WorldEvent}
use Rattle.cpg_world_laws.specs.Worlds.{WorldValue}
use Rattle.cpg_history.specs.Members.{MemberValue, IsAt, IsSafeAt}
use Rattle.cpg_daemon.specs.Clusters.{IsMarkIn}

-- of the node's own station
pub marked : (start : WorldValue) (m : MemberValue) (id place : ℕ) → m.id ≡ id → IsAt start m.seen m.id m.station.node → place ≡ safe_mark m.station.node.ring.state.arus → IsMarkIn start m.seen id place
marked start m id place same at is = inr (m.station.node, subst (λ n. IsAt start m.seen n m.station.node) same at, is)

-- of no station of the node
pub unmarked : (start : WorldValue) (seen : List WorldEvent) (id place : ℕ) → place ≡ 0 → IsMarkIn start seen id place
unmarked start seen id place none = inl none

-- without the beginning
pub mark_is_safe : (start : WorldValue) (seen : List WorldEvent) (id place : ℕ) → IsMarkIn start seen id place → IsSafeAt start id place
mark_is_safe start seen id place (inl none) = inl none
mark_is_safe start seen id place (inr mark) = inr (seen, mark.0, mark.1, mark.2)

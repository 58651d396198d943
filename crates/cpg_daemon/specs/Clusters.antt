-- What running nodes are seen as.
use Rattle.std.specs.Prelude.{ℕ, ◌≡◌, ◌⊎◌, List}
use Rattle.cpg_cred.specs.Listed.{Listed}
use Rattle.cpg_cred.specs.declared.refusals.Refusal.{Refusal}
use Rattle.cpg_cred.specs.declared.refusals.Refusal.TheVariants.{Memory, Range}
use Rattle.cpg_ring.specs.States.{IsSettings, safe_mark}
use Rattle.cpg_ring.specs.declared.settings.Settings.{Settings}
use Rattle.cpg_node.specs.Nodes.{NodeValue}
use Rattle.cpg_world_laws.specs.declared.events.WorldEvent.{WorldEvent}
use Rattle.cpg_world_laws.specs.Worlds.{WorldValue}
use Rattle.cpg_history.specs.Members.{IsAt}

-- Running nodes: how many there are, and the list that they accept by.
pub record ClusterValue : Type 0 where
  pub nodes : ℕ
  pub list : Listed

-- the place is 0; or the node is there after just these events of the history, and the place is its safe mark then
abbrev pub IsMarkIn : WorldValue → List WorldEvent → ℕ → ℕ → Type 0
IsMarkIn start seen id place = (place ≡ 0) ⊎ ((x : NodeValue) × IsAt start seen id x × (place ≡ safe_mark x.ring.state.arus))

-- why a cluster isn't started
abbrev pub IsUnstarted : Settings → Refusal → Type 0
IsUnstarted settings Range = ¬ IsSettings settings
IsUnstarted settings Memory = IsSettings settings
IsUnstarted settings _ = ⊥

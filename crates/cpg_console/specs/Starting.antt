-- how a world or a cluster starts, or why it does not
use Rattle.std.specs.Prelude.{ℕ, ◌≡◌, ◌⊎◌, List, Option, Some, None, IfSome}
use Rattle.cpg_cred.specs.Listed.{Listed}
use Rattle.cpg_cred.specs.declared.refusals.Refusal.TheVariants.{Range, Memory}
use Rattle.cpg_ring.specs.States.{IsSettings}
use Rattle.cpg_ring.specs.declared.settings.Settings.{Settings}
use Rattle.cpg_world_laws.specs.Worlds.{WorldValue, new_world}
use Rattle.cpg_accept.specs.Accepting.{whole_fault}
use Rattle.cpg_cluster.specs.Lines.{Printed}
use Rattle.cpg_cluster.specs.Running as cluster
use Rattle.cpg_cluster.specs.Scripts.{commands_of_script}
use Rattle.cpg_console.specs.Runs.{ClustersAll}
use Rattle.cpg_console.specs.declared.failures.Failure.{Failure}
use Rattle.cpg_console.specs.declared.failures.Failure.TheVariants.{BadWord, Fault}

-- the world is a new one of the list, which is there
abbrev pub IsStarted : Settings → Option Listed → WorldValue → Type 0
IsStarted s None w = ⊥
IsStarted s (Some list) w = w ≡ new_world s list

-- why none is made of a list: want of memory, or settings out of their ranges
abbrev pub IsUnmade : Settings → Failure → Type 0
IsUnmade s failure = (failure ≡ Fault (whole_fault Memory)) ⊎ ((failure ≡ Fault (whole_fault Range)) × (¬ IsSettings s))

-- why there is none: a wrong word, or none is made of the list
abbrev pub IsNotStarted : Settings → Option Listed → Failure → Type 0
IsNotStarted s None failure = failure ≡ BadWord
IsNotStarted s (Some list) failure = IsUnmade s failure

-- what a failure leaves of a script over a cluster of so many nodes whose history starts so
abbrev pub ClusterLeaves : Printed → ℕ → WorldValue → List ℕ → Failure → Option (List ℕ) → Option (List ℕ) → Type 0
ClusterLeaves printed nodes start script (Fault fault) old new = (fault.part ≡ None) × cluster.Leaves printed start (commands_of_script nodes script) fault.refusal old new
ClusterLeaves printed nodes start script _ old new = ⊥

-- what is written of the script that a reader tells, where that is known, over such a cluster
abbrev pub ClusterEnds : Printed → ℕ → WorldValue → Option (List ℕ) → Option Failure → Option (List ℕ) → Option (List ℕ) → Type 0
ClusterEnds printed nodes start input None old new = IfSome input (λ script. ClustersAll printed nodes start script old new)
ClusterEnds printed nodes start input (Some failure) old new = IfSome input (λ script. ClusterLeaves printed nodes start script failure old new)

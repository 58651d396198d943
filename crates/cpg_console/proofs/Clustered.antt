-- what is written of a script that is run over a new cluster, and of one that finds none
use Rattle.std.proofs.Common.{◌≡◌, ℕ, List, Option, Some, None, Result, Ok, Err, inl, refl, sym, ap, ◌∙◌, subst}
use Rattle.std.specs.Prelude.{IfSome}
use Rattle.std.proofs.KnownBytes.{Keeps-refl}
use Rattle.cpg_cred.specs.Listed.{Listed}
use Rattle.cpg_cred.specs.declared.refusals.Refusal.{Refusal}
use Rattle.cpg_cred.specs.declared.refusals.Refusal.TheVariants as refusal
use Rattle.cpg_accept.specs.Accepting.{whole_fault}
use Rattle.cpg_text.specs.declared.faults.Fault as script
use Rattle.cpg_ring.specs.declared.settings.Settings.{Settings}
use Rattle.cpg_cluster.specs.declared.commands.Numbered.{Numbered}
use Rattle.cpg_world_laws.specs.Worlds.{WorldValue, new_world}
use Rattle.cpg_daemon.specs.Clusters.{ClusterValue}
use Rattle.cpg_cluster.specs.Answers.{no_sessions}
use Rattle.cpg_cluster.specs.Lines.{Printed}
use Rattle.cpg_cluster.specs.Running as cluster
use Rattle.cpg_cluster.specs.Scripts.{commands_of_script}
use Rattle.cpg_console.specs.declared.failures.Failure.{Failure}
use Rattle.cpg_console.specs.declared.failures.Failure.TheVariants.{BadWord, Fault, Missing}
use Rattle.cpg_console.specs.Runs.{Clusters, ClustersAll, ClustersOf, ClustersUpTo, FailsLate}
use Rattle.cpg_console.specs.Starting.{ClusterEnds, ClusterLeaves, IsNotStarted}
use Rattle.cpg_console.proofs.NotStarted.{unless_known}
use Rattle.cpg_console.proofs.Late.{run_late}

no_memory : (printed : Printed) (start : WorldValue) (commands : Result (List Numbered) ℕ) (a : Option (List ℕ)) → cluster.Leaves printed start commands refusal.Memory a a
no_memory printed start (Ok commands) a = (no_sessions, inl (Keeps-refl a, refl))
no_memory printed start (Err bad) a = (no_sessions, (Keeps-refl a, refl))

ended : (known : Option (List ℕ)) (printed : Printed) (s : Settings) (list : Listed) (a : Option (List ℕ)) → IfSome known (λ lines. Clusters printed s (Some list) lines (Some (Fault (whole_fault refusal.Memory))) a a)
ended None printed s list a = tt
ended (Some lines) printed s list a = (refl, no_memory printed (new_world s list) (commands_of_script s.nodes lines) a)

-- where memory was refused before there was a cluster
pub none_of_memory : (known : Option (List ℕ)) (printed : Printed) (s : Settings) (list : Listed) (refused : Refusal) (failure : Failure) (a : Option (List ℕ))
    → failure ≡ Fault (record { part = None; refusal = refused }) → refused ≡ refusal.Memory → IfSome known (λ lines. Clusters printed s (Some list) lines (Some failure) a a)
none_of_memory known printed s list refused failure a is e =
    subst (λ (f : Failure). IfSome known (λ lines. Clusters printed s (Some list) lines (Some f) a a)) (sym (is ∙ ap (λ (r : Refusal). Fault (whole_fault r)) e)) (ended known printed s list a)

-- nothing is written where there is no cluster
pub none_clustered : (known : Option (List ℕ)) (printed : Printed) (s : Settings) (list : Option Listed) (failure : Failure) (a : Option (List ℕ)) → IsNotStarted s list failure
    → IfSome known (λ lines. Clusters printed s list lines (Some failure) a a)
none_clustered known printed s list failure a =
    unless_known (λ lines l f. Clusters printed s l lines (Some f) a a) known s list failure (λ lines. (refl, Keeps-refl a))
    (λ lines l. (refl, no_memory printed (new_world s l) (commands_of_script s.nodes lines) a)) (λ lines l out. (refl, (out, Keeps-refl a)))

no_range : (printed : Printed) (start : WorldValue) (commands : Result (List Numbered) ℕ) (a b : Option (List ℕ)) → cluster.Leaves printed start commands refusal.Range a b → ⊥
no_range printed start (Ok commands) a b h = h.1
no_range printed start (Err bad) a b h = h.1

up_to : (printed : Printed) (s : Settings) (list : Listed) (lines : List ℕ) (refused : Refusal) (a b : Option (List ℕ))
    → cluster.Leaves printed (new_world s list) (commands_of_script s.nodes lines) refused a b → ClustersUpTo printed s list lines refused a b
up_to printed s list lines refusal.Range a b h = absurd (no_range printed (new_world s list) (commands_of_script s.nodes lines) a b h)
up_to printed s list lines refused a b h = h

left : (printed : Printed) (s : Settings) (list : Listed) (lines : List ℕ) (failure : Failure) (a b : Option (List ℕ)) → ClusterLeaves printed s.nodes (new_world s list) lines failure a b → Clusters printed s (Some list) lines (Some failure) a b
left printed s list lines BadWord a b h = h
left printed s list lines (Missing what) a b h = h
left printed s list lines (Fault fault) a b h = (h.0, up_to printed s list lines fault.refusal a b h.1)

-- the script was run over a new cluster
clustered : (known : Option (List ℕ)) (printed : Printed) (s : Settings) (list : Listed) (made : ClusterValue) (start : WorldValue) (a b : Option (List ℕ))
    → made ≡ record { nodes = s.nodes; list = list } → new_world s list ≡ start
    → IfSome known (λ lines. ClustersAll printed made.nodes start lines a b) → IfSome known (λ lines. Clusters printed s (Some list) lines None a b)
clustered None printed s list made start a b started named h = tt
clustered (Some lines) printed s list made start a b started named h =
    subst (λ (w : WorldValue). ClustersAll printed s.nodes w lines a b) (sym named) (subst (λ (c : ClusterValue). ClustersAll printed c.nodes start lines a b) started h)

-- a fault of the script ended it
left_clustered : (known : Option (List ℕ)) (printed : Printed) (s : Settings) (list : Listed) (made : ClusterValue) (start : WorldValue) (failure : Failure) (a b : Option (List ℕ))
    → made ≡ record { nodes = s.nodes; list = list } → new_world s list ≡ start
    → IfSome known (λ lines. ClusterLeaves printed made.nodes start lines failure a b) → IfSome known (λ lines. Clusters printed s (Some list) lines (Some failure) a b)
left_clustered None printed s list made start failure a b started named h = tt
left_clustered (Some lines) printed s list made start failure a b started named h =
    left printed s list lines failure a b
    (subst (λ (w : WorldValue). ClusterLeaves printed s.nodes w lines failure a b) (sym named) (subst (λ (c : ClusterValue). ClusterLeaves printed c.nodes start lines failure a b) started h))

-- how a script over a new cluster ended
pub ends_clustered : (known : Option (List ℕ)) (printed : Printed) (s : Settings) (list : Listed) (made : ClusterValue) (start : WorldValue) (failure : Option Failure) (a b : Option (List ℕ))
    → made ≡ record { nodes = s.nodes; list = list } → new_world s list ≡ start → ClusterEnds printed made.nodes start known failure a b → ClustersOf printed s (Some list) known failure a b
ends_clustered known printed s list made start None a b started named h = clustered known printed s list made start a b started named h
ends_clustered known printed s list made start (Some failure) a b started named h = left_clustered known printed s list made start failure a b started named h

pub part_late : (fault : script.Fault) (a b : Option (List ℕ)) → cluster.EndsRunning fault.refusal a b → FailsLate (Fault fault) a b
part_late fault a b h = run_late fault.refusal a b h

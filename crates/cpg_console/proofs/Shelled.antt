-- what is left of a shell that finds no cluster, and of one that a fault ends
use Rattle.std.proofs.Common.{◌≡◌, ℕ, List, [], ◌++◌, Option, Some, None, refl, sym, subst}
use Rattle.std.specs.Prelude.{IfSome}
use Rattle.std.proofs.KnownBytes.{Appends-nil, Keeps-refl}
use Rattle.cpg_cred.specs.Listed.{Listed}
use Rattle.cpg_cred.specs.declared.refusals.Refusal.{Refusal}
use Rattle.cpg_cred.specs.declared.refusals.Refusal.TheVariants as refusal
use Rattle.cpg_accept.specs.Accepting.{whole_fault}
use Rattle.cpg_text.specs.Lines.{lines_of}
use Rattle.cpg_ring.specs.declared.settings.Settings.{Settings}
use Rattle.cpg_world_laws.specs.Worlds.{WorldValue, new_world}
use Rattle.cpg_daemon.specs.Clusters.{ClusterValue}
use Rattle.cpg_cluster.specs.Lines.{Printed}
use Rattle.cpg_cluster.specs.Shelled.{IsEnded}
use Rattle.cpg_console.specs.Shelling.{ShellEnds, Shells, ShellsUpTo}
use Rattle.cpg_console.specs.Starting.{IsNotStarted}
use Rattle.cpg_console.proofs.NotStarted.{unless_started}
use Rattle.cpg_console.specs.declared.failures.Failure.{Failure}
use Rattle.cpg_console.specs.declared.failures.Failure.TheVariants.{BadWord, Fault, Missing}

-- all lines are still to come
abbrev later_of : Option (List ℕ) → List (List ℕ)
later_of None = []
later_of (Some bytes) = lines_of bytes

all_later : (input : Option (List ℕ)) → IfSome input (λ bytes. lines_of bytes ≡ [] ++ later_of input)
all_later None = tt
all_later (Some bytes) = refl

-- want of memory before the first line
none_ended : (form : Printed) (start : WorldValue) (nodes : ℕ) (input : Option (List ℕ)) (a t : Option (List ℕ)) → IsEnded refusal.Memory form start nodes input a a t t
none_ended form start nodes input a t = record {
  before = [];
  later = later_of input;
  outcomes = [];
  all = all_later input;
  middle = a;
  middle_errors = t;
  shelled = record { came = tt; written = Appends-nil a; told = Appends-nil t };
  left = (Keeps-refl a, Keeps-refl t);
}

-- where memory was refused
pub none_of_memory : (form : Printed) (s : Settings) (list : Listed) (input : Option (List ℕ)) (a t : Option (List ℕ)) → Shells form s (Some list) (Some (Fault (whole_fault refusal.Memory))) input a a t t
none_of_memory form s list input a t = (refl, none_ended form (new_world s list) s.nodes input a t)

-- nothing is printed where there is no cluster
pub none_shelled : (form : Printed) (s : Settings) (list : Option Listed) (failure : Failure) (input : Option (List ℕ)) (a t : Option (List ℕ)) → IsNotStarted s list failure → Shells form s list (Some failure) input a a t t
none_shelled form s list failure input a t h =
    unless_started (λ l f. Shells form s l (Some f) input a a t t) s list failure (refl, Keeps-refl a, Keeps-refl t) (λ l. none_of_memory form s l input a t)
    (λ l out. (refl, (out, Keeps-refl a, Keeps-refl t))) h

no_range : (form : Printed) (start : WorldValue) (nodes : ℕ) (input a b t u : Option (List ℕ)) → IsEnded refusal.Range form start nodes input a b t u → ⊥
no_range form start nodes input a b t u h = h.left

up_to : (form : Printed) (s : Settings) (list : Listed) (refused : Refusal) (input a b t u : Option (List ℕ)) → IsEnded refused form (new_world s list) s.nodes input a b t u → ShellsUpTo form s list refused input a b t u
up_to form s list refusal.Range input a b t u h = absurd (no_range form (new_world s list) s.nodes input a b t u h)
up_to form s list refused input a b t u h = h

ends_shelled : (form : Printed) (s : Settings) (list : Listed) (failure : Option Failure) (input a b t u : Option (List ℕ)) → ShellEnds form (new_world s list) s.nodes failure input a b t u → Shells form s (Some list) failure input a b t u
ends_shelled form s list None input a b t u h = h
ends_shelled form s list (Some BadWord) input a b t u h = h
ends_shelled form s list (Some (Missing what)) input a b t u h = h
ends_shelled form s list (Some (Fault fault)) input a b t u h = (h.0, up_to form s list fault.refusal input a b t u h.1)

-- how a shell over a new cluster ended
pub shelled : (form : Printed) (s : Settings) (list : Listed) (cluster : ClusterValue) (start : WorldValue) (failure : Option Failure) (input a b t u : Option (List ℕ))
    → cluster ≡ record { nodes = s.nodes; list = list } → new_world s list ≡ start → ShellEnds form start cluster.nodes failure input a b t u → Shells form s (Some list) failure input a b t u
shelled form s list cluster start failure input a b t u started named h =
    ends_shelled form s list failure input a b t u
    (subst (λ (w : WorldValue). ShellEnds form w s.nodes failure input a b t u) (sym named)
    (subst (λ (c : ClusterValue). ShellEnds form start c.nodes failure input a b t u) started h))

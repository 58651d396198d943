-- what a shell prints and tells, and how it ends
use Rattle.std.specs.Borrow.{Bor}
use Rattle.std.specs.Prelude.{ℕ, ◌≡◌, ◌++◌, Bool, List, [], Option, Some, None}
use Rattle.std.specs.Io.KnownBytes.{Keeps}
use Rattle.cpg_cred.specs.Listed.{Listed}
use Rattle.cpg_cred.specs.declared.refusals.Refusal.{Refusal}
use Rattle.cpg_cred.specs.declared.refusals.Refusal.TheVariants.{Range}
use Rattle.cpg_text.specs.Streams.{AppendsFront}
use Rattle.cpg_ring.specs.States.{IsSettings}
use Rattle.cpg_ring.specs.declared.settings.Settings.{Settings}
use Rattle.cpg_world_laws.specs.Worlds.{WorldValue, new_world}
use Rattle.cpg_cluster.specs.Lines.{Printed}
use Rattle.cpg_cluster.specs.Shelled.{IsEnded, IsShelled}
use Rattle.cpg_console.specs.Runs.{failure_told}
use Rattle.cpg_console.specs.Telling.{told_text}
use Rattle.cpg_console.specs.Words.{wrong_hint}
use Rattle.cpg_console.specs.declared.output_form.OutputForm.{OutputForm}
use Rattle.cpg_console.specs.declared.output_form.OutputForm.TheVariants.{Noted}
use Rattle.cpg_console.specs.declared.failures.Failure.{Failure}
use Rattle.cpg_console.specs.declared.failures.Failure.TheVariants.{BadWord, Fault}

-- the lines were answered over a cluster of so many nodes whose history starts so, or up to a fault
abbrev pub ShellEnds : Printed → WorldValue → ℕ → Option Failure → Option (List ℕ) → Option (List ℕ) → Option (List ℕ) → Option (List ℕ) → Option (List ℕ) → Type 0
ShellEnds form start nodes None input old new told said = IsShelled form start nodes input old new told said
ShellEnds form start nodes (Some (Fault fault)) input old new told said = (fault.part ≡ None) × IsEnded fault.refusal form start nodes input old new told said
ShellEnds form start nodes (Some failure) input old new told said = ⊥

-- what a refusal leaves of them; Range tells that there is no cluster of those settings
abbrev pub ShellsUpTo : Printed → Settings → Listed → Refusal → Option (List ℕ) → Option (List ℕ) → Option (List ℕ) → Option (List ℕ) → Option (List ℕ) → Type 0
ShellsUpTo form s list Range input old new told said = (¬ IsSettings s) × Keeps old new × Keeps told said
ShellsUpTo form s list refused input old new told said = IsEnded refused form (new_world s list) s.nodes input old new told said

-- what a shell prints and tells, by the list that its words give
abbrev pub Shells : Printed → Settings → Option Listed → Option Failure → Option (List ℕ) → Option (List ℕ) → Option (List ℕ) → Option (List ℕ) → Option (List ℕ) → Type 0
Shells form s None failure input old new told said = (failure ≡ Some BadWord) × Keeps old new × Keeps told said
Shells form s (Some list) None input old new told said = IsShelled form (new_world s list) s.nodes input old new told said
Shells form s (Some list) (Some (Fault fault)) input old new told said = (fault.part ≡ None) × ShellsUpTo form s list fault.refusal input old new told said
Shells form s (Some list) (Some failure) input old new told said = ⊥

-- where it is told what is known, the first wrong word is told of, too
abbrev pub word_told : OutputForm → List (Bor (List ℕ)) → Option Failure → List ℕ
word_told (Noted noted) words (Some BadWord) = wrong_hint words
word_told _ words _ = []

-- A shell prints and tells what its own end leaves; a flush changes nothing of that, and its end, or the flush that failed, is told behind it, with a hint.
pub record ShellRuns (form : Printed) (s : Settings) (list : Option Listed) (left flushed : Bool) (failure : Option Failure) (hint : List ℕ) (input old new told said : Option (List ℕ)) : Type 0 where
  pub first : Option Failure
  pub gathered : Option (List ℕ)
  pub between : Option (List ℕ)
  pub shells : Shells form s list first input old gathered told between
  pub kept : Keeps gathered new
  pub ends : failure ≡ failure_told flushed first
  pub tells : AppendsFront between said (told_text left failure ++ hint)

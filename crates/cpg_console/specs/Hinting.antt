-- the hint behind a fault's line
use Rattle.std.specs.Borrow.{Bor}
use Rattle.std.specs.Prelude.{ℕ, ◌≡◌, ◌⊎◌, ⊤, Bool, List, [], Option, Some, if◌then◌else◌}
use Rattle.cpg_cred.specs.declared.refusals.Refusal.{Refusal}
use Rattle.cpg_cred.specs.declared.refusals.Refusal.TheVariants as refusal
use Rattle.cpg_accept.specs.Accepting.{whole_fault}
use Rattle.cpg_hint.specs.Hints.{hint_text}
use Rattle.cpg_hint.specs.declared.kinds.ScriptKind.{ScriptKind}
use Rattle.cpg_hint.specs.declared.kinds.ScriptKind.TheVariants as kind
use Rattle.cpg_console.specs.declared.failures.Failure.{Failure}
use Rattle.cpg_console.specs.declared.failures.Failure.TheVariants.{BadWord, Fault, Missing}
use Rattle.cpg_console.specs.Words.{wrong_hint}
use Rattle.cpg_console.specs.declared.runs.Run.{Run}
use Rattle.cpg_console.specs.declared.runs.Run.TheVariants.{Judge, JudgeOnly, Why, Accept, Step, StepWhy, Draw, Number, Echo, Cluster, ClusterWhy}

-- the kind of script that a run reads
abbrev pub kind_of : Run → ScriptKind
kind_of (Judge form) = kind.Judge
kind_of (JudgeOnly filter) = kind.Judge
kind_of (Why form asked) = kind.Judge
kind_of (Accept form) = kind.Accept
kind_of (Step form settings words) = kind.Step settings.nodes
kind_of (StepWhy form asked settings words) = kind.Step settings.nodes
kind_of (Draw picture settings words) = kind.Step settings.nodes
kind_of (Number settings words) = kind.Step settings.nodes
kind_of (Echo settings words) = kind.Step settings.nodes
kind_of (Cluster options chances settings words) = kind.Cluster settings.nodes
kind_of (ClusterWhy inquiry settings words) = kind.Cluster settings.nodes

-- the words of a run's command line that let users and groups in
abbrev pub words_of : Run → List (Bor (List ℕ))
words_of (Judge form) = []
words_of (JudgeOnly filter) = []
words_of (Why form asked) = []
words_of (Accept form) = []
words_of (Step form settings words) = words.now
words_of (StepWhy form asked settings words) = words.now
words_of (Draw picture settings words) = words.now
words_of (Number settings words) = words.now
words_of (Echo settings words) = words.now
words_of (Cluster options chances settings words) = words.now
words_of (ClusterWhy inquiry settings words) = words.now

-- what is told behind the line of a fault, of the script or of a word
abbrev pub hint_told : Run → List ℕ → Option Failure → List ℕ
hint_told run script (Some (Fault fault)) = hint_text (kind_of run) script fault
hint_told run script (Some BadWord) = wrong_hint (words_of run)
hint_told run script _ = []

-- a run ends so where its script can't be read: by a wrong word, or by a fault of a stream or of memory
abbrev pub EndsUnread : Failure → Type 0
EndsUnread BadWord = ⊤
EndsUnread (Fault fault) = (fault ≡ whole_fault refusal.Read) ⊎ ((fault ≡ whole_fault refusal.Memory) ⊎ (fault ≡ whole_fault refusal.Write))
EndsUnread (Missing what) = ⊥

-- why a run ends whose script can't be read: by a wrong word, if there is one; else by the flush, if that failed
abbrev pub failure_unread : Bool → Refusal → Bool → Failure
failure_unread wrong refused flushed =
    if wrong then BadWord else if flushed then Fault (whole_fault refused) else Fault (whole_fault refusal.Write)

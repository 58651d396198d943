-- what is told of what a new world delivered, and of one that is not there
use Rattle.std.proofs.Common.{◌≡◌, ◌≤◌, ℕ, List, length, Option, Some, None, Result, Ok, Err, refl, sym, subst}
use Rattle.std.specs.Prelude.{IfSome}
use Rattle.std.proofs.KnownBytes.{Keeps-refl}
use Rattle.cpg_cred.specs.Listed.{Listed}
use Rattle.cpg_cred.specs.declared.refusals.Refusal.{Refusal}
use Rattle.cpg_cred.specs.declared.refusals.Refusal.TheVariants as refusal
use Rattle.cpg_text.specs.declared.streams.TheConstants.{MOST_BYTES}
use Rattle.cpg_ring.specs.declared.settings.Settings.{Settings}
use Rattle.cpg_world_laws.specs.Worlds.{WorldValue, new_world}
use Rattle.cpg_step.specs.declared.commands.Command.{Command}
use Rattle.cpg_step.specs.Gathering.{EndsGathered}
use Rattle.cpg_step.specs.Scripts.{commands_of_script}
use Rattle.cpg_why.specs.declared.asking.Asked.{Asked}
use Rattle.cpg_why.specs.declared.asking.WhyFault.{WhyFault}
use Rattle.cpg_why.specs.declared.asking.WhyFault.TheVariants as why
use Rattle.cpg_why.specs.Forms.{Form, plain}
use Rattle.cpg_why.specs.Scripts.{EndsBy, EndsWhy}
use Rattle.cpg_why.specs.Explaining.{IsExplained, Leaves, LeavesBy}
use Rattle.cpg_console.specs.declared.failures.Failure.{Failure}
use Rattle.cpg_console.specs.Runs.{failure_of_delivered, FailsLate, TellsSteps, ToldUpTo}
use Rattle.cpg_console.specs.Starting.{IsStarted, IsNotStarted}
use Rattle.cpg_console.proofs.NotStarted.{unless_known}
use Rattle.cpg_console.proofs.Late.{gathered_late}

no_memory : (form : Form) (commands : Result (List Command) ℕ) (asked : Asked) (w : WorldValue) (a : Option (List ℕ)) → LeavesBy form commands asked refusal.Memory w a a w
no_memory form (Ok commands) asked w a = (Keeps-refl a, (0, refl))
no_memory form (Err bad) asked w a = (Keeps-refl a, refl)

-- nothing is written where there is no world
pub none_told : (known : Option (List ℕ)) (asked : Asked) (s : Settings) (list : Option Listed) (failure : Failure) (a : Option (List ℕ)) → IsNotStarted s list failure
    → IfSome known (λ lines. TellsSteps asked s list lines (Some failure) a a)
none_told known asked s list failure a =
    unless_known (λ lines l f. TellsSteps asked s l lines (Some f) a a) known s list failure (λ lines. (refl, Keeps-refl a))
    (λ lines l. (refl, (new_world s l, no_memory plain (commands_of_script s.nodes lines) asked (new_world s l) a))) (λ lines l out. (refl, (out, Keeps-refl a)))

-- the whole script was run over the new world, and what is asked is told
pub all_told : (known : Option (List ℕ)) (asked : Asked) (s : Settings) (list : Option Listed) (w world : WorldValue) (a b : Option (List ℕ)) → IsStarted s list w
    → IfSome known (λ lines. (length lines ≤ MOST_BYTES) × IsExplained plain (commands_of_script w.settings.nodes lines) asked w a b world)
    → IfSome known (λ lines. TellsSteps asked s list lines None a b)
all_told known asked s None w world a b e h = absurd e
all_told None asked s (Some list) w world a b e h = tt
all_told (Some lines) asked s (Some list) w world a b e h =
    (h.0, (world, subst (λ (v : WorldValue). IsExplained plain (commands_of_script v.settings.nodes lines) asked v a b world) e h.1))

no_range : (form : Form) (commands : Result (List Command) ℕ) (asked : Asked) (w world : WorldValue) (a b : Option (List ℕ)) → LeavesBy form commands asked refusal.Range w a b world → ⊥
no_range form (Ok commands) asked w world a b h = h
no_range form (Err bad) asked w world a b h = h

up_to : (asked : Asked) (s : Settings) (list : Listed) (lines : List ℕ) (refused : Refusal) (world : WorldValue) (a b : Option (List ℕ))
    → LeavesBy plain (commands_of_script s.nodes lines) asked refused (new_world s list) a b world → ToldUpTo asked s list lines refused a b
up_to asked s list lines refusal.Range world a b h = absurd (no_range plain (commands_of_script s.nodes lines) asked (new_world s list) world a b h)
up_to asked s list lines refused world a b h = (world, h)

part : (asked : Asked) (s : Settings) (list : Listed) (lines : List ℕ) (fault : WhyFault) (world : WorldValue) (a b : Option (List ℕ))
    → Leaves plain (commands_of_script s.nodes lines) asked fault (new_world s list) a b world → TellsSteps asked s (Some list) lines (Some (failure_of_delivered fault)) a b
part asked s list lines (why.Script fault) world a b h = (h.0, up_to asked s list lines fault.refusal world a b h.1)
part asked s list lines (why.Missing what) world a b h = (refl, (world, h))

-- a fault ended it
pub part_told : (known : Option (List ℕ)) (asked : Asked) (s : Settings) (list : Option Listed) (w world : WorldValue) (fault : WhyFault) (failure : Failure) (a b : Option (List ℕ)) → IsStarted s list w
    → failure ≡ failure_of_delivered fault
    → IfSome known (λ lines. Leaves plain (commands_of_script w.settings.nodes lines) asked fault w a b world)
    → IfSome known (λ lines. TellsSteps asked s list lines (Some failure) a b)
part_told known asked s None w world fault failure a b e is h = absurd e
part_told None asked s (Some list) w world fault failure a b e is h = tt
part_told (Some lines) asked s (Some list) w world fault failure a b e is h =
    subst (λ (f : Failure). TellsSteps asked s (Some list) lines (Some f) a b) (sym is)
    (part asked s list lines fault world a b (subst (λ (v : WorldValue). Leaves plain (commands_of_script v.settings.nodes lines) asked fault v a b world) e h))

gathers_alike : (refused : Refusal) (a b : Option (List ℕ)) → EndsBy refused a b → EndsGathered refused a b
gathers_alike refusal.Read a b h = h
gathers_alike _ a b h = h

late_of : (asked : Asked) (fault : WhyFault) (a b : Option (List ℕ)) → EndsWhy asked fault a b → FailsLate (failure_of_delivered fault) a b
late_of asked (why.Script fault) a b h = gathered_late fault.refusal a b (gathers_alike fault.refusal a b h.1)
late_of asked (why.Missing what) a b h = h.1

-- nothing was written before what is told was whole
pub part_late : (asked : Asked) (fault : WhyFault) (failure : Failure) (a b : Option (List ℕ)) → failure ≡ failure_of_delivered fault → EndsWhy asked fault a b → FailsLate failure a b
part_late asked fault failure a b is h = subst (λ (f : Failure). FailsLate f a b) (sym is) (late_of asked fault a b h)

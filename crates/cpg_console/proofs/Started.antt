-- what is written of a script that is run over a new world, and of one that finds none
use Rattle.std.proofs.Common.{◌≡◌, ◌≤◌, ℕ, List, length, Option, Some, None, Result, Ok, Err, inl, refl, subst}
use Rattle.std.specs.Prelude.{IfSome}
use Rattle.std.proofs.KnownBytes.{Keeps-refl}
use Rattle.cpg_cred.specs.Listed.{Listed}
use Rattle.cpg_cred.specs.declared.refusals.Refusal.{Refusal}
use Rattle.cpg_cred.specs.declared.refusals.Refusal.TheVariants as refusal
use Rattle.cpg_text.specs.declared.streams.TheConstants.{MOST_BYTES}
use Rattle.cpg_text.specs.declared.faults.Fault as script
use Rattle.cpg_text.specs.Written.{WritesLate}
use Rattle.cpg_ring.specs.declared.settings.Settings.{Settings}
use Rattle.cpg_world_laws.specs.Worlds.{WorldValue, new_world}
use Rattle.cpg_step.specs.declared.commands.Command.{Command}
use Rattle.cpg_step.specs.Running as step
use Rattle.cpg_console.specs.declared.runs.Stepped.{Stepped}
use Rattle.cpg_console.specs.declared.runs.Stepped.TheVariants.{Text, Json}
use Rattle.cpg_step.specs.Scripts.{commands_of_script}
use Rattle.cpg_why.specs.Scripts.{numbers_of}
use Rattle.cpg_console.specs.declared.failures.Failure.{Failure}
use Rattle.cpg_console.specs.declared.failures.Failure.TheVariants.{BadWord, Fault, Missing}
use Rattle.cpg_console.specs.Runs.{FailsLate, IsRun, LeavesRun, Steps, StepsUpTo}
use Rattle.cpg_console.specs.Starting.{IsStarted, IsNotStarted}
use Rattle.cpg_console.proofs.NotStarted.{unless_known}

no_memory : (form : Stepped) (numbers : List ℕ) (commands : Result (List Command) ℕ) (w : WorldValue) (a : Option (List ℕ)) → LeavesRun form numbers commands refusal.Memory w a a w
no_memory Text numbers (Ok commands) w a = inl (Keeps-refl a, refl)
no_memory Text numbers (Err bad) w a = (Keeps-refl a, refl)
no_memory (Json marks) numbers (Ok commands) w a = inl (Keeps-refl a, refl)
no_memory (Json marks) numbers (Err bad) w a = (Keeps-refl a, refl)

-- nothing is written where there is no world
pub none_stepped : (known : Option (List ℕ)) (form : Stepped) (s : Settings) (list : Option Listed) (failure : Failure) (a : Option (List ℕ)) → IsNotStarted s list failure
    → IfSome known (λ lines. Steps form s list lines (Some failure) a a)
none_stepped known form s list failure a =
    unless_known (λ lines l f. Steps form s l lines (Some f) a a) known s list failure (λ lines. (refl, Keeps-refl a))
    (λ lines l. (refl, (new_world s l, no_memory form (numbers_of lines) (commands_of_script s.nodes lines) (new_world s l) a))) (λ lines l out. (refl, (out, Keeps-refl a)))

late_refl : (refused : Refusal) (a : Option (List ℕ)) → WritesLate refused a a
late_refl refusal.Write a = tt
late_refl refusal.Memory a = tt
late_refl _ a = Keeps-refl a

pub none_late : (s : Settings) (list : Option Listed) (failure : Failure) (a : Option (List ℕ)) → IsNotStarted s list failure → FailsLate failure a a
none_late s list BadWord a h = Keeps-refl a
none_late s list (Missing what) a h = Keeps-refl a
none_late s list (Fault fault) a h = late_refl fault.refusal a

-- the whole script was run over the new world
pub all_stepped : (known : Option (List ℕ)) (form : Stepped) (s : Settings) (list : Option Listed) (w world : WorldValue) (a b : Option (List ℕ)) → IsStarted s list w
    → IfSome known (λ lines. (length lines ≤ MOST_BYTES) × IsRun form (numbers_of lines) (commands_of_script w.settings.nodes lines) w a b world)
    → IfSome known (λ lines. Steps form s list lines None a b)
all_stepped known form s None w world a b e h = absurd e
all_stepped None form s (Some list) w world a b e h = tt
all_stepped (Some lines) form s (Some list) w world a b e h =
    (h.0, world, subst (λ (v : WorldValue). IsRun form (numbers_of lines) (commands_of_script v.settings.nodes lines) v a b world) e h.1)

no_range : (form : Stepped) (numbers : List ℕ) (commands : Result (List Command) ℕ) (w world : WorldValue) (a b : Option (List ℕ)) → LeavesRun form numbers commands refusal.Range w a b world → ⊥
no_range Text numbers (Ok commands) w world a b h = h
no_range Text numbers (Err bad) w world a b h = h
no_range (Json marks) numbers (Ok commands) w world a b h = h
no_range (Json marks) numbers (Err bad) w world a b h = h

up_to : (form : Stepped) (s : Settings) (list : Listed) (lines : List ℕ) (refused : Refusal) (world : WorldValue) (a b : Option (List ℕ))
    → LeavesRun form (numbers_of lines) (commands_of_script s.nodes lines) refused (new_world s list) a b world → StepsUpTo form s list lines refused a b
up_to form s list lines refusal.Range world a b h = absurd (no_range form (numbers_of lines) (commands_of_script s.nodes lines) (new_world s list) world a b h)
up_to form s list lines refused world a b h = (world, h)

-- a fault of the script ended it
pub part_stepped : (known : Option (List ℕ)) (form : Stepped) (s : Settings) (list : Option Listed) (w world : WorldValue) (fault : script.Fault) (a b : Option (List ℕ)) → IsStarted s list w → fault.part ≡ None
    → IfSome known (λ lines. LeavesRun form (numbers_of lines) (commands_of_script w.settings.nodes lines) fault.refusal w a b world)
    → IfSome known (λ lines. Steps form s list lines (Some (Fault fault)) a b)
part_stepped known form s None w world fault a b e p h = absurd e
part_stepped None form s (Some list) w world fault a b e p h = tt
part_stepped (Some lines) form s (Some list) w world fault a b e p h =
    (p, up_to form s list lines fault.refusal world a b (subst (λ (v : WorldValue). LeavesRun form (numbers_of lines) (commands_of_script v.settings.nodes lines) fault.refusal v a b world) e h))

late_of : (refused : Refusal) (w world : WorldValue) (a b : Option (List ℕ)) → step.EndsRunning refused w a b world → WritesLate refused a b
late_of refusal.Read w world a b h = h.0
late_of (refusal.BadCommand line) w world a b h = h.0
late_of refusal.Write w world a b h = tt
late_of refusal.Memory w world a b h = tt
late_of _ w world a b h = absurd h

pub part_late : (fault : script.Fault) (w world : WorldValue) (a b : Option (List ℕ)) → step.EndsRunning fault.refusal w a b world → FailsLate (Fault fault) a b
part_late fault w world a b h = late_of fault.refusal w world a b h

-- what is written of a script whose run over a new world is drawn
use Rattle.std.proofs.Common.{◌≡◌, ◌≤◌, ℕ, List, length, Option, Some, None, Result, Ok, Err, refl, subst}
use Rattle.std.specs.Prelude.{IfSome}
use Rattle.std.proofs.KnownBytes.{Keeps-refl}
use Rattle.cpg_cred.specs.Listed.{Listed}
use Rattle.cpg_cred.specs.declared.refusals.Refusal.{Refusal}
use Rattle.cpg_cred.specs.declared.refusals.Refusal.TheVariants as refusal
use Rattle.cpg_text.specs.declared.streams.TheConstants.{MOST_BYTES}
use Rattle.cpg_text.specs.declared.faults.Fault as script
use Rattle.cpg_ring.specs.declared.settings.Settings.{Settings}
use Rattle.cpg_world_laws.specs.Worlds.{WorldValue, new_world}
use Rattle.cpg_step.specs.declared.commands.Command.{Command}
use Rattle.cpg_step.specs.Scripts.{commands_of_script}
use Rattle.cpg_draw.specs.Drawing as draw
use Rattle.cpg_step.specs.Gathering.{EndsGathered}
use Rattle.cpg_console.specs.declared.runs.Picture.{Picture}
use Rattle.cpg_console.specs.declared.runs.Picture.TheVariants as picture
use Rattle.cpg_console.specs.declared.failures.Failure.{Failure}
use Rattle.cpg_console.specs.declared.failures.Failure.TheVariants.{Fault}
use Rattle.cpg_console.specs.Runs.{Draws, DrawsUpTo, FailsLate, IsDrawn, LeavesDrawn}
use Rattle.cpg_console.specs.Starting.{IsStarted, IsNotStarted}
use Rattle.cpg_console.proofs.NotStarted.{unless_known}
use Rattle.cpg_console.proofs.Late.{gathered_late}

no_memory : (kind : Picture) (commands : Result (List Command) ℕ) (w : WorldValue) (a : Option (List ℕ)) → LeavesDrawn kind commands refusal.Memory w a a
no_memory (picture.Svg x) (Ok commands) w a = Keeps-refl a
no_memory (picture.Svg x) (Err bad) w a = Keeps-refl a
no_memory (picture.Lines x) (Ok commands) w a = Keeps-refl a
no_memory (picture.Lines x) (Err bad) w a = Keeps-refl a
no_memory picture.Numbered (Ok commands) w a = Keeps-refl a
no_memory picture.Numbered (Err bad) w a = Keeps-refl a

-- nothing is drawn where there is no world
pub none_drawn : (known : Option (List ℕ)) (kind : Picture) (s : Settings) (list : Option Listed) (failure : Failure) (a : Option (List ℕ)) → IsNotStarted s list failure
    → IfSome known (λ lines. Draws kind s list lines (Some failure) a a)
none_drawn known kind s list failure a =
    unless_known (λ lines l f. Draws kind s l lines (Some f) a a) known s list failure (λ lines. (refl, Keeps-refl a))
    (λ lines l. (refl, no_memory kind (commands_of_script s.nodes lines) (new_world s l) a)) (λ lines l out. (refl, (out, Keeps-refl a)))

-- the whole script was drawn over the new world
pub all_drawn : (known : Option (List ℕ)) (kind : Picture) (s : Settings) (list : Option Listed) (w : WorldValue) (a b : Option (List ℕ)) → IsStarted s list w
    → IfSome known (λ lines. (length lines ≤ MOST_BYTES) × IsDrawn kind (commands_of_script w.settings.nodes lines) w a b)
    → IfSome known (λ lines. Draws kind s list lines None a b)
all_drawn known kind s None w a b e h = absurd e
all_drawn None kind s (Some list) w a b e h = tt
all_drawn (Some lines) kind s (Some list) w a b e h =
    (h.0, subst (λ (v : WorldValue). IsDrawn kind (commands_of_script v.settings.nodes lines) v a b) e h.1)

no_range : (kind : Picture) (commands : Result (List Command) ℕ) (w : WorldValue) (a b : Option (List ℕ)) → LeavesDrawn kind commands refusal.Range w a b → ⊥
no_range (picture.Svg x) (Ok commands) w a b h = h
no_range (picture.Svg x) (Err bad) w a b h = h
no_range (picture.Lines x) (Ok commands) w a b h = h
no_range (picture.Lines x) (Err bad) w a b h = h
no_range picture.Numbered (Ok commands) w a b h = h
no_range picture.Numbered (Err bad) w a b h = h

up_to : (kind : Picture) (s : Settings) (list : Listed) (lines : List ℕ) (refused : Refusal) (a b : Option (List ℕ))
    → LeavesDrawn kind (commands_of_script s.nodes lines) refused (new_world s list) a b → DrawsUpTo kind s list lines refused a b
up_to kind s list lines refusal.Range a b h = absurd (no_range kind (commands_of_script s.nodes lines) (new_world s list) a b h)
up_to kind s list lines refused a b h = h

-- a fault of the script ended it
pub part_drawn : (known : Option (List ℕ)) (kind : Picture) (s : Settings) (list : Option Listed) (w : WorldValue) (fault : script.Fault) (a b : Option (List ℕ)) → IsStarted s list w → fault.part ≡ None
    → IfSome known (λ lines. LeavesDrawn kind (commands_of_script w.settings.nodes lines) fault.refusal w a b)
    → IfSome known (λ lines. Draws kind s list lines (Some (Fault fault)) a b)
part_drawn known kind s None w fault a b e p h = absurd e
part_drawn None kind s (Some list) w fault a b e p h = tt
part_drawn (Some lines) kind s (Some list) w fault a b e p h =
    (p, up_to kind s list lines fault.refusal a b (subst (λ (v : WorldValue). LeavesDrawn kind (commands_of_script v.settings.nodes lines) fault.refusal v a b) e h))

-- lines with numbers end as pictures do
pub ends_alike : (refused : Refusal) (a b : Option (List ℕ)) → EndsGathered refused a b → draw.EndsDrawing refused a b
ends_alike refusal.Read a b h = h
ends_alike _ a b h = h

gathers_alike : (refused : Refusal) (a b : Option (List ℕ)) → draw.EndsDrawing refused a b → EndsGathered refused a b
gathers_alike refusal.Read a b h = h
gathers_alike _ a b h = h

pub drawn_late : (fault : script.Fault) (a b : Option (List ℕ)) → draw.EndsDrawing fault.refusal a b → FailsLate (Fault fault) a b
drawn_late fault a b h = gathered_late fault.refusal a b (gathers_alike fault.refusal a b h)

-- what is written and left of a script that was read whole
use Rattle.std.proofs.Common.{◌≡◌, ℕ, ◌≤◌, List, length, Option, Some, None, Ok, Err, sym, subst}
use Rattle.std.specs.Prelude.{Result, OnOk, IfErr, IfSome}
use Rattle.cpg_cred.specs.declared.refusals.Refusal.{Refusal}
use Rattle.cpg_world_laws.specs.Worlds.{WorldValue}
use Rattle.cpg_step.specs.declared.commands.Command.{Command}
use Rattle.cpg_step.specs.Running.{AreDone, Form, IsRunIn, LeavesIn}
use Rattle.cpg_step.specs.Scripts.{commands_of_script}

-- all its commands are done
pub run_whole : (form : List ℕ → Form) (result : Result (Unit {0}) Refusal) (remaining : Option (List ℕ)) (text : List ℕ) (commands : List Command) (nodes most : ℕ) (w world : WorldValue)
    (old new : Option (List ℕ)) → IfSome remaining (λ bytes. text ≡ bytes) → length text ≤ most → commands_of_script nodes text ≡ Ok commands
    → OnOk result (AreDone (form text) 0 w commands old new world)
    → OnOk result (IfSome remaining (λ script. (length script ≤ most) × IsRunIn (form script) (commands_of_script nodes script) w old new world))
run_whole form (Err why) remaining text commands nodes most w world old new same few are done = tt
run_whole form (Ok ok) None text commands nodes most w world old new same few are done = tt
run_whole form (Ok ok) (Some script) text commands nodes most w world old new same few are done =
    subst (λ (bytes : List ℕ). (length bytes ≤ most) × IsRunIn (form bytes) (commands_of_script nodes bytes) w old new world) same
    (few, subst (λ (read : Result (List Command) ℕ). IsRunIn (form text) read w old new world) (sym are) done)

-- what a refusal leaves
pub run_left : (form : List ℕ → Form) (result : Result (Unit {0}) Refusal) (remaining : Option (List ℕ)) (text : List ℕ) (commands : List Command) (nodes : ℕ) (w world : WorldValue)
    (old new : Option (List ℕ)) → IfSome remaining (λ bytes. text ≡ bytes) → commands_of_script nodes text ≡ Ok commands
    → IfErr result (λ refused. LeavesIn (form text) (Ok commands) refused w old new world)
    → IfErr result (λ refused. IfSome remaining (λ script. LeavesIn (form script) (commands_of_script nodes script) refused w old new world))
run_left form (Ok ok) remaining text commands nodes w world old new same are left = tt
run_left form (Err refused) None text commands nodes w world old new same are left = tt
run_left form (Err refused) (Some script) text commands nodes w world old new same are left =
    subst (λ (bytes : List ℕ). LeavesIn (form bytes) (commands_of_script nodes bytes) refused w old new world) same
    (subst (λ (read : Result (List Command) ℕ). LeavesIn (form text) read refused w old new world) (sym are) left)

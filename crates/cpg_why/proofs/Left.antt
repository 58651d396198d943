-- what faults leave
use Rattle.std.proofs.Common.{◌≡◌, ◌⊎◌, ℕ, List, [], Option, Result, Ok, Err, inl, inr, subst, sym}
use Rattle.std.specs.Io.KnownBytes.{Keeps}
use Rattle.cpg_cred.specs.declared.refusals.Refusal.{Refusal}
use Rattle.cpg_cred.specs.declared.refusals.Refusal.TheVariants.{Memory, Write, Read, BadCommand}
use Rattle.cpg_entry.specs.declared.entries.Entry.{Entry}
use Rattle.cpg_text.specs.Reading.{FailsAs}
use Rattle.cpg_world_laws.specs.Worlds.{WorldValue}
use Rattle.cpg_step.specs.declared.commands.Command.{Command}
use Rattle.cpg_step.specs.Running.{after, IsUntouched}
use Rattle.cpg_why.specs.declared.asking.Asked.{Asked}
use Rattle.cpg_why.specs.declared.asking.WhyFault.{WhyFault}
use Rattle.cpg_why.specs.declared.asking.WhyFault.TheVariants.{Script, Missing}
use Rattle.cpg_why.specs.Forms.{Form}
use Rattle.cpg_why.specs.Scripts.{LeavesTold, LeavesEntries, EndsBy, EndsWhy}
use Rattle.cpg_why.proofs.Counted.{asked_of}
use Rattle.cpg_why.specs.Explaining.{delivered_by_most, LeavesBy, Leaves}
use Rattle.cpg_why.proofs.Done.{all_done}

-- memory was refused before any command
pub none_left : (form : Form) (script : Result (List Command) ℕ) (asked : Asked) (w world : WorldValue) (old new : Option (List ℕ)) → IsUntouched w old new world → LeavesBy form script asked Memory w old new world
none_left form (Err bad) asked w world old new untouched = untouched
none_left form (Ok commands) asked w world old new untouched = (untouched.0, (0, untouched.1))

-- a refusal after all commands
told_by : (form : Form) (commands : List Command) (asked : Asked) (refused : Refusal) (w world : WorldValue) (old new : Option (List ℕ)) → world ≡ after w commands
    → LeavesTold form [] (delivered_by_most world) asked refused old new → LeavesBy form (Ok commands) asked refused w old new world
told_by form commands asked Memory w world old new done left = (left, all_done w world commands done)
told_by form commands asked Write w world old new done left = (done, left)
told_by form commands asked _ w world old new done left = absurd left

-- a fault after all commands
pub told_left : (form : Form) (commands : List Command) (asked : Asked) (fault : WhyFault) (w world : WorldValue) (old new : Option (List ℕ)) → world ≡ after w commands
    → LeavesEntries form [] (delivered_by_most world) asked fault old new → Leaves form (Ok commands) asked fault w old new world
told_left form commands asked (Script fault) w world old new done left = (left.0, told_by form commands asked fault.refusal w world old new done left.1)
told_left form commands asked (Missing what) w world old new done left = (done, left)

-- the same whatever was done: a refusal of what is told
told_ends_by : (form : Form) (entries : List Entry) (asked : Asked) (refused : Refusal) (old new : Option (List ℕ)) → LeavesTold form [] entries asked refused old new → EndsBy refused old new
told_ends_by form entries asked Memory old new left = left
told_ends_by form entries asked Write old new left = tt
told_ends_by form entries asked _ old new left = absurd left

-- and a fault
pub told_ends : (form : Form) (entries : List Entry) (asked : Asked) (fault : WhyFault) (old new : Option (List ℕ)) → LeavesEntries form [] entries asked fault old new → EndsWhy asked fault old new
told_ends form entries asked (Script fault) old new left = (left.0, told_ends_by form entries asked fault.refusal old new left.1)
told_ends form entries asked (Missing what) old new left = (asked_of entries asked what left.0, left.1)

-- a script that is not read
pub read_ends : (refused : Refusal) (old new : Option (List ℕ)) → (refused ≡ Memory) ⊎ (refused ≡ Read) → Keeps old new → EndsBy refused old new
read_ends refused old new (inl e) kept = subst (λ (r : Refusal). EndsBy r old new) (sym e) kept
read_ends refused old new (inr e) kept = subst (λ (r : Refusal). EndsBy r old new) (sym e) kept

-- a script that is not commands
pub bad_ends : (script : Result (List Command) ℕ) (refused : Refusal) (old new : Option (List ℕ)) → FailsAs script refused → Keeps old new → EndsBy refused old new
bad_ends script (BadCommand line) old new fails kept = kept
bad_ends script Memory old new fails kept = kept
bad_ends script _ old new fails kept = absurd fails

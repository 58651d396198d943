-- scripts of sessions of which nothing is printed, and what is told after them
use Rattle.std.proofs.Common.{◌≡◌, ℕ, List, [], Option, Some, None, Result, inl, inr}
use Rattle.std.specs.Io.KnownBytes.{Keeps}
use Rattle.cpg_cred.specs.declared.refusals.Refusal.{Refusal}
use Rattle.cpg_cred.specs.declared.refusals.Refusal.TheVariants.{Memory, Write, Read, BadCommand}
use Rattle.cpg_record.specs.Judging.{entries_of}
use Rattle.cpg_board.specs.Seats.{SeatValue, records_of}
use Rattle.cpg_world_laws.specs.Worlds.{WorldValue}
use Rattle.cpg_text.specs.declared.faults.Fault.{Fault}
use Rattle.cpg_why.specs.declared.asking.Asked.{Asked}
use Rattle.cpg_why.specs.declared.asking.WhyFault.{WhyFault}
use Rattle.cpg_why.specs.declared.asking.WhyFault.TheVariants.{Script}
use Rattle.cpg_why.specs.Forms.{Form}
use Rattle.cpg_why.specs.Scripts.{LeavesEntries, EndsBy}
use Rattle.cpg_cluster.specs.declared.commands.Numbered.{Numbered}
use Rattle.cpg_cluster.specs.Answers.{SessionsValue}
use Rattle.cpg_cluster.specs.Running as running
use Rattle.cpg_why.specs.Sessions.{unprinted, RunsUnprinted, StopsUnprinted, LeavesSeated}

-- a script that was run
pub all_run : (start : WorldValue) (script : Result (List Numbered) ℕ) (sessions left : SessionsValue) (out : Option (List ℕ)) → running.Runs unprinted start script sessions (Some []) out left → RunsUnprinted start script sessions left
all_run start script sessions left out ran = (out, ran)

-- a script that was stopped
pub are_stopped : (start : WorldValue) (script : Result (List Numbered) ℕ) (refused : Refusal) (sessions left : SessionsValue) (out : Option (List ℕ)) → running.Stops unprinted start script refused sessions (Some []) out left → StopsUnprinted start script refused sessions left
are_stopped start script refused sessions left out stopped = (out, stopped)

-- a refusal of the script ends what is told before it begins
pub ends_by : (refused : Refusal) (a b old new : Option (List ℕ)) → running.EndsRunning refused a b → Keeps old new → EndsBy refused old new
ends_by Read a b old new ends kept = kept
ends_by (BadCommand line) a b old new ends kept = kept
ends_by Memory a b old new ends kept = kept
ends_by Write a b old new ends kept = tt
ends_by _ a b old new ends kept = absurd ends

-- a fault of the script
pub stopped : (form : Form) (start : WorldValue) (script : Result (List Numbered) ℕ) (asked : Asked) (fault : Fault) (sessions left : SessionsValue) (seat : SeatValue) (old new : Option (List ℕ)) → fault.part ≡ None
    → StopsUnprinted start script fault.refusal sessions left → Keeps old new → LeavesSeated form start script asked (Script fault) sessions left seat old new
stopped form start script asked fault sessions left seat old new whole ended kept = inl (whole, ended, kept)

-- a fault after the script
pub left_after : (form : Form) (start : WorldValue) (script : Result (List Numbered) ℕ) (asked : Asked) (fault : WhyFault) (sessions left : SessionsValue) (seat : SeatValue) (old new : Option (List ℕ)) → RunsUnprinted start script sessions left
    → LeavesEntries form [] (entries_of (records_of seat)) asked fault old new → LeavesSeated form start script asked fault sessions left seat old new
left_after form start script asked fault sessions left seat old new ran leaves = inr (ran, leaves)

-- what is told of the entries on a board after the commands of a script of sessions
use Rattle.std.specs.Prelude.{ℕ, ◌≡◌, ◌⊎◌, List, [], Option, Some, None, Result, Ok}
use Rattle.std.specs.Io.KnownBytes.{Keeps}
use Rattle.cpg_cred.specs.declared.refusals.Refusal.{Refusal}
use Rattle.cpg_record.specs.Judging.{entries_of}
use Rattle.cpg_board.specs.Seats.{SeatValue, IsSeatOf, records_of}
use Rattle.cpg_world_laws.specs.Worlds.{WorldValue}
use Rattle.cpg_why.specs.declared.asking.Asked.{Asked}
use Rattle.cpg_why.specs.declared.asking.WhyFault.{WhyFault}
use Rattle.cpg_why.specs.declared.asking.WhyFault.TheVariants.{Script, Missing}
use Rattle.cpg_why.specs.Forms.{Form}
use Rattle.cpg_why.specs.Scripts.{IsWritten, LeavesEntries}
use Rattle.cpg_cluster.specs.declared.commands.Numbered.{Numbered}
use Rattle.cpg_cluster.specs.Lines.{Printed}
use Rattle.cpg_cluster.specs.Answers.{SessionsValue, no_sessions}
use Rattle.cpg_cluster.specs.Running as running

-- nothing is printed of an answer
abbrev pub unprinted : Printed
unprinted line answer = []

-- All commands of a script are done, from those sessions on to these, and nothing is printed of what they are answered.
abbrev pub RunsUnprinted : WorldValue → Result (List Numbered) ℕ → SessionsValue → SessionsValue → Type 0
RunsUnprinted start script sessions left = (out : Option (List ℕ)) × running.Runs unprinted start script sessions (Some []) out left

-- The script ends before its end with that refusal, as `run` does where nothing is printed.
abbrev pub StopsUnprinted : WorldValue → Result (List Numbered) ℕ → Refusal → SessionsValue → SessionsValue → Type 0
StopsUnprinted start script refused sessions left = (out : Option (List ℕ)) × running.Stops unprinted start script refused sessions (Some []) out left

-- The script ends with that fault, and nothing is told.
abbrev pub IsUntold : WorldValue → Result (List Numbered) ℕ → WhyFault → SessionsValue → SessionsValue → Option (List ℕ) → Option (List ℕ) → Type 0
IsUntold start script (Script fault) sessions left old new = (fault.part ≡ None) × StopsUnprinted start script fault.refusal sessions left × Keeps old new
IsUntold start script (Missing what) sessions left old new = ⊥

-- What a fault leaves: one of the script nothing, and one after all its commands a part of what is told of the entries that the seat has read.
abbrev pub LeavesSeated : Form → WorldValue → Result (List Numbered) ℕ → Asked → WhyFault → SessionsValue → SessionsValue → SeatValue → Option (List ℕ) → Option (List ℕ) → Type 0
LeavesSeated form start script asked fault sessions left seat old new =
    IsUntold start script fault sessions left old new
    ⊎ (RunsUnprinted start script sessions left × LeavesEntries form [] (entries_of (records_of seat)) asked fault old new)

-- All commands of a script are done, from no session on to whatever sessions are left, and nothing is printed of what they are answered.
abbrev pub AreRun : WorldValue → Result (List Numbered) ℕ → Type 0
AreRun start script = (left : SessionsValue) × RunsUnprinted start script no_sessions left

-- What is asked is told of the entries of the records that a seat of the board has read.
pub record IsTold (form : Form) (board : List ℕ) (asked : Asked) (old new : Option (List ℕ)) : Type 0 where
  pub seat : SeatValue
  pub read : IsSeatOf board seat
  pub written : IsWritten form (Ok (entries_of (records_of seat))) [] asked old new

-- What a fault leaves, where a seat of the board reads, and whatever sessions are left.
pub record Leaves (form : Form) (board : List ℕ) (start : WorldValue) (script : Result (List Numbered) ℕ) (asked : Asked) (fault : WhyFault) (old new : Option (List ℕ)) : Type 0 where
  pub left : SessionsValue
  pub seat : SeatValue
  pub read : IsSeatOf board seat
  pub leaves : LeavesSeated form start script asked fault no_sessions left seat old new

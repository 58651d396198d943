-- What a call is answered, in the words of Corosync's cs_error_t.
use Rattle.std.specs.Prelude.{ℕ}
use Rattle.cpg_cred.specs.declared.refusals.Refusal.{Refusal}
use Rattle.cpg_cred.specs.declared.refusals.Refusal.TheVariants as refusal
use Rattle.cpg_record.specs.declared.verdicts.Verdict.{Verdict}
use Rattle.cpg_record.specs.declared.verdicts.Reason.{Reason}
use Rattle.cpg_record.specs.declared.verdicts.Verdict.TheVariants.{Allowed, Denied}
use Rattle.cpg_record.specs.declared.verdicts.Reason.TheVariants as reason
use Rattle.cpg_ask.specs.declared.statuses.Denial.{Denial}
use Rattle.cpg_ask.specs.declared.statuses.Status.{Status}
use Rattle.cpg_ask.specs.declared.statuses.Status.TheVariants.{Fine, Library, Version, TryAgain, Param, Memory, Access, NotExist, LongName, Exist, Space, TooBig}

-- the number of a status
abbrev pub status_number : Status → ℕ
status_number Fine = 1
status_number Library = 2
status_number Version = 3
status_number TryAgain = 6
status_number Param = 7
status_number Memory = 8
status_number Access = 11
status_number NotExist = 12
status_number LongName = 13
status_number Exist = 14
status_number Space = 15
status_number TooBig = 29

-- what a verdict is called
abbrev pub verdict_status : Verdict → Status
verdict_status (Allowed by) = Fine
verdict_status (Denied (reason.Rule id)) = Access
verdict_status (Denied reason.Default) = Access
verdict_status (Denied reason.Closed) = NotExist
verdict_status (Denied reason.Absent) = NotExist
verdict_status (Denied reason.Joined) = Exist
verdict_status (Denied reason.Twice) = Exist
verdict_status (Denied reason.Full) = Space
verdict_status (Denied reason.TableFull) = Space
verdict_status (Denied reason.Position) = Param

-- what a refusal is called
abbrev pub refusal_status : Refusal → Status
refusal_status refusal.Memory = Memory
refusal_status refusal.Access = Access
refusal_status (refusal.Denied by) = Access
refusal_status refusal.BadName = Param
refusal_status refusal.Range = Param
refusal_status refusal.TooLong = TooBig
refusal_status refusal.ConnectionsFull = TryAgain
refusal_status _ = Library

-- why a message was denied, as cpgring.h numbers verdicts, with the id of the rule where one denies it
abbrev pub reason_denial : Reason → Denial
reason_denial (reason.Rule id) = record { verdict = 1; rule = id }
reason_denial reason.Default = record { verdict = 2; rule = 0 }
reason_denial reason.Closed = record { verdict = 3; rule = 0 }
reason_denial reason.Joined = record { verdict = 4; rule = 0 }
reason_denial reason.Twice = record { verdict = 5; rule = 0 }
reason_denial reason.Full = record { verdict = 6; rule = 0 }
reason_denial reason.Position = record { verdict = 7; rule = 0 }
reason_denial reason.TableFull = record { verdict = 8; rule = 0 }
reason_denial reason.Absent = record { verdict = 9; rule = 0 }

abbrev pub no_denial : Denial
no_denial = record { verdict = 0; rule = 0 }

abbrev pub denial_of : Verdict → Denial
denial_of (Allowed by) = no_denial
denial_of (Denied reason) = reason_denial reason

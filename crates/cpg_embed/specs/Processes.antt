-- Processes, in numbers.
use Rattle.std.specs.Prelude.{ℕ}
use Rattle.cpg_record.specs.declared.memberships.Member.{Member}
use Rattle.cpg_record.specs.declared.moves.Move.{Move}
use Rattle.cpg_record.specs.declared.moves.Cause.{Cause}
use Rattle.cpg_record.specs.declared.moves.Cause.TheVariants.{Leave, Down, Join}
use Rattle.cpg_embed.specs.declared.processes.Process.{Process}

-- a member
abbrev pub process_of : Member → Process
process_of member = record { node = member.node; conn = member.conn; pid = member.pid; cause = 0 }

-- why a member left or joined
abbrev pub cause_number : Cause → ℕ
cause_number Leave = 1
cause_number Down = 2
cause_number Join = 3

-- a member that left or joined
abbrev pub moved_of : Move → Process
moved_of move = record (process_of move.member) { cause = cause_number move.cause }

-- a process that was listed, by its node and pid
abbrev pub listed_of : ℕ × ℕ → Process
listed_of listed = record { node = listed.0; conn = 0; pid = listed.1; cause = 0 }

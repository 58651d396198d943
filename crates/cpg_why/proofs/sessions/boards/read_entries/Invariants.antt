use Rattle.std.proofs.Common.{◌≡◌}
use Rattle.cpg_record.specs.Judging.{entries_of}
use Rattle.cpg_board.specs.Seats.{IsSeatOf, records_of}
use Rattle.cpg_why.proofs.sessions.boards.read_entries.Given as goal

abbrev pub invariant-loop : goal.invariant-loop
invariant-loop l = IsSeatOf l.board.cells l.seat × (l.entries.items ≡ entries_of (records_of l.seat))

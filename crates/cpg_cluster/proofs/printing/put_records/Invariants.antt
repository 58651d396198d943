use Rattle.std.proofs.Common.{◌≡◌, ◌++◌, take}
use Rattle.std.specs.List.{concat}
use Rattle.cpg_board.specs.Seats.{records_of}
use Rattle.cpg_print.specs.Records.{audit_lines}
use Rattle.cpg_cluster.proofs.printing.put_records.Given as goal

abbrev pub invariant-loop-index : goal.invariant-loop-index
invariant-loop-index l = l.text.items ≡ l.initial.text.items ++ concat (audit_lines (take l.index (records_of l.seat)))

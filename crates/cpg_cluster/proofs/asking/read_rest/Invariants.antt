use Rattle.cpg_record.specs.Places.{Begins}
use Rattle.cpg_board.specs.Seats.{IsSeatOf}
use Rattle.cpg_cluster.proofs.asking.read_rest.Given as goal

abbrev pub invariant-loop : goal.invariant-loop
invariant-loop l = IsSeatOf l.board.cells l.seat × Begins l.initial.seat l.seat

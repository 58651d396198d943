use Rattle.std.proofs.Common.{◌≡◌, ◌++◌, take}
use Rattle.std.specs.List.{concat}
use Rattle.cpg_board.specs.Seats.{records_of}
use Rattle.cpg_json.specs.Records.{records_json}
use Rattle.cpg_json.proofs.sessions.answers.put_records.Given as goal

abbrev pub invariant-loop-index : goal.invariant-loop-index
invariant-loop-index l = l.text.items ≡ l.initial.text.items ++ concat (records_json l.head (take l.index (records_of l.seat)))

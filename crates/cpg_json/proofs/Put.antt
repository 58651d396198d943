-- what a seat knows, put as objects
use Rattle.std.proofs.Common.{◌≡◌, ℕ, List, ◌++◌, length}
use Rattle.std.specs.List.{concat}
use Rattle.cpg_board.specs.Seats.{SeatValue, records_of}
use Rattle.cpg_cluster.proofs.Put.{lines_put}
use Rattle.cpg_json.specs.Records.{count_json, record_json, records_json}
use Rattle.cpg_json.specs.SessionAnswers.{audit_text}

-- all lines are put, and the count
pub seat_put : (head first lines new : List ℕ) (seat : SeatValue) (count : ℕ) → count ≡ length seat → lines ≡ first ++ concat (records_json head (records_of seat)) → new ≡ lines ++ count_json head count → new ≡ first ++ audit_text head (records_of seat)
seat_put head first lines new seat count counted before put = lines_put (record_json head) (count_json head) first lines new seat count counted before put

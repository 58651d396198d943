-- what a seat knows, put one record after the other
use Rattle.std.proofs.Common.{◌≡◌, ℕ, ◌+◌, ◌-◌, List, [], ◌∷◌, ◌++◌, length, take, slice_get, Some, sym, ap, ◌∙◌, arith}
use Rattle.std.specs.List.{concat}
use Rattle.std.proofs.lemmas.List.{length-map}
use Rattle.std.proofs.lemmas.Option.{slice_get_within, get_or_from_slice_get}
use Rattle.cpg_record.specs.declared.records.Record.{Record}
use Rattle.cpg_record.specs.Places.{record_at}
use Rattle.cpg_record.proofs.Placing.{record_at-index}
use Rattle.cpg_board.specs.Seats.{SeatValue, records_of}
use Rattle.cpg_print.specs.Records.{audit_line, audit_lines, count_line}
use Rattle.cpg_step.specs.Looks.{numbered}
use Rattle.cpg_step.proofs.Listing.{record_put, lines_and_last}
use Rattle.cpg_cluster.specs.Lines.{audit_text}

-- the line of the record at a place more is put
pub known_put : (line : ℕ → Record → List ℕ) (first lines new : List ℕ) (seat : SeatValue) (i : ℕ) (past : Record) → record_at (records_of seat) (i + 1) ≡ Some past
    → lines ≡ first ++ concat (numbered line (take i (records_of seat))) → new ≡ lines ++ line (i + 1) past → new ≡ first ++ concat (numbered line (take (i + 1) (records_of seat)))
known_put line first lines new seat i past stands before put =
    let lower : i + 1 - 1 ≡ i = omega arith in
    let at : slice_get (records_of seat) i ≡ Some past = ap (slice_get (records_of seat)) (sym lower) ∙ (sym (record_at-index (records_of seat) (i + 1) (omega arith)) ∙ stands) in
    record_put line first lines new (records_of seat) i past (slice_get_within (records_of seat) i past at) (get_or_from_slice_get (records_of seat) i past past at) before put

-- the lines of all records are put, and the line that counts them
pub lines_put : (line : ℕ → Record → List ℕ) (counts : ℕ → List ℕ) (first lines new : List ℕ) (seat : SeatValue) (count : ℕ) → count ≡ length seat
    → lines ≡ first ++ concat (numbered line (records_of seat)) → new ≡ lines ++ counts count → new ≡ first ++ concat (numbered line (records_of seat) ++ counts (length (records_of seat)) ∷ [])
lines_put line counts first lines new seat count counted before put =
    let count_of : count ≡ length (records_of seat) = counted ∙ sym (length-map seat (λ (known : ℕ × Record). known.1)) in
    lines_and_last first lines new (numbered line (records_of seat)) (counts (length (records_of seat))) before (put ∙ ap (λ n. lines ++ counts n) count_of)

-- all lines are put, and the count
pub seat_put : (first lines new : List ℕ) (seat : SeatValue) (count : ℕ) → count ≡ length seat → lines ≡ first ++ concat (audit_lines (records_of seat)) → new ≡ lines ++ count_line count → new ≡ first ++ audit_text (records_of seat)
seat_put first lines new seat count counted before put = lines_put audit_line count_line first lines new seat count counted before put

-- Records by their places.
use Rattle.std.proofs.Common.{◌≡◌, ℕ, zero, suc, ◌-◌, ◌≤◌, List, sym, ap, arith}
use Rattle.std.specs.List.{slice_get}
use Rattle.cpg_record.specs.declared.records.Record.{Record}
use Rattle.cpg_record.specs.Places.{record_at}

-- from place 1 on, the record at a place has the index one lower
pub record_at-index : (rs : List Record) (place : ℕ) → 1 ≤ place → record_at rs place ≡ slice_get rs (place - 1)
record_at-index rs zero h = absurd (omega arith)
record_at-index rs (suc index) h =
    let lower : suc index - 1 ≡ index = omega arith in
    ap (slice_get rs) (sym lower)

-- the front of what a row says
use Rattle.std.proofs.Common.{◌≡◌, ℕ, ◌<◌, ◌≤◌, List, length, take, sym, arith}
use Rattle.std.proofs.lemmas.List.{length-take-le}

-- where there is no room for all of it, the front is as long as it is to be
pub front_fits : (words : List ℕ) → 112 < length words → 109 ≡ length (take 109 words)
front_fits words more =
    let within : 109 ≤ length words = omega arith in
    sym (length-take-le 109 words within)

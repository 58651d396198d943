-- Numbers, statuses and words of what is told, from bytes and back.
use Rattle.std.proofs.Common.{◌≡◌, ℕ, ◌+◌, ◌*◌, List, [], ◌∷◌, ◌++◌, length, Option, Some, refl, ap, ◌∙◌, length-append, arith}
use Rattle.cpg_wire.specs.Reading.{◌>>=◌}
use Rattle.cpg_ask.specs.declared.statuses.Status.{Status}
use Rattle.cpg_ask.specs.declared.statuses.Status.TheVariants as status
use Rattle.cpg_ask.specs.Numbers.{little_at, IsU32}
use Rattle.cpg_ask.specs.Statuses.{status_number}
use Rattle.cpg_ask.specs.Tells.{Process, number, process_bytes, processes_bytes}
use Rattle.cpg_ask.proofs.Littles.{u32_reads}
use Rattle.cpg_ask.specs.TellReading.{status_of, status_at, numbered_at}

-- the number of a status fits, and stands for it
status_is : (s : Status) → IsU32 (status_number s) × (status_of (status_number s) ≡ Some s)
unfolding status_of
status_is status.Fine = (omega arith, refl)
status_is status.Library = (omega arith, refl)
status_is status.Version = (omega arith, refl)
status_is status.TryAgain = (omega arith, refl)
status_is status.Param = (omega arith, refl)
status_is status.Memory = (omega arith, refl)
status_is status.Access = (omega arith, refl)
status_is status.NotExist = (omega arith, refl)
status_is status.LongName = (omega arith, refl)
status_is status.Exist = (omega arith, refl)
status_is status.Space = (omega arith, refl)
status_is status.TooBig = (omega arith, refl)

pub status_fits : (s : Status) → IsU32 (status_number s)
status_fits s = (status_is s).0

pub status_again : (s : Status) → status_of (status_number s) ≡ Some s
status_again s = (status_is s).1

pub number_again : (n : ℕ) (rest : List ℕ) → IsU32 n → little_at 4 (number n ++ rest) ≡ Some (n, rest)
unfolding number
number_again n rest h = u32_reads.again n rest h

pub status_at_again : (s : Status) (rest : List ℕ) → status_at (number (status_number s) ++ rest) ≡ Some (s, rest)
unfolding status_at
status_at_again s rest =
    ap (λ (o : Option (ℕ × List ℕ)). o >>= λ n. status_of n.0 >>= λ t. Some (t, n.1)) (number_again (status_number s) rest (status_fits s))
    ∙ ap (λ (o : Option Status). o >>= λ t. Some (t, rest)) (status_again s)

pub numbered_again : (s : Status) (n : ℕ) (rest : List ℕ) → IsU32 n → numbered_at (number (status_number s) ++ (number n ++ rest)) ≡ Some ((s, n), rest)
unfolding numbered_at
numbered_again s n rest h =
    ap (λ (o : Option (Status × List ℕ)). o >>= λ t. little_at 4 t.1 >>= λ k. Some ((t.0, k.0), k.1)) (status_at_again s (number n ++ rest))
    ∙ ap (λ (o : Option (ℕ × List ℕ)). o >>= λ k. Some ((s, k.0), k.1)) (number_again n rest h)

process_length : (p : Process) → length (process_bytes p) ≡ 12
unfolding number
process_length p = refl

-- a process takes twelve bytes
pub processes_length : (ps : List Process) → length (processes_bytes ps) ≡ 12 * length ps
processes_length [] = refl
processes_length (p ∷ ps) =
    let one : length (process_bytes p) ≡ 12 = process_length p in
    let more : length (processes_bytes ps) ≡ 12 * length ps = processes_length ps in
    let all : length (process_bytes p ++ processes_bytes ps) ≡ length (process_bytes p) + length (processes_bytes ps) = length-append (process_bytes p) (processes_bytes ps) in
    omega (arith, one, more, all)

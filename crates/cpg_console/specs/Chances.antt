-- What becomes of a running cluster's frames by chance.
use Rattle.std.specs.Prelude.{ℕ, ◌+◌, ◌*◌, ◌%◌, ◌^◌, if◌then◌else◌, nat_lt}
use Rattle.rand_pcg.specs.Lcg.{Lcg, advance, increment_of, started}
use Rattle.rand_pcg.specs.Pcg.{multiplier_64, pcg32}
use Rattle.cpg_daemon.specs.declared.gates.Fate.{Fate}
use Rattle.cpg_daemon.specs.declared.gates.Fate.TheVariants.{Pass, Drop, Repeat}
use Rattle.cpg_console.specs.declared.chances.Chances.{Chances}

-- the generator that the seed and the two nodes choose, at the first of the two words of that frame between them
abbrev pub dice_at : ℕ → ℕ → ℕ → ℕ → Lcg
dice_at seed from to index = advance 64 multiplier_64 (index * 2 % 2 ^ 64) (started 64 multiplier_64 seed (increment_of 64 (from * 16 + to)))

-- The first word decides whether the frame is lost, and the second, where it is not, whether it comes twice.
abbrev pub fate_by : Chances → Lcg → Fate
fate_by chances dice =
    let first = pcg32 dice in
    if nat_lt (first.0 % 100) chances.lose then Drop
    else if nat_lt ((pcg32 first.1).0 % 100) chances.repeat then Repeat else Pass

-- the numbers of frames
use Rattle.std.specs.Prelude.{ℕ, zero, suc, ◌+◌, ◌-◌, List, [], ◌++◌, nat_le, codes, decimal, if◌then◌else◌}

-- the numbers of so many frames that were sent after so many
abbrev pub numbers_after : ℕ → ℕ → List ℕ
numbers_after before zero = []
numbers_after before (suc more) = numbers_after before more ++ (codes " " ++ decimal (before + suc more))

-- ` frames` and the numbers, where there were so many frames before an event and so many after it; nothing where it sent none
abbrev pub frames_text : ℕ → ℕ → List ℕ
frames_text before after = if nat_le after before then [] else codes " frames" ++ numbers_after before (after - before)

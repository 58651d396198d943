-- what the reads of a whole stream came to
use Rattle.std.specs.Prelude.{◌≡◌, ◌<◌, ◌≤◌, ◌⊎◌, true}
use Rattle.cpg_text.specs.declared.streams.Reads.{Reads}
use Rattle.cpg_text.specs.declared.streams.TheConstants.{MOST_BYTES, MOST_READS}

-- a read failed, and not by an interruption, or as many reads were made as a stream may take, or they gave
-- more bytes than it may have
abbrev pub RunsOut : Reads → Type 0
RunsOut reads = (reads.failed ≡ true) ⊎ ((MOST_READS ≤ reads.count) ⊎ (MOST_BYTES < reads.bytes))

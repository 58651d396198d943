-- a stream that is written to, and whether its reader has left
use Rattle.std.specs.Prelude.{ℕ, Bool, List, Option}
use Rattle.std.specs.declared.io.buffered.BufWriter.{BufWriter}
use Rattle.std.specs.Io.Buffered.{writer_contents, writer_inner}
use Rattle.cpg_console.specs.declared.pipes.Piped.{Piped}

abbrev pub stream_of : {W : Type 0} → Piped W → W
stream_of piped = piped.stream

abbrev pub is_left : {W : Type 0} → Piped W → Bool
is_left piped = piped.left

-- what was written to a stream with a buffer before it, where the stream tells its bytes
abbrev pub written : {W A : Type 0} → (W → Option (List ℕ)) → BufWriter (Piped W) A → Option (List ℕ)
written contents writer = writer_contents (λ piped. contents (stream_of piped)) writer

-- whether the reader of the stream behind a buffer has left
abbrev pub has_left : {W A : Type 0} → BufWriter (Piped W) A → Bool
has_left writer = is_left (writer_inner writer)

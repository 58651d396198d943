-- a stream whose lines are counted
use Rattle.cpg_console.specs.declared.progress.Counted.{Counted}

-- the stream
abbrev pub counted_of : {W E H : Type 0} → Counted W E H → W
counted_of counted = counted.stream

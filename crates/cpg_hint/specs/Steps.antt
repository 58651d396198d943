-- what the functions that go through a script hold, which no contract of a public function cites
use Rattle.std.specs.Prelude.{option_map}
use Rattle.cpg_text.specs.Lines.{lines_left}
use Rattle.cpg_hint.specs.Parts.{Begun}
use Rattle.cpg_hint.specs.declared.parts.PartStart.{PartStart}

-- the part that a view of it shows
abbrev pub begun_seen : PartStart → Begun
begun_seen start = record { number = start.number; names = start.names; lines = lines_left (option_map (λ after. after.now) start.after) }

-- steps of the writing functions, which no contract of a public function cites
use Rattle.std.specs.Prelude.{ℕ, ◌+◌, ◌-◌, List}
use Rattle.std.specs.List.{flat_map, range_with_len}
use Rattle.cpg_record.specs.declared.connections.ConnId.{ConnId}
use Rattle.cpg_record.specs.declared.records.Record.{Record}
use Rattle.cpg_judge.specs.Filtering.{lines_at}
use Rattle.cpg_judge.specs.declared.filter.filters.Filter.{Filter}

-- the lines of the places above one, up to another
abbrev pub lines_between : Filter → List Record → ConnId → ℕ → ℕ → List (List ℕ)
lines_between f records conn after last = flat_map (lines_at f records conn) (range_with_len (after + 1) (last - after))

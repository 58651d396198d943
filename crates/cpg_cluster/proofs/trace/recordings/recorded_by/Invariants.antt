use Rattle.std.proofs.Common.{◌≡◌, ◌+◌, ◌++◌, ◌||◌, length}
use Rattle.std.specs.List.Sorted.{IsPermutation}
use Rattle.cpg_cluster.specs.TraceScripts.{lines_of_all, is_cut}
use Rattle.cpg_cluster.proofs.trace.recordings.recorded_by.Given as goal

abbrev pub invariant-loop : goal.invariant-loop
invariant-loop g l =
    (length l.stations.items + l.counter ≡ length l.fn.stations.items) × IsPermutation (lines_of_all l.fn.stations.items) (lines_of_all l.stations.items ++ l.recording.script.items)
    × ((is_cut l.stations.items || l.recording.cut) ≡ is_cut l.fn.stations.items)

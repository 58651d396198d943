use Rattle.std.proofs.Common.{◌≡◌, ◌≤◌, ◌+◌, ◌++◌, map, reverse, vec_len, vec_capacity}
use Rattle.cpg_daemon.proofs.stopping.stations_of.Given as goal

abbrev pub invariant-loop : goal.invariant-loop
invariant-loop g l =
    (vec_len l.stations ≡ l.counter) × (vec_len l.members + l.counter ≡ vec_len l.fn.members) × (vec_len l.fn.members ≤ vec_capacity l.stations)
    × (map (λ m. m.station) l.fn.members.items ≡ map (λ m. m.station) l.members.items ++ reverse l.stations.items)

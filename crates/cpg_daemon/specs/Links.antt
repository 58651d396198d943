-- How many links a cluster has, and where they go.
use Rattle.std.specs.Prelude.{ℕ, ◌+◌, ◌-◌, ◌*◌, ◌==◌, nat_lt, if◌then◌else◌}

-- how many links go out of a node, and into it: one for each other node, and one to itself where there is no other
abbrev pub peers_of : ℕ → ℕ
peers_of nodes = if nodes == 1 then 1 else nodes - 1

-- how many links there are
abbrev pub links_of : ℕ → ℕ
links_of nodes = nodes * peers_of nodes

-- the node to which the link of that index goes, from 0 on, of those that come from a node: the others in their order
abbrev pub peer_of : ℕ → ℕ → ℕ → ℕ
peer_of nodes from index = if nodes == 1 then 1 else if nat_lt (index + 1) from then index + 1 else index + 2

-- the node to which a node sends the token
abbrev pub next_of : ℕ → ℕ → ℕ
next_of nodes node = if nat_lt node nodes then node + 1 else 1

-- Sets of nodes: a bit for each.
use Rattle.std.specs.Prelude.{ℕ, ◌-◌, ◌^◌, Bool, not, ◌&&◌, ◌==◌, nat_lt, nat_le, bit_and, bit_or, if◌then◌else◌}

-- the bit of a node, of which there are eight at most
unfoldable pub bit_of : ℕ → ℕ
bit_of node = if nat_lt 0 node && nat_le node 8 then 2 ^ (node - 1) else 0

-- the set, and that node
abbrev pub with_node : ℕ → ℕ → ℕ
with_node set node = bit_or set (bit_of node)

-- the node is in the set
abbrev pub has : ℕ → ℕ → Bool
has set node = not (bit_and set (bit_of node) == 0)

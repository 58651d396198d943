-- What is left of an endpoint that was closed into another, and is freed piece by piece.
use Rattle.std.specs.Prelude.{ℕ, zero, suc, ◌-◌, length, Option, Some, None}
use Rattle.cpg_node.specs.Nodes.{NodeValue, records_of}
use Rattle.cpg_embed.specs.Endpoints.{EndpointValue}

-- so many places are left, and nothing where none is
abbrev pub some_left : ℕ → Option ℕ
some_left zero = None
some_left (suc n) = Some (suc n)

-- what is left once so many places more are freed
abbrev pub left_after : Option ℕ → ℕ → Option ℕ
left_after None most = None
left_after (Some places) most = some_left (places - most)

-- how many places are left
abbrev pub places_left : Option ℕ → ℕ
places_left None = 0
places_left (Some places) = places

-- the endpoint with what is left of that node, a place for each that it delivered
abbrev pub with_remains : EndpointValue → NodeValue → EndpointValue
with_remains e node = record e { remains = some_left (length (records_of node)) }

-- the endpoint with so many places less
abbrev pub after_shedding : EndpointValue → ℕ → EndpointValue
after_shedding e most = record e { remains = left_after e.remains most }

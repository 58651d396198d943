use Rattle.std.proofs.Common.{◌≡◌, take}
use Rattle.std.specs.List.{flat_map}
use Rattle.cpg_node.specs.Nodes.{records_of}
use Rattle.cpg_ask.specs.Tells.{listing_bytes}
use Rattle.cpg_serve.specs.Answering.{asker_of, listing_of}
use Rattle.cpg_serve.proofs.answers.list_groups.Given as goal

abbrev pub invariant-loop-name : goal.invariant-loop-name
invariant-loop-name l = l.text.items ≡ flat_map (λ name. listing_bytes (listing_of (records_of l.node) (asker_of l.node l.conn) l.wanted name)) (take l.name-index l.names)

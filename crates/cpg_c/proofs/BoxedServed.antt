-- The box of a node with its clients: what its parts and the room for it are made of.
use mir.Syntax.{impl, tnil, dnil}
use mathlib.Core.List.{[]}
use denote.Signature as signature
use Rattle.std_alloc.proofs.BoxSteps.Form.{Bx}
use Rattle.std_heap.specs.contracts.Global as allocator
use Rattle.std_heap.specs.contracts.GlobalAllocator.TheImpl.{ghosts, dict}
use Rattle.std_heap.proofs.Global.TheLaws as allocator_laws
use Rattle.cpg_serve.specs.contracts.served.Served as endpoint
use Rattle.cpg_serve.proofs.served.Served.TheLaws as endpoint_laws
use Rattle.cpg_c.specs.contracts.parts.Parts as parts
use Rattle.cpg_c.specs.contracts.served_slots.ServedSlot as slot

-- the box of a node with its clients in C's memory
abbrev pub boxed : Bx
boxed = record { row = endpoint.the_row; laws = endpoint_laws.the_row_laws; al = record { row = allocator.the_row; laws = allocator_laws.the_row_laws; g = ghosts; d = dict; drops = impl [] tnil dnil } }

-- an argument that is the parts of that box
abbrev pub from_parts : signature.Slot 0
from_parts = signature.plain (λ _. parts.the_row endpoint.the_row allocator.the_row ghosts)

-- an argument that is the room for it
abbrev pub from_slot : signature.Slot 0
from_slot = signature.plain (λ _. slot.the_row)

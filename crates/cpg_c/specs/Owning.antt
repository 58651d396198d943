-- What the room for an endpoint, or for a node with its clients, owns: what a box of it owns, or nothing.
use base.Fml.{Fml, ftrue}
use base.Stored.{Coded}
use denote.RawPtr.{Ptr}
use Rattle.std.specs.Prelude.{Option, None, Some}
use Rattle.std.specs.Coded.{coded_option}
use Rattle.std.specs.Box.Ownership.{box_owns}
use Rattle.std.specs.Global.{Global}
use Rattle.std_heap.specs.contracts.GlobalAllocator.TheImpl.{ghosts}
use Rattle.cpg_embed.specs.contracts.endpoints.Endpoint.{the_row}
use Rattle.cpg_serve.specs.contracts.served.Served as served
use denote.RattleType.{RattleType}

-- a box of that value in C's memory, or nothing
abbrev pub boxed_or_none : (row : RattleType) → Global → Ptr → Option row.Denot → Fml
boxed_or_none row alloc at None = ftrue
boxed_or_none row alloc at (Some value) = box_owns (ghosts.dealloc_token alloc) row at value

abbrev pub slot_owns : Global → Ptr → Option the_row.Denot → Fml
slot_owns = boxed_or_none the_row

abbrev pub held_code : Coded (Option the_row.Denot)
held_code = coded_option the_row.coded

abbrev pub served_owns : Global → Ptr → Option served.the_row.Denot → Fml
served_owns = boxed_or_none served.the_row

abbrev pub served_code : Coded (Option served.the_row.Denot)
served_code = coded_option served.the_row.coded

-- frames as arrows
use Rattle.std.specs.Prelude.{ℕ, ◌+◌, List, [], ◌∷◌, nat_le, Option, Some, None, if◌then◌else◌}
use Rattle.cpg_entry.specs.declared.frames.Frame.{Frame}
use Rattle.cpg_entry.specs.declared.frames.Frame.TheVariants as frame
use Rattle.cpg_ring.specs.Worlds.{item, with_item}
use Rattle.cpg_draw.specs.declared.arrows.Arrow.{Arrow}
use Rattle.cpg_draw.specs.declared.arrows.ArrowKind.{ArrowKind}
use Rattle.cpg_draw.specs.declared.arrows.ArrowKind.TheVariants.{Data, Again, Token}
use Rattle.cpg_draw.specs.declared.excerpts.Spot.{Spot}
use Rattle.cpg_draw.specs.Sets.{with_node}

-- What a frame is in a row that brought a token of that seq: the token; or data, served again where its place is not above that seq.
abbrev pub kind_of : ℕ → Frame → ArrowKind
kind_of seq (frame.Token token) = Token
kind_of seq (frame.Packet packet) = if nat_le packet.place seq then Again else Data

-- its place, or its hop
abbrev pub mark_of : Frame → ℕ
mark_of (frame.Token token) = token.hop
mark_of (frame.Packet packet) = packet.place

-- the seq of a frame, where it is the token
abbrev pub seq_of : Frame → ℕ
seq_of (frame.Token token) = token.seq
seq_of (frame.Packet packet) = 0

-- The arrow of the frame of that number: it begins at the row whose reply sent it, in the column of the node that sent it.
abbrev pub arrow_of : ℕ → Spot → ℕ → ℕ → Frame → Arrow
arrow_of number sent node seq f = record { number = number; sent = sent; node = node; kind = kind_of seq f; mark = mark_of f; came = 0 }

-- the arrows of frames that one row sent, the first of which has that number
abbrev pub arrows_of : ℕ → Spot → ℕ → ℕ → List Frame → List Arrow
arrows_of number sent node seq [] = []
arrows_of number sent node seq (f ∷ later) = arrow_of number sent node seq f ∷ arrows_of (number + 1) sent node seq later

-- the arrow of a frame, if there is one
abbrev pub made_at : ℕ → Spot → ℕ → ℕ → Option Frame → Option Arrow
made_at number sent node seq None = None
made_at number sent node seq (Some f) = Some (arrow_of number sent node seq f)

-- an arrow, if there is one, as a list
abbrev pub arrow_list : Option Arrow → List Arrow
arrow_list None = []
arrow_list (Some a) = a ∷ []

-- the seq of the frame that a row brings, where it brings a token
abbrev pub seq_brought : Option Frame → ℕ
seq_brought None = 0
seq_brought (Some f) = seq_of f

-- the arrow, if there is one, ends in a row of that node
abbrev pub with_end : List Arrow → ℕ → ℕ → Option Arrow → List Arrow
with_end arrows number node None = arrows
with_end arrows number node (Some a) = with_item arrows number (record a { came = with_node a.came node })

-- the arrows, where the frame of that number is brought to that node
abbrev pub with_brought : List Arrow → ℕ → ℕ → List Arrow
with_brought arrows number node = with_end arrows number node (item arrows number)

-- The eight bytes that stand before what is asked or told: how many bytes follow them, a kind, and a tag that an answer repeats.
use Rattle.std.specs.Prelude.{ℕ, List, ◌++◌, Option, Some}
use Rattle.byteorder.specs.Endian.{little_bytes}
use Rattle.cpg_wire.specs.Reading.{◌>>=◌}
use Rattle.cpg_ask.specs.declared.heads.Head.{Head}
use Rattle.cpg_ask.specs.Numbers.{little_at, IsU16, IsU32}

-- a head: the count in four bytes, the kind and the tag in two each
abbrev pub head_bytes : Head → List ℕ
head_bytes head = little_bytes 4 head.count ++ (little_bytes 2 head.kind ++ little_bytes 2 head.tag)

-- the head that stands in front, and what follows it
unfoldable pub head_at : List ℕ → Option (Head × List ℕ)
head_at bytes = do
  count ← little_at 4 bytes
  kind ← little_at 2 count.1
  tag ← little_at 2 kind.1
  Some (record { count = count.0; kind = kind.0; tag = tag.0 }, tag.1)

-- the numbers of a head fit their types
pub record HeadFits (head : Head) : Type 0 where
  pub count : IsU32 head.count
  pub kind : IsU16 head.kind
  pub tag : IsU16 head.tag

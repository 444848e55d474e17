-- The name of a packet: by three bytes, and when a memory has such a packet.
use Rattle.std.specs.Prelude.{List, ℕ, ◌<◌, slice_index}
use Rattle.layout.specs.declared.PacketName.{PacketName}
use Rattle.layout.specs.declared.Shape.{Shape}

-- The packet that three bytes name: its row, its group and its symbol [cycle.list].
abbrev pub name_of : List ℕ → PacketName
name_of bytes = record { row = slice_index bytes 0; group = slice_index bytes 1; symbol = slice_index bytes 2 }

-- The row, the group and the symbol are there: the shape has that many.
pub record PacketOf (shape : Shape) (name : PacketName) : Type 0 where
  pub row : name.row < shape.g
  pub group : name.group < shape.m
  pub symbol : name.symbol < shape.k

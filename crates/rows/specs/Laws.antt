-- The laws of a row in a store, for any shape, store and generation.
use Rattle.std.specs.Prelude.{◌≡◌, true, List, [], ℕ, suc, ◌+◌, ◌*◌, ◌^◌, ◌≤◌, ◌<◌, length, slice_index, slice_index_or}
use Rattle.cells.specs.Cell.{Outside}
use Rattle.cells.specs.Xor.{xor_bytes}
use Rattle.simplex.specs.Shape.{degree_of}
use Rattle.simplex.specs.Code.{bank_cell}
use Rattle.simplex.specs.Symbols.{has_symbol, highest_of, without_highest}
use Rattle.layout.specs.declared.Shape.{Shape}
use Rattle.layout.specs.Shape.{store_size, generation_size, CellOf, offset, cell_at}
use Rattle.layout.specs.Name.{PacketOf}
use Rattle.rows.specs.Rows.{packets_in, packet_place, packet_in, group_written, row_written, packet_updated, edited}

-- This byte of the store lies in no cell of the row.
abbrev pub OutsideRow : Shape → (row byte : ℕ) → Type 0
OutsideRow shape row byte = (group b : ℕ) → CellOf shape group b row → Outside shape.p (offset shape group b row) byte

-- It lies in no cell that an update of the symbol's packet sets.
abbrev pub OutsideUpdated : Shape → (row group symbol byte : ℕ) → Type 0
OutsideUpdated shape row group symbol byte =
    (b : ℕ) → CellOf shape group b row → has_symbol b symbol ≡ true → Outside shape.p (offset shape group b row) byte

-- Each bank of the group has in the row what the code puts there for a generation.
abbrev pub GroupHeld : Shape → (row group : ℕ) → (generation store : List ℕ) → Type 0
GroupHeld shape row group generation store =
    (b : ℕ) → CellOf shape group b row → cell_at shape store group b row ≡ bank_cell shape.p (packets_in shape generation group) b

-- Of a store and the store after a generation was written to a row, whatever the store held.
-- cells: each cell of the row, in all groups, is what the code puts there for the generation's packets.
-- copies: of a bank of degree one it is the bank's packet. steps: of every other it is the XOR of two sources, the packet of the highest
-- symbol and, in the same row, the cell of the bank of the other symbols.
-- others: every other byte is as it was. Rules [write.cells], [write.steps].
pub record Written (shape : Shape) (row : ℕ) (generation store after : List ℕ) : Type 0 where
  pub size : length after ≡ length store
  pub cells : (group b : ℕ) → CellOf shape group b row
      → cell_at shape after group b row ≡ bank_cell shape.p (packets_in shape generation group) b
  pub copies : (group b : ℕ) → CellOf shape group b row → degree_of b ≡ 1
      → cell_at shape after group b row ≡ packet_in shape generation group (highest_of b)
  pub steps : (group b : ℕ) → CellOf shape group b row → 2 ≤ degree_of b → cell_at shape after group b row
      ≡ xor_bytes (cell_at shape after group (without_highest b) row) (packet_in shape generation group (highest_of b))
  pub others : (byte : ℕ) → OutsideRow shape row byte → slice_index after byte ≡ slice_index store byte

-- Of a store and the store after an update of the packet of a symbol of a group in a row, whatever the store held: in that row, the cells
-- of the group's banks that hold the symbol change by the XOR of the systematic bank's cell and the new packet; no other byte does
-- [update.cells].
pub record Updated (shape : Shape) (row group symbol : ℕ) (packet store after : List ℕ) : Type 0 where
  pub size : length after ≡ length store
  pub cells : (b : ℕ) → CellOf shape group b row → has_symbol b symbol ≡ true → cell_at shape after group b row
      ≡ xor_bytes (cell_at shape store group b row) (xor_bytes (cell_at shape store group (2 ^ symbol) row) packet)
  pub systematic : cell_at shape after group (2 ^ symbol) row ≡ packet
  pub others : (byte : ℕ) → OutsideUpdated shape row group symbol byte → slice_index after byte ≡ slice_index store byte

-- A generation with the packet of a symbol of a group edited: it has the new packet there, and every other packet as it was.
pub record Edited (shape : Shape) (group symbol : ℕ) (packet before after : List ℕ) : Type 0 where
  pub size : length after ≡ length before
  pub itself : packet_in shape after group symbol ≡ packet
  pub others : (y j : ℕ) → y < shape.m → j < shape.k → ((y ≡ group) × (j ≡ symbol) → ⊥)
      → packet_in shape after y j ≡ packet_in shape before y j

-- The order of a generation's packets. first: it begins with that of group 0, symbol 0. next_symbol: the packet of a group's next symbol
-- comes P bytes further on. next_group: that of the next group K * P. last: it ends with that of the last group's last symbol.
-- bytes: so these are the bytes of a group's packet.
pub record TheGeneration (shape : Shape) : Type 0 where
  pub first : packet_place shape 0 0 ≡ 0
  pub next_symbol : (group symbol : ℕ) → packet_place shape group (suc symbol) ≡ packet_place shape group symbol + shape.p
  pub next_group : (group symbol : ℕ) → packet_place shape (suc group) symbol ≡ packet_place shape group symbol + shape.k * shape.p
  pub last : (group symbol : ℕ) → shape.m ≡ suc group → shape.k ≡ suc symbol
      → packet_place shape group symbol + shape.p ≡ generation_size shape
  pub bytes : (generation : List ℕ) (group symbol byte : ℕ) → symbol < shape.k → byte < shape.p
      → slice_index (slice_index_or (packets_in shape generation group) symbol []) byte
      ≡ slice_index generation (packet_place shape group symbol + byte)

-- order: in which order a generation's packets stand.
-- packets: the packets of a group, cut from its part of the generation, are those that stand at their places.
-- written: a generation written to a row sets the cells of that row alone.
-- updated: an update changes the cells of its group's banks that hold the symbol, in that row, alone. editing: an edited generation has the
-- new packet in its place, and every other packet as it was.
-- fresh: where the group's cells in that row are what the code puts there for a generation, the store after the update is the store after
-- the group was written afresh with its packets of the edited generation.
pub record TheRows : Type 0 where
  pub order : (shape : Shape) → TheGeneration shape
  pub packets : (shape : Shape) (generation : List ℕ) (group symbol : ℕ) → symbol < shape.k
      → slice_index_or (packets_in shape generation group) symbol [] ≡ packet_in shape generation group symbol
  pub written : (shape : Shape) (row : ℕ) (generation store : List ℕ) → row < shape.g → length store ≡ store_size shape
      → length generation ≡ generation_size shape → Written shape row generation store (row_written shape row generation store)
  pub updated : (shape : Shape) (row group symbol : ℕ) (packet store : List ℕ)
      → PacketOf shape (record { row = row; group = group; symbol = symbol })
      → length store ≡ store_size shape → length packet ≡ shape.p
      → Updated shape row group symbol packet store (packet_updated shape row group symbol packet store)
  pub editing : (shape : Shape) (generation : List ℕ) (group symbol : ℕ) (packet : List ℕ) → group < shape.m → symbol < shape.k
      → length packet ≡ shape.p → length generation ≡ generation_size shape
      → Edited shape group symbol packet generation (edited shape generation group symbol packet)
  pub fresh : (shape : Shape) (row group symbol : ℕ) (packet store generation : List ℕ)
      → PacketOf shape (record { row = row; group = group; symbol = symbol })
      → length store ≡ store_size shape → length packet ≡ shape.p → length generation ≡ generation_size shape
      → GroupHeld shape row group generation store → packet_updated shape row group symbol packet store
      ≡ group_written shape group row (packets_in shape (edited shape generation group symbol packet) group) store

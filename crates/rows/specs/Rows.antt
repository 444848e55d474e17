-- A row of a store: the packets of a generation, the cells that they set, and the cells that an update of one packet changes.
use Rattle.std.specs.Prelude.{List, ℕ, zero, suc, ◌+◌, ◌*◌}
use Rattle.cells.specs.Cell.{cell, put}
use Rattle.simplex.specs.Code.{Packet}
use Rattle.simplex.specs.Filling.{packets_of, filled}
use Rattle.simplex.specs.Updating.{symbol_updated}
use Rattle.layout.specs.declared.Shape.{Shape}
use Rattle.layout.specs.Shape.{banks, offset}

-- The packets of a group: its K·P bytes of the generation, behind those of the groups before it, cut by symbol [shape.generation].
abbrev pub packets_in : Shape → List ℕ → ℕ → List Packet
packets_in shape generation group = packets_of shape.p shape.k (cell generation (group * (shape.k * shape.p)) (shape.k * shape.p))

-- Where the packet of a symbol of a group stands in a generation, and that packet.
abbrev pub packet_place : Shape → (group symbol : ℕ) → ℕ
packet_place shape group symbol = (group * shape.k + symbol) * shape.p

abbrev pub packet_in : Shape → List ℕ → (group symbol : ℕ) → Packet
packet_in shape generation group symbol = cell generation (packet_place shape group symbol) shape.p

-- The store with the cells of all banks of a group in a row filled, for a group of these packets: bank by bank from 1 up, by copies and
-- by steps of running XOR.
abbrev pub group_written : Shape → (group row : ℕ) → List Packet → (store : List ℕ) → List ℕ
group_written shape group row packets store = filled shape.p packets (λ b. offset shape group b row) (banks shape) store

-- The same for the first n groups of a generation.
unfoldable pub groups_written : Shape → (row : ℕ) → (generation : List ℕ) → (n : ℕ) → (store : List ℕ) → List ℕ
groups_written shape row generation zero store = store
groups_written shape row generation (suc n) store =
    group_written shape n row (packets_in shape generation n) (groups_written shape row generation n store)

-- The same for all m groups: the store after a write [write.cells].
abbrev pub row_written : Shape → (row : ℕ) → (generation store : List ℕ) → List ℕ
row_written shape row generation store = groups_written shape row generation shape.m store

-- The store after an update of the packet of a symbol of a group in a row (customers say: a patch): in that row, the packet of the
-- systematic bank and the new one are both XORed into the cells of the group's banks that hold the symbol [update.cells].
abbrev pub packet_updated : Shape → (row group symbol : ℕ) → Packet → (store : List ℕ) → List ℕ
packet_updated shape row group symbol packet store =
    symbol_updated shape.p symbol packet (λ b. offset shape group b row) (banks shape) store

-- A generation with the packet of a symbol of a group edited.
abbrev pub edited : Shape → (generation : List ℕ) → (group symbol : ℕ) → Packet → List ℕ
edited shape generation group symbol packet = put generation (packet_place shape group symbol) packet

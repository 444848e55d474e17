-- The shape of a memory: its ranges, its sizes, and where each cell lies.
use Rattle.std.specs.Prelude.{List, ℕ, ◌+◌, ◌-◌, ◌*◌, ◌≤◌, ◌<◌}
use Rattle.refusals.specs.Verdict.{Verdict, between, check, ◌then◌}
use Rattle.cells.specs.Cell.{cell}
use Rattle.simplex.specs.declared.TheConstants.{LEAST_SYMBOLS, MOST_SYMBOLS}
use Rattle.simplex.specs.Shape.{SymbolsInRange, banks_of}
use Rattle.simplex.specs.Code.{Packet}
use Rattle.layout.specs.declared.Shape.{Shape}
use Rattle.layout.specs.declared.TheConstants.{MOST_GROUPS, MOST_PACKET_BYTES, MOST_ROWS}

-- Set-up's refusals, 1 to 4, of what is out of its range: K (2 to 5), m (1 to 8), P (1 to 2,048), G (1 to 64) [set-up.refusals].
unfoldable pub shape_refusal : Shape → Verdict
shape_refusal shape =
    check 1 0 (between LEAST_SYMBOLS MOST_SYMBOLS shape.k)
    then check 2 0 (between 1 MOST_GROUPS shape.m)
    then check 3 0 (between 1 MOST_PACKET_BYTES shape.p)
    then check 4 0 (between 1 MOST_ROWS shape.g)

-- Set-up's ranges, in words.
abbrev pub GroupsInRange : Shape → Type 0
GroupsInRange shape = (1 ≤ shape.m) × (shape.m ≤ MOST_GROUPS)

abbrev pub BytesInRange : Shape → Type 0
BytesInRange shape = (1 ≤ shape.p) × (shape.p ≤ MOST_PACKET_BYTES)

abbrev pub RowsInRange : Shape → Type 0
RowsInRange shape = (1 ≤ shape.g) × (shape.g ≤ MOST_ROWS)

-- [shape.ranges]
pub record InRange (shape : Shape) : Type 0 where
  pub symbols : SymbolsInRange shape.k
  pub groups : GroupsInRange shape
  pub bytes : BytesInRange shape
  pub rows : RowsInRange shape

-- N, the banks of each group.
abbrev pub banks : Shape → ℕ
banks shape = banks_of shape.k

-- The bytes of the store, and of a generation [store.size], [shape.generation].
unfoldable pub store_size : Shape → ℕ
store_size shape = shape.m * banks shape * shape.g * shape.p

unfoldable pub generation_size : Shape → ℕ
generation_size shape = shape.m * shape.k * shape.p

-- The shape has this group, this bank in it, and this row.
pub record CellOf (shape : Shape) (in_group bank in_row : ℕ) : Type 0 where
  pub group : in_group < shape.m
  pub first : 1 ≤ bank
  pub last : bank ≤ banks shape
  pub row : in_row < shape.g

-- A bank of a group keeps a row from this byte of the store on [store.cell].
unfoldable pub offset : Shape → (group bank row : ℕ) → ℕ
offset shape group bank row = ((group * banks shape + bank - 1) * shape.g + row) * shape.p

-- What it keeps there.
abbrev pub cell_at : Shape → (store : List ℕ) → (group bank row : ℕ) → Packet
cell_at shape store group bank row = cell store (offset shape group bank row) shape.p

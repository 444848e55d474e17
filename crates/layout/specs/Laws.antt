-- The laws of a shape.
use Rattle.std.specs.Prelude.{◌≡◌, ◌↔◌, [], ◌∷◌, ℕ, suc, ◌+◌, ◌*◌, ◌≤◌}
use Rattle.refusals.specs.Verdict.{Verdict, Accepted, refused}
use Rattle.cells.specs.Cell.{Apart}
use Rattle.simplex.specs.declared.TheConstants.{LEAST_SYMBOLS, MOST_SYMBOLS}
use Rattle.layout.specs.declared.Shape.{Shape}
use Rattle.layout.specs.declared.TheConstants.{MOST_GROUPS, MOST_PACKET_BYTES, MOST_ROWS}
use Rattle.layout.specs.Shape.{shape_refusal, InRange, banks, store_size, CellOf, offset}
use Rattle.layout.specs.Name.{name_of}

-- What the code's constants have to be: K from 2 to 5, at most 8 groups, 2,048 bytes in a packet, 64 rows [shape.ranges].
pub record TheBounds : Type 0 where
  pub symbols : (LEAST_SYMBOLS ≡ 2) × (MOST_SYMBOLS ≡ 5)
  pub groups : MOST_GROUPS ≡ 8
  pub bytes : MOST_PACKET_BYTES ≡ 2048
  pub rows : MOST_ROWS ≡ 64

-- A number from `least` to `most`.
abbrev pub Within : (least most n : ℕ) → Type 0
Within least most n = (least ≤ n) × (n ≤ most)

-- What refuses a shape: each condition by its number, where those before it are not met; always with place 0.
pub record WrongShape (shape : Shape) (verdict : Verdict) : Type 0 where
  pub one : (Within 2 5 shape.k → ⊥) → verdict ≡ refused 1 0
  pub two : Within 2 5 shape.k → (Within 1 8 shape.m → ⊥) → verdict ≡ refused 2 0
  pub three : Within 2 5 shape.k → Within 1 8 shape.m → (Within 1 2048 shape.p → ⊥) → verdict ≡ refused 3 0
  pub four : Within 2 5 shape.k → Within 1 8 shape.m → Within 1 2048 shape.p → (Within 1 64 shape.g → ⊥) → verdict ≡ refused 4 0

-- Where the cells lie. first: the store begins with bank 1 of group 0, row 0. next_row, next_bank, next_group: the next row of a bank lies
-- P bytes further on, the next bank of a group G * P, the next group N * G * P. last: the store ends with the last row of the last bank
-- of the last group. Rule [store.cell].
pub record ThePlaces (shape : Shape) : Type 0 where
  pub first : offset shape 0 1 0 ≡ 0
  pub next_row : (group bank row : ℕ) → offset shape group bank (suc row) ≡ offset shape group bank row + shape.p
  pub next_bank : (group bank row : ℕ) → 1 ≤ bank
      → offset shape group (suc bank) row ≡ offset shape group bank row + shape.g * shape.p
  pub next_group : (group bank row : ℕ) → 1 ≤ bank
      → offset shape (suc group) bank row ≡ offset shape group bank row + banks shape * shape.g * shape.p
  pub last : (group row : ℕ) → CellOf shape group (banks shape) row → shape.m ≡ suc group → shape.g ≡ suc row
      → offset shape group (banks shape) row + shape.p ≡ store_size shape

-- ranges: set-up's ranges in words. refused: with which number it refuses a shape.
-- places: where the cells lie.
-- inside, apart: a cell lies within the store, and two cells that differ in group, bank or row have no byte in common.
-- names: the three bytes of a name are the row, the group and the symbol, in this order.
pub record TheLayout : Type 0 where
  pub ranges : (shape : Shape) → (shape_refusal shape ≡ Accepted) ↔ InRange shape
  pub refused : (shape : Shape) → WrongShape shape (shape_refusal shape)
  pub places : (shape : Shape) → ThePlaces shape
  pub inside : (shape : Shape) (group bank row : ℕ) → CellOf shape group bank row
      → offset shape group bank row + shape.p ≤ store_size shape
  pub apart : (shape : Shape) (group bank row group' bank' row' : ℕ)
      → CellOf shape group bank row → CellOf shape group' bank' row'
      → ((group ≡ group') × (bank ≡ bank') × (row ≡ row') → ⊥)
      → Apart shape.p (offset shape group bank row) (offset shape group' bank' row')
  pub names : (row group symbol : ℕ)
      → name_of (row ∷ group ∷ symbol ∷ []) ≡ record { row = row; group = group; symbol = symbol }

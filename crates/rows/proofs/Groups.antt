-- What the filling of one group's banks and the update of one of its symbols need; and the turns of the writer.
use mathlib.Core.Path.{◌≡◌, refl, sym, ap, ap₂, ◌∙◌}
use mathlib.Core.List.{List}
use Prim.Native.Nat.{ℕ, ◌+◌, ◌*◌, ◌^◌, ◌≤◌, ◌<◌}
use native.Mathlib.Nat.{one-mul, mul-le-mul_right}
use native.Mathlib.Omega.{arith}
use native.Mathlib.Numerals.{add-one}
use lib.ListN.{length}
use lib.Pow.{pow_mono}
use Rattle.cells.specs.Cell.{cell}
use Rattle.simplex.specs.Banks.{spaced}
use Rattle.simplex.specs.Filling.{packets_of, Fillable}
use Rattle.simplex.specs.Updating.{Updatable}
use Rattle.layout.specs.declared.Shape.{Shape}
use Rattle.layout.specs.Shape.{InRange, banks, store_size, CellOf, offset}
use Rattle.layout.specs.Name.{PacketOf}
use Rattle.rows.specs.Rows.{group_written, groups_written}
use Rattle.layout.proofs.Places.{inside, offset_spaced}

pub some_banks : (sh : Shape) → InRange sh → 3 ≤ banks sh
some_banks sh w = let l : 2 ^ 2 ≤ 2 ^ sh.k = pow_mono w.symbols.least in omega arith

-- a group's banks in a row, a row of cells apart: a step has room for a cell, and the store for the last
step_fits : (sh : Shape) → InRange sh → sh.p ≤ sh.g * sh.p
step_fits sh w = rw (one-mul sh.p) at (mul-le-mul_right sh.p w.rows.0)

last_fits : (sh : Shape) (x row : ℕ) → InRange sh → x < sh.m → row < sh.g → (size : ℕ) → size ≡ store_size sh
    → spaced (offset sh x 1 row) (sh.g * sh.p) (banks sh) + sh.p ≤ size
last_fits sh x row w group below size whole = rw (whole, ← offset_spaced sh x (banks sh) row some) (inside sh x (banks sh) row last_bank)
  where
    some : 1 ≤ banks sh
    some = omega (arith, some_banks sh w)

    last_bank : CellOf sh x (banks sh) row
    last_bank = record { group = group; first = some; last = omega arith; row = below }

pub fillable : (sh : Shape) (x row : ℕ) → InRange sh → x < sh.m → row < sh.g → (packets s : List ℕ) → length packets ≡ sh.k * sh.p
    → length s ≡ store_size sh → Fillable sh.k sh.p (offset sh x 1 row) (sh.g * sh.p) packets s
fillable sh x row w group below packets s size whole = record {
  symbols = w.symbols;
  packets_size = size;
  step_size = step_fits sh w;
  last = last_fits sh x row w group below (length s) whole;
}

pub updatable : (sh : Shape) (x i row : ℕ) → InRange sh → PacketOf sh (record { row = row; group = x; symbol = i }) → (packet s : List ℕ) → length s ≡ store_size sh
    → length packet ≡ sh.p → Updatable sh.k (length packet) i (offset sh x 1 row) (sh.g * sh.p) s
updatable sh x i row w u packet s whole size = rw size (record {
  symbols = w.symbols;
  symbol_there = u.symbol;
  step_size = step_fits sh w;
  last = last_fits sh x row w u.group u.row (length s) whole;
})

-- ---- a generation group by group

pub none_written : (sh : Shape) (row : ℕ) (generation s : List ℕ) → s ≡ groups_written sh row generation 0 s
unfolding groups_written
none_written sh row generation s = refl

-- one turn, whose part of the generation is group x's
pub one_written : (sh : Shape) (row : ℕ) (generation : List ℕ) (x : ℕ) (s now part : List ℕ) → now ≡ groups_written sh row generation x s
    → part ≡ cell generation (x * (sh.k * sh.p)) (sh.k * sh.p)
    → group_written sh x row (packets_of sh.p sh.k part) now ≡ groups_written sh row generation (x + 1) s
unfolding groups_written
one_written sh row generation x s now part e same =
    ap₂ (λ (t packets : List ℕ). group_written sh x row (packets_of sh.p sh.k packets) t) e same
    ∙ ap (λ (n : ℕ). groups_written sh row generation n s) (sym (add-one x))

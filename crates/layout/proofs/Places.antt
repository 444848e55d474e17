-- Where cells lie: within the store, and no two on one byte. A cell's place is p times a number with three digits: its group, its bank, its row.
use mathlib.Core.Path.{◌≡◌}
use Prim.Native.Nat.{ℕ, suc, ◌+◌, ◌-◌, ◌*◌, ◌≤◌, ◌<◌}
use native.Mathlib.Nat.{suc-mul, zero-mul}
use native.Mathlib.Omega.{arith}
use lib.Arith.{digits_lt}
use Rattle.cells.specs.Cell.{Apart}
use Rattle.cells.proofs.Steps.{step_within, digits_same, multiples_apart}
use Rattle.simplex.specs.Banks.{spaced, Room}
use Rattle.layout.specs.declared.Shape.{Shape}
use Rattle.layout.specs.Shape.{banks, store_size, CellOf, offset}
use Rattle.layout.specs.Laws.{ThePlaces}

pub inside : (sh : Shape) (x b r : ℕ) → CellOf sh x b r → offset sh x b r + sh.p ≤ store_size sh
unfolding offset store_size
inside sh x b r h =
    let bank : x * banks sh + (b - 1) < sh.m * banks sh = digits_lt h.group (omega arith) in
    step_within _ (sh.m * banks sh * sh.g) sh.p (digits_lt (omega arith) (omega arith))

-- the number of a cell: it lies at p times this
abbrev number : Shape → (x b r : ℕ) → ℕ
number sh x b r = (x * banks sh + b - 1) * sh.g + r

same_cell : (sh : Shape) (x b r y c q : ℕ) → CellOf sh x b r → CellOf sh y c q → number sh x b r ≡ number sh y c q
    → (x ≡ y) × (b ≡ c) × (r ≡ q)
same_cell sh x b r y c q h k e =
    let low = digits_same sh.g h.row k.row e in
    let high : (x ≡ y) × (b - 1 ≡ c - 1) = digits_same (banks sh) (omega arith) (omega arith) (omega arith) in
    (high.0, omega arith, low.1)

pub apart : (sh : Shape) (x b r y c q : ℕ) → CellOf sh x b r → CellOf sh y c q → ((x ≡ y) × (b ≡ c) × (r ≡ q) → ⊥)
    → Apart sh.p (offset sh x b r) (offset sh y c q)
unfolding offset
apart sh x b r y c q h k ne = multiples_apart sh.p (number sh x b r) (number sh y c q) (λ e. ne (same_cell sh x b r y c q h k e))

-- ---- from one cell to the next

module _ (sh : Shape) where
  first : offset sh 0 1 0 ≡ 0
  unfolding offset
  first = let none : 0 * banks sh + 1 - 1 ≡ 0 = omega (arith, zero-mul (banks sh)) in rw (none, zero-mul sh.g) (zero-mul sh.p)

  next_row : (x b r : ℕ) → offset sh x b (suc r) ≡ offset sh x b r + sh.p
  unfolding offset
  next_row x b r = omega (arith, suc-mul (number sh x b r) sh.p)

  next_bank : (x b r : ℕ) → 1 ≤ b → offset sh x (suc b) r ≡ offset sh x b r + sh.g * sh.p
  unfolding offset
  next_bank x b r some =
      let further : x * banks sh + suc b - 1 ≡ suc (x * banks sh + b - 1) = omega arith in
      rw further (omega arith)

  next_group : (x b r : ℕ) → 1 ≤ b → offset sh (suc x) b r ≡ offset sh x b r + banks sh * sh.g * sh.p
  unfolding offset
  next_group x b r some =
      let further : suc x * banks sh + b - 1 ≡ x * banks sh + b - 1 + banks sh = omega (arith, suc-mul x (banks sh)) in
      rw further (omega arith)

  last : (x r : ℕ) → CellOf sh x (banks sh) r → sh.m ≡ suc x → sh.g ≡ suc r → offset sh x (banks sh) r + sh.p ≡ store_size sh
  unfolding offset store_size
  last x r c m g =
      let all : sh.m * banks sh ≡ suc (x * banks sh + banks sh - 1) = rw m (omega (arith, suc-mul x (banks sh), c.first)) in
      let cells : suc (number sh x (banks sh) r) ≡ sh.m * banks sh * sh.g =
      rw all (omega (arith, suc-mul (x * banks sh + banks sh - 1) sh.g)) in
      rw (← cells) (omega (arith, suc-mul (number sh x (banks sh) r) sh.p))

  pub places : ThePlaces sh
  places = record { first = first; next_row = next_row; next_bank = next_bank; next_group = next_group; last = last }

-- ---- the banks of a group in a row

pub offset_spaced : (sh : Shape) (x b r : ℕ) → 1 ≤ b → offset sh x b r ≡ spaced (offset sh x 1 r) (sh.g * sh.p) b
unfolding offset
offset_spaced sh x b r h =
    let this : x * banks sh + b - 1 ≡ x * banks sh + (b - 1) = omega arith in
    let first : x * banks sh + 1 - 1 ≡ x * banks sh = omega arith in
    rw (this, first) (omega arith)

pub room : (sh : Shape) (x r size : ℕ) → x < sh.m → r < sh.g → size ≡ store_size sh → Room sh.p (λ b. offset sh x b r) (banks sh) size
unfolding offset
room sh x r size hx hr e = record {
  within = λ b l u. rw e (inside sh x b r (record { group = hx; first = l; last = u; row = hr }));
  rising = λ a b l h u.
      let bank = step_within (x * banks sh + a - 1) (x * banks sh + b - 1) sh.g (omega arith) in
      step_within (number sh x a r) (number sh x b r) sh.p (omega arith);
}

-- One step more of a product fits; numbers of two digits to a base, and multiples of a number.
use mathlib.Core.Path.{◌≡◌, refl, sym, ap, ◌∙◌}
use mathlib.Core.Logic.{◌≢◌, inl, inr}
use mathlib.Core.Bool.{Bool, true, false}
use Prim.Native.Nat.{ℕ, ◌+◌, ◌*◌, ◌/◌, ◌%◌, ◌≤◌, ◌<◌}
use native.Mathlib.Nat.{suc-mul, mul-le-mul_right}
use native.Mathlib.Omega.{arith}
use borrow.Author.Tests.{ltb-true, ltb-false}
use lib.Arith.{digits_div, digits_mod}
use lib.Dec.{ltb}
use Rattle.cells.specs.Cell.{Apart}

pub step_within : (n t step : ℕ) → n < t → n * step + step ≤ t * step
step_within n t step h = rw (suc-mul n step) at (mul-le-mul_right step h)

-- two digits to the base m
pub digits_same : (m : ℕ) {q r u t : ℕ} → r < m → t < m → q * m + r ≡ u * m + t → (q ≡ u) × (r ≡ t)
digits_same m {q} {r} {u} {t} h k e =
    (sym (digits_div q h) ∙ ap (λ (n : ℕ). n / m) e ∙ digits_div u k, sym (digits_mod q h) ∙ ap (λ (n : ℕ). n % m) e ∙ digits_mod u k)

-- different multiples of p are p apart
pub multiples_apart : (p i j : ℕ) → i ≢ j → Apart p (i * p) (j * p)
multiples_apart p i j ne = go (ltb i j) refl
  where
    go : (t : Bool) → ltb i j ≡ t → Apart p (i * p) (j * p)
    go true e = inl (step_within i j p (ltb-true i j e))
    go false e = let l : j ≤ i = ltb-false i j e in inr (step_within j i p (omega arith))

-- The parts of a computed test, and the fixed table by K.
use mathlib.Core.Path.{◌≡◌, ap}
use mathlib.Core.Bool.{Bool, true, false, ◌&&◌}
use Prim.Native.Nat.{ℕ, ◌-◌, ◌≤◌}
use native.Mathlib.Omega.{arith}
use lib.Dec.{T}
use lib.Pow.{pow_mono}
use Rattle.simplex.specs.declared.Group.{Group}
use Rattle.simplex.specs.declared.TheConstants.{MOST_SYMBOLS, MOST_PAIRS}
use Rattle.simplex.specs.Shape.{banks_of, limit_of, group_of}

pub and_left : (a b : Bool) → T (a && b) → T a
and_left true b t = tt
and_left false b t = t

pub and_right : (a b : Bool) → T (a && b) → T b
and_right true b t = t
and_right false b t = absurd t

-- ---- the fixed table

pub limit_most : (K : ℕ) → K ≤ MOST_SYMBOLS → limit_of K ≤ MOST_PAIRS
limit_most K h = let up : limit_of K ≤ limit_of MOST_SYMBOLS = pow_mono {i = K - 1} {j = MOST_SYMBOLS - 1} (omega arith) in omega (arith, up)

pub banks_of_lem : (K : ℕ) {row : Group} → row ≡ group_of K → row.banks ≡ banks_of K
banks_of_lem K e = ap (λ (g : Group). g.banks) e

-- The pigeonhole principle: numbers below M, no two of them equal, are at most M.
use mathlib.Core.Path.{◌≡◌, sym, ◌∙◌}
use mathlib.Core.Logic.{◌≢◌}
use Prim.Native.Nat.{ℕ, zero, suc, ◌≤◌, ◌<◌, zero-le, suc-le-suc}
use native.Mathlib.Nat.{lt-suc_self, le_step, not-suc-le-zero}
use native.Mathlib.Omega.{arith}
use native.Mathlib.Decide.{ℕ_discrete}

-- x, and v in the place of M
abbrev swap : (M v x : ℕ) → Dec (x ≡ M) → ℕ
swap M v x (yes e) = v
swap M v x (no n) = x

-- f gives a number for each j below m. Below M + 1, the last of them leaves room for the others below M: whichever is M takes its value.
pub pigeon : (M m : ℕ) (f : (j : ℕ) → j < m → ℕ) → ((j : ℕ) (h : j < m) → f j h < M)
    → ((i j : ℕ) (h : i < m) (k : j < m) → i < j → f i h ≢ f j k) → m ≤ M
pigeon zero zero f below apart = zero-le
pigeon zero (suc m) f below apart = absurd (not-suc-le-zero (below m (lt-suc_self m)))
pigeon (suc M) zero f below apart = zero-le
pigeon (suc M) (suc m) f below apart = suc-le-suc (pigeon M m g g_below g_apart)
  where
    last : ℕ
    last = f m (lt-suc_self m)

    g : (j : ℕ) → j < m → ℕ
    g j h = swap M last (f j (le_step h)) (ℕ_discrete (f j (le_step h)) M)

    below_at : (x : ℕ) (d : Dec (x ≡ M)) → x < suc M → x ≢ last → swap M last x d < M
    below_at x (yes e) l n = omega (arith, below m (lt-suc_self m))
    below_at x (no e) l n = omega arith

    g_below : (j : ℕ) (h : j < m) → g j h < M
    g_below j h =
        below_at (f j (le_step h)) (ℕ_discrete (f j (le_step h)) M) (below j (le_step h)) (apart j m (le_step h) (lt-suc_self m) h)

    apart_at : (x y : ℕ) (d : Dec (x ≡ M)) (e : Dec (y ≡ M)) → x ≢ y → x ≢ last → y ≢ last → swap M last x d ≢ swap M last y e
    apart_at x y (yes d) (yes e) n nx ny q = n (d ∙ sym e)
    apart_at x y (yes d) (no e) n nx ny q = ny (sym q)
    apart_at x y (no d) (yes e) n nx ny q = nx q
    apart_at x y (no d) (no e) n nx ny q = n q

    g_apart : (i j : ℕ) (h : i < m) (k : j < m) → i < j → g i h ≢ g j k
    g_apart i j h k l =
        apart_at (f i (le_step h)) (f j (le_step k)) (ℕ_discrete (f i (le_step h)) M) (ℕ_discrete (f j (le_step k)) M)
        (apart i j (le_step h) (le_step k) l) (apart i m (le_step h) (lt-suc_self m) h) (apart j m (le_step k) (lt-suc_self m) k)

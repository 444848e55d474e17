-- A test over all falling lists of a total, and what it shows of each of them.
use mathlib.Core.Path.{◌≡◌, subst}
use mathlib.Core.Bool.{Bool, true, ◌&&◌}
use mathlib.Core.List.{List, [], ◌∷◌}
use mathlib.Core.Logic.{⊎_elim}
use Prim.Native.Nat.{ℕ, zero, suc, ◌+◌, ◌-◌, ◌<◌, min}
use native.Mathlib.Nat.{not-suc-le-zero, le_of_suc-le-suc, eq-or-lt_of_le}
use native.Mathlib.Omega.{arith}
use lib.Dec.{T}
use lib.ListN.{length}
use Rattle.std.specs.List.{sum}
use Rattle.simplex.proofs.Contained.{sum_cons}
use Rattle.simplex.proofs.Tables.{and_left, and_right}
use Rattle.table.specs.Table.{Falling}

-- f passes below n
abbrev pub below : ℕ → (ℕ → Bool) → Bool
below zero f = true
below (suc n) f = f n && below n f

pub below_at : (n : ℕ) (f : ℕ → Bool) → T (below n f) → (x : ℕ) → x < n → T (f x)
below_at zero f t x h = absurd (not-suc-le-zero h)
below_at (suc n) f t x h =
    ⊎_elim
    (λ (e : x ≡ n). rw e (and_left (f n) (below n f) t))
    (λ (l : x < n). below_at n f (and_right (f n) (below n f) t) x l)
    (eq-or-lt_of_le (le_of_suc-le-suc h))

-- f passes at every falling list of so many counts that have this total, the first at most `most`
abbrev pub everywhere : (List ℕ → Bool) → (size most sum : ℕ) → Bool
everywhere f zero most zero = f []
everywhere f zero most (suc sum) = true
everywhere f (suc size) most sum = below (suc (min most sum)) (λ x. everywhere (λ c. f (x ∷ c)) size x (sum - x))

pub everywhere_at : (f : List ℕ → Bool) (most : ℕ) (c : List ℕ) → Falling most c → T (everywhere f (length c) most (sum c)) → T (f c)
everywhere_at f most [] h t = t
everywhere_at f most (x ∷ c) h t =
    let rest : x + sum c - x ≡ sum c = omega arith in
    let all : T (everywhere f (suc (length c)) most (x + sum c)) = rw sum_cons at t in
    everywhere_at (λ (r : List ℕ). f (x ∷ r)) x c h.1
    (subst (λ (s : ℕ). T (everywhere (λ (r : List ℕ). f (x ∷ r)) (length c) x s)) rest
    (below_at (suc (min most (x + sum c))) (λ (y : ℕ). everywhere (λ (r : List ℕ). f (y ∷ r)) (length c) y (x + sum c - y)) all x (omega (arith, h.0))))

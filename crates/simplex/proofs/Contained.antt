-- What a list of a first element and others contains, and what it sums to.
use mathlib.Core.Path.{◌≡◌, refl, sym}
use mathlib.Core.Logic.{◌⊎◌, inl, inr, ⊎_elim}
use mathlib.Core.List.{List, [], ◌∷◌}
use Prim.Native.Nat.{ℕ, zero, suc, ◌+◌, ◌<◌, suc-le-suc}
use native.Mathlib.Nat.{le_of_suc-le-suc, not-suc-le-zero, zero-lt-suc}
use lib.ListN.{length, get_or, take}
use Rattle.std.specs.List.{Contains, sum}
use Rattle.std.proofs.lemmas.List.Sums.{sum_by-cons}
use Rattle.simplex.specs.Limit.{start}

module _ {X : Type 0} where
  pub contains_none : (x : X) → Contains [] x → ⊥
  contains_none x c = not-suc-le-zero c.1

  -- the first, or one of the others
  pub contains_cases : (first : X) (others : List X) (x : X) → Contains (first ∷ others) x → (x ≡ first) ⊎ Contains others x
  contains_cases first others x c = go c.0 c.1 c.2
    where
      go : (k : ℕ) → k < suc (length others) → get_or (first ∷ others) k x ≡ x → (x ≡ first) ⊎ Contains others x
      go zero l e = inl (sym e)
      go (suc k) l e = inr (k, le_of_suc-le-suc l, e)

  pub contains_first : (first : X) (others : List X) → Contains (first ∷ others) first
  contains_first first others = (0, zero-lt-suc (length others), refl)

  pub contains_other : (first : X) (others : List X) (x : X) → Contains others x → Contains (first ∷ others) x
  contains_other first others x c = (suc c.0, suc-le-suc c.1, c.2)

  pub contains_one : (only x : X) → Contains (only ∷ []) x → x ≡ only
  contains_one only x c = ⊎_elim (λ e. e) (λ n. absurd (contains_none x n)) (contains_cases only [] x c)

  pub contains_two : (first second x : X) → Contains (first ∷ second ∷ []) x → (x ≡ first) ⊎ (x ≡ second)
  contains_two first second x c = ⊎_elim inl (λ n. inr (contains_one second x n)) (contains_cases first (second ∷ []) x c)

-- ---- sums

pub sum_cons : (first : ℕ) (others : List ℕ) → sum (first ∷ others) ≡ first + sum others
sum_cons first others = sum_by-cons (λ x. x) first others

-- the reads of a symbol stand behind those of the symbols before it
pub start_cons : (c : ℕ) (counts : List ℕ) (i : ℕ) → start (c ∷ counts) (suc i) ≡ c + start counts i
start_cons c counts i = sum_cons c (take i counts)

-- What a slice holds once parts of equal size are put into it, one after the other.
use mathlib.Core.Path.{◌≡◌, refl, ◌∙◌}
use mathlib.Core.Logic.{inl, ⊎_elim}
use mathlib.Core.List.{List}
use Prim.Native.Nat.{ℕ, zero, suc, ◌+◌, ◌*◌, ◌≤◌, ◌<◌}
use native.Mathlib.Nat.{eq-or-lt_of_le, le_of_suc-le-suc, suc-mul}
use native.Mathlib.Omega.{arith}
use native.Mathlib.Numerals.{add-one}
use lib.ListN.{length}
use Rattle.cells.specs.Cell.{cell, put, put_each}
use Rattle.cells.proofs.Cells.{length_put, cell_put, cell_put_out}
use Rattle.cells.proofs.Steps.{step_within}

module _ (size : ℕ) (f : ℕ → List ℕ) where
  pub length_each : (n : ℕ) (s : List ℕ) → length (put_each size f n s) ≡ length s
  unfolding put_each
  length_each zero s = refl
  length_each (suc n) s = rw length_put (length_each n s)

  pub each_none : (s : List ℕ) → s ≡ put_each size f 0 s
  unfolding put_each
  each_none s = refl

  -- one turn of a loop that puts a part
  pub each_more : (n : ℕ) (s now : List ℕ) (at : ℕ) (part : List ℕ) → now ≡ put_each size f n s → at ≡ n * size → part ≡ f n
      → put now at part ≡ put_each size f (n + 1) s
  unfolding put_each
  each_more n s now at part e place same = rw (e, place, same, add-one n)

  pub cell_each : (n : ℕ) (s : List ℕ) → ((j : ℕ) → j < n → length (f j) ≡ size) → n * size ≤ length s
      → (j : ℕ) → j < n → cell (put_each size f n s) (j * size) size ≡ f j
  unfolding put_each
  cell_each zero s sized fits j l = absurd (omega arith)
  cell_each (suc n) s sized fits j l =
      let e : suc n * size ≡ n * size + size = suc-mul n size in
      let len : length (put_each size f n s) ≡ length s = length_each n s in
      ⊎_elim
      (λ (same : j ≡ n). rw same (cell_put (put_each size f n s) (n * size) (f n) size (sized n (omega arith)) (omega arith)))
      (λ (less : j < n).
      let before : j * size + size ≤ n * size = step_within j n size less in
      cell_put_out (put_each size f n s) (n * size) (f n) (j * size) size (inl before) (omega arith)
      ∙ cell_each n s (λ i b. sized i (omega arith)) (omega arith) j less)
      (eq-or-lt_of_le (le_of_suc-le-suc l))

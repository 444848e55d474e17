-- Laws of `put` and `cell`: a cell that was put is read back, and every other byte is as it was.
use mathlib.Core.Path.{◌≡◌, refl, sym, ap, ◌∙◌}
use mathlib.Core.Logic.{◌⊎◌, ⊎_elim}
use mathlib.Core.List.{List, [], ◌∷◌}
use Prim.Native.Nat.{ℕ, zero, suc, ◌+◌, ◌≤◌, ◌<◌}
use native.Mathlib.Omega.{arith}
use Rattle.std.specs.Simd.Lanes.{put_chunk}
use Rattle.std.proofs.lemmas.Simd.{length-put_chunk, get_or-put_chunk_below, get_or-put_chunk_above, get_or-put_chunk_at}
use lib.ListN.{length, get_or, take, drop, length-drop}
use lib.Seq.{get_or-take, get_or-drop, ext_get_or, length-take-le, take-take, drop-drop}
use Rattle.cells.specs.Cell.{cell, put, Outside}

-- what std says of a part that is put, of this one
chunk : (s : List ℕ) (at : ℕ) (c : List ℕ) → put s at c ≡ put_chunk at s c
unfolding put
chunk [] at c = refl
chunk (x ∷ s) (suc at) c = ap (λ (r : List ℕ). x ∷ r) (chunk s at c)
chunk (x ∷ s) zero [] = refl
chunk (x ∷ s) zero (y ∷ c) = ap (λ (r : List ℕ). y ∷ r) (chunk s zero c)

pub length_put : (s : List ℕ) (at : ℕ) (c : List ℕ) → length (put s at c) ≡ length s
length_put s at c = ap length (chunk s at c) ∙ length-put_chunk at s c

pub put_none : (s : List ℕ) (at : ℕ) → s ≡ put s at []
unfolding put
put_none [] at = refl
put_none (x ∷ s) zero = refl
put_none (x ∷ s) (suc at) = ap (λ (r : List ℕ). x ∷ r) (put_none s at)

below : (s : List ℕ) (at : ℕ) (c : List ℕ) (j : ℕ) → j < at → get_or (put s at c) j 0 ≡ get_or s j 0
below s at c j h = rw (chunk s at c) (get_or-put_chunk_below at s c j 0 h)

past : (s : List ℕ) (at : ℕ) (c : List ℕ) (j : ℕ) → at + length c ≤ j → get_or (put s at c) j 0 ≡ get_or s j 0
past s at c j h = rw (chunk s at c) (get_or-put_chunk_above at s c j 0 h)

-- a byte outside the part that was put is as it was
pub get_or_put_out : (s : List ℕ) (at : ℕ) (c : List ℕ) (j : ℕ) → Outside (length c) at j → get_or (put s at c) j 0 ≡ get_or s j 0
get_or_put_out s at c j out = ⊎_elim (below s at c j) (past s at c j) out

-- two parts that lie apart may be put in either order
pub put_swap : (s : List ℕ) (f : ℕ) (d : List ℕ) (at : ℕ) (c : List ℕ) → f + length d ≤ at → put (put s at c) f d ≡ put (put s f d) at c
unfolding put
put_swap [] f d at c h = refl
put_swap (x ∷ s) (suc f) d zero c h = absurd (omega arith)
put_swap (x ∷ s) (suc f) d (suc at) c h = ap (λ (r : List ℕ). x ∷ r) (put_swap s f d at c (omega arith))
put_swap (x ∷ s) zero [] at c h = sym (put_none (put (x ∷ s) at c) zero)
put_swap (x ∷ s) zero (y ∷ d) zero c h = absurd (omega arith)
put_swap (x ∷ s) zero (y ∷ d) (suc at) c h = ap (λ (r : List ℕ). y ∷ r) (put_swap s zero d at c (omega arith))

pub length_cell : (s : List ℕ) (at p : ℕ) → at + p ≤ length s → length (cell s at p) ≡ p
length_cell s at p h = length-take-le p (drop at s) (rw length-drop (omega arith))

pub get_or_cell : (s : List ℕ) (at p j : ℕ) → j < p → get_or (cell s at p) j 0 ≡ get_or s (at + j) 0
get_or_cell s at p j h = get_or-take p (drop at s) j 0 h ∙ get_or-drop at s j 0

-- a cell of the first n bytes, and of a cell
cell_take : (s : List ℕ) (n at p : ℕ) → at + p ≤ n → cell (take n s) at p ≡ cell s at p
cell_take s n zero p h = take-take p n s (omega arith)
cell_take s zero (suc at) p h = absurd (omega arith)
cell_take [] (suc n) (suc at) p h = refl
cell_take (x ∷ s) (suc n) (suc at) p h = cell_take s n at p (omega arith)

pub cell_cell : (s : List ℕ) (from n at p : ℕ) → at + p ≤ n → cell (cell s from n) at p ≡ cell s (from + at) p
cell_cell s from n at p h = cell_take (drop from s) n at p h ∙ ap (take p) (drop-drop at from s)

pub cell_put : (s : List ℕ) (at : ℕ) (c : List ℕ) (p : ℕ) → length c ≡ p → at + p ≤ length s → cell (put s at c) at p ≡ c
cell_put s at c p e h =
    let l : length (cell (put s at c) at p) ≡ p = length_cell (put s at c) at p (rw length_put h) in
    ext_get_or 0 (cell (put s at c) at p) c (l ∙ sym e)
    (λ j b. get_or_cell (put s at c) at p j (omega arith) ∙ rw (chunk s at c) (get_or-put_chunk_at at s c j 0 (omega arith) (omega arith)))

-- a cell apart from the one that was put is as it was
pub cell_put_out : (s : List ℕ) (at : ℕ) (c : List ℕ) (f p : ℕ) → (f + p ≤ at) ⊎ (at + length c ≤ f) → f + p ≤ length s
    → cell (put s at c) f p ≡ cell s f p
cell_put_out s at c f p out h =
    let l : length (cell (put s at c) f p) ≡ p = length_cell (put s at c) f p (rw length_put h) in
    ext_get_or 0 (cell (put s at c) f p) (cell s f p) (l ∙ sym (length_cell s f p h))
    (λ j b. get_or_cell (put s at c) f p j (omega arith)
    ∙ ⊎_elim (λ o. below s at c (f + j) (omega arith)) (λ o. past s at c (f + j) (omega arith)) out
    ∙ sym (get_or_cell s f p j (omega arith)))

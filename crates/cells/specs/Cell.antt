-- Cells. A store is a list of bytes; a cell is what lies at a place of it.
use Rattle.std.specs.Prelude.{◌≡◌, length, slice_index, ◌⊎◌, List, [], ◌∷◌, ℕ, zero, suc, ◌+◌, ◌*◌, ◌≤◌, ◌<◌, take, drop}
use Rattle.std.specs.Borrow.{Bor}

-- The cell at index `at` of the store s: p bytes, or fewer where the store ends.
abbrev pub cell : List ℕ → ℕ → ℕ → List ℕ
cell s at p = take p (drop at s)

-- The store s with c in the place of its bytes from index `at` on. It keeps its length: what would run past its end is left out.
unfoldable pub put : List ℕ → ℕ → List ℕ → List ℕ
put [] at c = []
put (x ∷ s) (suc at) c = x ∷ put s at c
put (x ∷ s) zero [] = x ∷ s
put (x ∷ s) zero (y ∷ c) = y ∷ put s zero c

-- The store s with the parts f 0, f 1, .., f (n - 1), of `size` bytes each, one after the other in the place of its first bytes.
unfoldable pub put_each : (size : ℕ) → (ℕ → List ℕ) → ℕ → List ℕ → List ℕ
put_each size f zero s = s
put_each size f (suc n) s = put (put_each size f n s) (n * size) (f n)

-- c is what becomes of the cell of p bytes at index `at` of the store s where its bytes are set from the first on, each to what `gives`
-- has for the store as it then is and for the byte's index.
abbrev pub SetsTo : (gives : Bor (List ℕ) → ℕ → ℕ → Type 0) → (s : List ℕ) (at p : ℕ) → List ℕ → Type 0
SetsTo gives s at p c = (length c ≡ p)
    × ((t : Bor (List ℕ)) (i x : ℕ) → i < p → t.now ≡ put s at (take i c) → gives t i x → x ≡ slice_index c i)

-- Byte i lies outside the cell of p bytes at index `at`.
abbrev pub Outside : (p at i : ℕ) → Type 0
Outside p at i = (i < at) ⊎ (at + p ≤ i)

-- The cells of p bytes at two indices have no byte in common.
abbrev pub Apart : (p at other : ℕ) → Type 0
Apart p at other = (at + p ≤ other) ⊎ (other + p ≤ at)

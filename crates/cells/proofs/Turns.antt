-- The turns of a loop that sets a cell to t, one byte a turn: after i of them, the first i bytes of t are put.
use mathlib.Core.Path.{◌≡◌, refl, sym, ap, ap₂, ◌∙◌}
use mathlib.Core.Logic.{◌⊎◌, inl, inr, ⊎_elim}
use mathlib.Core.List.{List, [], ◌∷◌}
use Prim.Native.Nat.{ℕ, zero, suc, ◌+◌, ◌≤◌, ◌<◌}
use native.Mathlib.Nat.{not-suc-le-zero, le_of_suc-le-suc, suc-add, zero-add}
use native.Mathlib.Numerals.{add-one}
use native.Mathlib.Omega.{arith}
use lib.Bits.{bit_xor}
use lib.ListN.{length, get_or, set, take}
use lib.Seq.{take_all, length-take-le}
use Rattle.std.proofs.lemmas.List.Edits.{fill_by_more}
use Rattle.cells.specs.Cell.{cell, put}
use Rattle.cells.specs.Xor.{xor_bytes}
use Rattle.cells.proofs.Xors.{length_xor, get_or_xor}
use Rattle.cells.proofs.Cells.{put_none, get_or_put_out, length_cell, get_or_cell}

put_suc : (s : List ℕ) (at : ℕ) (t : List ℕ) (i : ℕ) → i < length t → set (put s at (take i t)) (at + i) (get_or t i 0) ≡ put s at (take (suc i) t)
unfolding put
put_suc [] at t i h = refl
put_suc (x ∷ s) (suc at) t i h = rw (suc-add at i) (ap (λ (r : List ℕ). x ∷ r) (put_suc s at t i h))
put_suc (x ∷ s) zero [] i h = absurd (not-suc-le-zero h)
put_suc (x ∷ s) zero (y ∷ t) zero h = ap (λ (r : List ℕ). y ∷ r) (put_none s zero)
put_suc (x ∷ s) zero (y ∷ t) (suc i) h =
    rw (zero-add (suc i)) (ap (λ (r : List ℕ). y ∷ r) (rw (zero-add i) at (put_suc s zero t i (le_of_suc-le-suc h))))

-- one turn: the byte that it stores is byte i of t
pub put_more : (s : List ℕ) (at : ℕ) (t : List ℕ) (i : ℕ) (l : List ℕ) (v : ℕ) → i < length t → l ≡ put s at (take i t) → v ≡ get_or t i 0
    → set l (at + i) v ≡ put s at (take (i + 1) t)
put_more s at t i l v h e w =
    ap₂ (λ (r : List ℕ) (x : ℕ). set r (at + i) x) e w ∙ put_suc s at t i h ∙ ap (λ (n : ℕ). put s at (take n t)) (sym (add-one i))

-- the end
pub put_all : (s : List ℕ) (at : ℕ) (t : List ℕ) (i : ℕ) (l : List ℕ) → length t ≤ i → l ≡ put s at (take i t) → l ≡ put s at t
put_all s at t i l h e = e ∙ ap (put s at) (take_all i t h)

-- where t is the XOR of a cell of p bytes and of c: how long it is, and its byte i
pub length_xor_cell : (s : List ℕ) (a p : ℕ) (c : List ℕ) → a + p ≤ length s → length c ≡ p → length (xor_bytes (cell s a p) c) ≡ p
length_xor_cell s a p c h e = length_xor (cell s a p) c (length_cell s a p h ∙ sym e) ∙ length_cell s a p h

pub byte_xor_cell : (s : List ℕ) (a p : ℕ) (c : List ℕ) (i x y : ℕ) → i < p → a + p ≤ length s → length c ≡ p
    → x ≡ get_or s (a + i) 0 → y ≡ get_or c i 0 → bit_xor x y ≡ get_or (xor_bytes (cell s a p) c) i 0
byte_xor_cell s a p c i x y l h e u v =
    ap₂ bit_xor (u ∙ sym (get_or_cell s a p i l)) v ∙ sym (get_or_xor (cell s a p) c i (length_cell s a p h ∙ sym e))

-- a byte of the source cell is not set before it is read: it lies before the cell that is set, or at or past the byte of this turn
pub not_yet : (s : List ℕ) (at : ℕ) (t : List ℕ) (i : ℕ) (l : List ℕ) (from n : ℕ) → i < n → n ≤ length t → l ≡ put s at (take i t)
    → (from + n ≤ at) ⊎ (at ≤ from) → get_or l (from + i) 0 ≡ get_or s (from + i) 0
not_yet s at t i l from n h k e out =
    let m : length (take i t) ≡ i = length-take-le i t (omega arith) in
    ap (λ (r : List ℕ). get_or r (from + i) 0) e
    ∙ get_or_put_out s at (take i t) (from + i) (⊎_elim (λ o. inl (omega arith)) (λ o. inr (omega arith)) out)

-- one turn of a loop that fills a list from the front with f 0, f 1, ..: one entry more
pub set_more : (xs : List ℕ) (i x : ℕ) (f : ℕ → ℕ) → i < length xs → x ≡ f i → ((j : ℕ) → j < i → get_or xs j 0 ≡ f j)
    → (j : ℕ) → j < i + 1 → get_or (set xs i x) j 0 ≡ f j
set_more xs i x f h e g = rw e (fill_by_more f xs i 0 h g)

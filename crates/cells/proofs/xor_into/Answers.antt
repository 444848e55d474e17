-- `cells::xor_into` meets its contract: each byte of either cell is read before it is set.
use Rattle.std.proofs.Common.{rules, ◌≡◌, ◌+◌, ◌≤◌, length, get_or, refl, ◌∙◌, arith, inl, inr}
use native.Mathlib.Nat.{le_refl}
use lib.Bits.{bit_xor}
use Rattle.cells.specs.Cell.{cell}
use Rattle.cells.specs.Xor.{xor_bytes}
use Rattle.cells.proofs.Turns.{length_xor_cell, byte_xor_cell, not_yet}
use Rattle.cells.proofs.xor_into.Goals as goal

pub returns : goal.returns
returns c =
    let a = c.args in
    let s = a.s.now in
    let src = a.src.now in
    let n = length src in
    let h : a.at + n ≤ length s = omega arith in
    let k : a.from + n ≤ length s = omega arith in
    let change = xor_bytes (cell s a.from n) src in
    let changed = length_xor_cell s a.from n src k refl in
    let long = length_xor_cell s a.at n change h changed in
    c.set_cell.ensures (xor_bytes (cell s a.at n) change) (
      long,
      λ t i x l e p.
          let is : x ≡ bit_xor (get_or t.now (a.at + i) 0) (bit_xor (get_or t.now (a.from + i) 0) (get_or src i 0)) = search rules in
          is ∙ byte_xor_cell s a.at n change i _ _ l h changed (not_yet s a.at _ i t.now a.at n l (omega arith) e (inr (le_refl _)))
          (byte_xor_cell s a.from n src i _ _ l k refl (not_yet s a.at _ i t.now a.from n l (omega arith) e (inl c.requires.1)) refl),
    )

-- `cells::xor_from` meets its contract: each byte of the source is read before it is set.
use Rattle.std.proofs.Common.{rules, ◌≡◌, ◌+◌, length, get_or, refl, ◌∙◌, arith}
use lib.Bits.{bit_xor}
use Rattle.cells.specs.Cell.{cell}
use Rattle.cells.specs.Xor.{xor_bytes}
use Rattle.cells.proofs.Turns.{length_xor_cell, byte_xor_cell, not_yet}
use Rattle.cells.proofs.xor_from.Goals as goal

pub returns : goal.returns
returns c =
    let a = c.args in
    let s = a.s.now in
    let src = a.src.now in
    let n = length src in
    let h = c.requires.within.1 in
    let long = length_xor_cell s a.from n src h refl in
    c.set_cell.ensures (xor_bytes (cell s a.from n) src) (
      long,
      λ t i x l e p.
          let is : x ≡ bit_xor (get_or t.now (a.from + i) 0) (get_or src i 0) = search rules in
          is ∙ byte_xor_cell s a.from n src i _ _ l h refl (not_yet s a.at _ i t.now a.from n l (omega arith) e c.requires.apart) refl,
    )

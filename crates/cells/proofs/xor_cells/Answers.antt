-- `cells::xor_cells` meets its contract: byte i of the XOR is the XOR of the two cells' bytes i.
use Rattle.std.proofs.Common.{rules, ◌≡◌, get_or, ◌∙◌, sym}
use lib.Bits.{bit_xor}
use Rattle.cells.specs.Xor.{xor_bytes}
use Rattle.cells.proofs.Xors.{length_xor, get_or_xor}
use Rattle.cells.proofs.xor_cells.Goals as goal

pub returns : goal.returns
returns c =
    let a = c.args.a.now in
    let b = c.args.b.now in
    let same = sym c.requires.1 in
    c.set_cell.ensures (xor_bytes a b) (
      length_xor a b same,
      λ t i x l e p.
          let is : x ≡ bit_xor (get_or a i 0) (get_or b i 0) = search rules in
          is ∙ sym (get_or_xor a b i same),
    )

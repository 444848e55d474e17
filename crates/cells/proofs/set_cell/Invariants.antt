-- Whatever the cell becomes, its first i bytes are put.
use Rattle.std.proofs.Common.{◌≡◌, ℕ, List, take}
use Rattle.cells.specs.Cell.{put, SetsTo}
use Rattle.cells.proofs.set_cell.Given as goal

abbrev pub invariant-loop-i : goal.invariant-loop-i
invariant-loop-i g l =
    (c : List ℕ) → SetsTo (goal.F-post g l.byte) l.fn.s l.at l.p c → l.s ≡ put l.fn.s l.at (take l.i c)

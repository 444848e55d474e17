-- The digits of the first i bytes are put.
use Rattle.std.proofs.Common.{◌≡◌, ◌*◌, take}
use Rattle.cells.specs.Cell.{put}
use Rattle.lines.specs.Hex.{digits_of}
use Rattle.lines.proofs.hex.encode.Given as goal

abbrev pub invariant-loop-i : goal.invariant-loop-i
invariant-loop-i l = l.text ≡ put l.initial.text 0 (take (2 * l.i) (digits_of l.bytes))

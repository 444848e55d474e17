-- The first i bytes that the digits stand for are put.
use Rattle.std.proofs.Common.{◌≡◌, take}
use Rattle.cells.specs.Cell.{put}
use Rattle.lines.specs.Hex.{bytes_of}
use Rattle.lines.proofs.hex.decode.Given as goal

abbrev pub invariant-loop-i : goal.invariant-loop-i
invariant-loop-i l = l.bytes ≡ put l.initial.bytes 0 (take l.i (bytes_of l.digits))

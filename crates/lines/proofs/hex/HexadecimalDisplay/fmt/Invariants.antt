-- The digits of the first bytes are written.
use Rattle.std.proofs.Common.{take}
use Rattle.std.specs.Fmt.{HasWritten, IsPlainFormatter}
use Rattle.lines.specs.Hex.{digits_of}
use Rattle.lines.proofs.hex.HexadecimalDisplay.fmt.Given as goal

abbrev pub invariant-loop-b : goal.invariant-loop-b
invariant-loop-b g l =
    IsPlainFormatter l.initial.f → HasWritten g.W.Write.write_str_gives l.initial.f (digits_of (take l.b-index l.self.0.now)) l.f

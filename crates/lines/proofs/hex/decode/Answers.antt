-- Each turn puts the byte of its pair.
use Rattle.std.proofs.Common.{arith, length, ◌/◌}
use Rattle.cells.proofs.Turns.{put_all}
use Rattle.lines.specs.Hex.{bytes_of}
use Rattle.lines.proofs.Digits.{length_bytes, pair_byte, put_next}
use Rattle.lines.proofs.hex.decode.Goals as goal

pub loop-i-preserved : goal.loop-i-preserved
loop-i-preserved c =
    let d = c.args.digits.now in
    put_next _ (bytes_of d) _ _ _ (omega (arith, length_bytes d)) c.loop-i.invariant
    (rw (c.value_of.ensures.0, c.value_of-in-loop-i.ensures.0, c.as_chunks.ensures.front) (pair_byte d (length d / 2) c.loop-i.i (omega arith) (omega arith)))

pub returns : goal.returns
returns c = let d = c.args.digits.now in put_all _ _ (bytes_of d) c.loop-i.i _ (omega (arith, length_bytes d)) c.loop-i.invariant

-- Each turn puts the two digits of its byte.
use Rattle.std.proofs.Common.{arith, ◌*◌, ◌∙◌}
use Rattle.cells.proofs.Turns.{put_all}
use Rattle.lines.specs.Hex.{digits_of}
use Rattle.lines.proofs.Digits.{length_digits, digit_at, put_two}
use Rattle.lines.proofs.hex.encode.Goals as goal

pub loop-i-preserved : goal.loop-i-preserved
loop-i-preserved c =
    let b = c.args.bytes.now in
    let t = digit_at b c.loop-i.i (omega arith) in
    put_two _ (digits_of b) _ _ _ _ (omega (arith, length_digits b)) c.loop-i.invariant (c.digit_of.ensures ∙ t.0) (c.digit_of-in-loop-i.ensures ∙ t.1)

pub returns : goal.returns
returns c = let b = c.args.bytes.now in put_all _ _ (digits_of b) (2 * c.loop-i.i) _ (omega (arith, length_digits b)) c.loop-i.invariant

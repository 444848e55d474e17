-- Each turn writes the two digits of its byte.
use Rattle.std.proofs.Common.{rules, arith, sym}
use Rattle.std.proofs.Output.{has_written_append, has_written_of_eq}
use Rattle.lines.specs.Hex.{digits_of}
use Rattle.lines.proofs.Digits.{next_digits}
use Rattle.lines.proofs.hex.HexadecimalDisplay.fmt.Goals as goal

pub loop-b-init : goal.loop-b-init
unfolding digits_of
loop-b-init g c = search rules

pub loop-b-preserved : goal.loop-b-preserved
loop-b-preserved g c = λ p.
    let bytes = c.args.self.now.0.now in
    has_written_of_eq _ _ _ _ _ (sym (next_digits bytes c.loop-b.b-index (omega arith)))
    (has_written_append _ _ _ _ _ _ (c.loop-b.invariant p) (search rules))

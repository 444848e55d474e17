-- `frames::print_both` meets its contract: the second part stands behind the digits of the first.
use Rattle.std.proofs.Common.{◌-◌, ◌*◌, length, arith}
use Rattle.frames.proofs.Printing.{behind}
use Rattle.frames.proofs.print_both.Goals as goal

pub returns : goal.returns
returns c =
    let text = c.encode.new.text in
    let front = c.args.front.now in
    behind c.args.out.now front c.args.rest.now text _ (length text - 2 * length front) _ c.encode.ensures (omega (arith, c.encode.auto.text, c.requires)) c.print_line.ensures

-- The line that is found stands at the front of what is left, and the reader is moved on to what is behind it.
use Rattle.std.proofs.Common.{length-drop, arith}
use Rattle.lines.proofs.Lines.{found, line_part, part_behind}
use Rattle.lines.proofs.reader.Reader.next_line.Goals as goal

pub slice_bounds-result-end : goal.slice_bounds-result-end
slice_bounds-result-end c = (found _ _ _ c.in_ok-end.ensures).within

pub returns-clause-line : goal.returns-clause-line
returns-clause-line c =
    let text = c.args.self.text.now in
    let at = c.args.self.at in
    let f = found _ _ _ c.in_ok-end.ensures in
    rw f.same (record { some = omega (arith, f.left, length-drop at text); line = line_part text at; behind = part_behind text at })

-- Some lines are done and their answers are written, and those of what the reader has left are not.
use Rattle.std.proofs.Common.{◌≡◌, length}
use Rattle.frames.specs.declared.TheConstants.{MOST_OUTPUT}
use Rattle.lines.specs.Reader.{left_of}
use Rattle.steps.specs.Session.{text_read}
use Rattle.console.proofs.Turns.{Turn}
use Rattle.console.proofs.answer.Given as goal

abbrev pub invariant-loop-next : goal.invariant-loop-next
invariant-loop-next g l =
    let contents = g.W.Write.contents in
    record {
      turn : Turn l.fn.session l.fn.store (text_read l.text) l.session l.store (left_of l.reader) (contents l.fn.writer) (contents l.writer);
      room : length l.out ≡ MOST_OUTPUT;
    }

abbrev pub decreases-loop-next : goal.decreases-loop-next
decreases-loop-next g l = length (left_of l.reader)

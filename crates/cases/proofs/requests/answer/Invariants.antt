-- Each line leaves less of the text.
use Rattle.std.proofs.Common.{length}
use Rattle.lines.specs.Reader.{left_of}
use Rattle.cases.proofs.requests.answer.Given as goal

abbrev pub decreases-loop-line : goal.decreases-loop-line
decreases-loop-line g l = length (left_of l.reader)

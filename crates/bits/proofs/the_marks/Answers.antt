-- `bits::the_marks` carries the laws of marks.
use Rattle.bits.proofs.Marks.{none_marked, marked_none, none_more}
use Rattle.bits.proofs.the_marks.Goals as goal

pub returns : goal.returns
returns c = record {
  none = λ set n. (none_marked set n, marked_none set n);
  count = λ set n w l e. none_more _ n w l (none_marked set n e);
}

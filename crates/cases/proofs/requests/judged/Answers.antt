-- What is read of a longer text is as long as that.
use Rattle.std.proofs.Common.{arith, length-take}
use Rattle.cases.specs.declared.requests.TheConstants.{MOST_TEXT}
use Rattle.cases.proofs.requests.judged.Goals as goal

pub slice_bounds-read-end : goal.slice_bounds-read-end
slice_bounds-read-end c = omega (arith, length-take MOST_TEXT c.args.text.now)

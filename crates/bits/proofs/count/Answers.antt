-- `bits::count` meets its contract: the ones of a word are the marks below 64.
use Rattle.bits.proofs.Marks.{ones_are}
use Rattle.bits.proofs.count.Goals as goal

pub returns : goal.returns
returns c = ones_are c.args.set 64 c.ranges.set.fits

-- `bits::the_sets` carries the laws of sets by a test.
use Rattle.bits.proofs.Sets.{marked_set, marked_past, only_set}
use Rattle.bits.proofs.the_sets.Goals as goal

pub returns : goal.returns
returns c = record { inside = marked_set; past = marked_past; only = only_set }

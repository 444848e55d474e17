use Rattle.refusals.proofs.Numbers.{back, forth}
use Rattle.refusals.proofs.the_refusals.Goals as goal

pub returns : goal.returns
returns c = record { back = back; forth = forth }

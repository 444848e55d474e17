-- The room is for the largest K.
use Rattle.std.proofs.Common.{arith, ◌^◌, ◌≤◌}
use lib.Pow.{pow_mono}
use Rattle.simplex.specs.declared.TheConstants.{MOST_SYMBOLS}
use Rattle.layout.specs.Shape.{store_size}
use Rattle.cases.proofs.cycles.geometry_of.Goals as goal

pub returns : goal.returns
unfolding store_size
returns c = let few : 2 ^ c.args.k ≤ 2 ^ MOST_SYMBOLS = pow_mono c.requires.most in omega arith

-- The next symbol's banks begin at `at`, and those of the symbols of the turns so far are filled.
use Rattle.std.proofs.Common.{◌≡◌, ◌-◌, ◌^◌}
use Rattle.simplex.specs.Banks.{spaced}
use Rattle.simplex.specs.Filling.{packets_of, filled}
use Rattle.simplex.proofs.fill_group.Given as goal

abbrev pub invariant-loop-symbol : goal.invariant-loop-symbol
invariant-loop-symbol l =
    (l.at ≡ spaced l.banks.at l.banks.step (2 ^ l.symbol))
    × (l.store ≡ filled l.p (packets_of l.p l.k l.packets) (spaced l.banks.at l.banks.step) (2 ^ l.symbol - 1) l.fn.store)

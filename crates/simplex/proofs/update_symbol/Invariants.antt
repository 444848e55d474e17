-- What the turns so far have done.
use Rattle.std.proofs.Common.{◌-◌, length}
use Rattle.simplex.specs.Banks.{spaced}
use Rattle.simplex.proofs.Updating.{Turned}
use Rattle.simplex.proofs.update_symbol.Given as goal

abbrev pub invariant-loop-bank : goal.invariant-loop-bank
invariant-loop-bank l = Turned (length l.packet) l.symbol l.packet (spaced l.banks.at l.banks.step) l.fn.store (l.bank - 1) l.store

-- The next bank lies at `at`, and the banks of the turns so far are filled.
use Rattle.std.proofs.Common.{◌≡◌, ℕ, List, ◌-◌, ◌*◌, ◌^◌, ◌<◌, length}
use Rattle.cells.specs.Cell.{cell}
use Rattle.simplex.specs.Banks.{spaced}
use Rattle.simplex.specs.Filling.{packets_of, filled}
use Rattle.simplex.proofs.fill_symbol.Given as goal

abbrev pub invariant-loop-bank : goal.invariant-loop-bank
invariant-loop-bank l =
    (l.at ≡ spaced l.banks.at l.banks.step l.bank)
    × ((K : ℕ) (packets begun : List ℕ) → l.symbol < K → l.packet ≡ cell packets (l.symbol * length l.packet) (length l.packet)
    → l.fn.store ≡ filled (length l.packet) (packets_of (length l.packet) K packets) (spaced l.banks.at l.banks.step) (2 ^ l.symbol - 1) begun
    → l.store ≡ filled (length l.packet) (packets_of (length l.packet) K packets) (spaced l.banks.at l.banks.step) (l.bank - 1) begun)

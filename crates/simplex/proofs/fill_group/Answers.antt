-- There is room for the banks of each symbol, since there is for those of the last.
use Rattle.std.proofs.Common.{◌≡◌, ℕ, suc, ◌+◌, ◌-◌, ◌*◌, ◌^◌, ◌≤◌, ◌<◌, List, length, arith, refl}
use native.Mathlib.Nat.{mul-le-mul_right, suc-mul}
use lib.Pow.{pow_mono}
use Rattle.cells.specs.Cell.{cell}
use Rattle.cells.proofs.Cells.{length_cell}
use Rattle.simplex.specs.Shape.{banks_of}
use Rattle.simplex.specs.Banks.{spaced, each_bank}
use Rattle.simplex.specs.Filling.{packets_of, filled}
use Rattle.simplex.proofs.fill_group.Goals as goal

room : (K p at step size i : ℕ) → i < K → spaced at step (banks_of K) + p ≤ size → spaced at step (2 ^ suc i - 1) + p ≤ size
room K p at step size i below last =
    let up : 2 ^ suc i ≤ 2 ^ K = pow_mono below in
    let fewer : (2 ^ suc i - 1 - 1) * step ≤ (banks_of K - 1) * step = mul-le-mul_right step (omega (arith, up)) in
    omega (arith, fewer)

-- a group has two banks at least
a_step : (K p at step size : ℕ) → 2 ≤ K → spaced at step (banks_of K) + p ≤ size → step ≤ size
a_step K p at step size least last =
    let four : 2 ^ 2 ≤ 2 ^ K = pow_mono least in
    let some : suc 0 * step ≤ (banks_of K - 1) * step = mul-le-mul_right step (omega (arith, four)) in
    omega (arith, some, suc-mul 0 step)

-- the packet of a symbol has p bytes
size_of : (K p i : ℕ) (packets packet : List ℕ) → i < K → length packets ≡ K * p → packet ≡ cell packets (i * p) p → length packet ≡ p
size_of K p i packets packet below fits part =
    let up : suc i * p ≤ K * p = mul-le-mul_right p below in
    rw part (length_cell packets (i * p) p (omega (arith, suc-mul i p, up, fits)))

-- so it is filled with the packets of p bytes
turned : (K p : ℕ) (packets packet begun now next : List ℕ) (place : ℕ → ℕ) (i : ℕ) → length packet ≡ p → packet ≡ cell packets (i * p) p
    → now ≡ filled p (packets_of p K packets) place (2 ^ i - 1) begun
    → (packet ≡ cell packets (i * length packet) (length packet)
    → now ≡ filled (length packet) (packets_of (length packet) K packets) place (2 ^ i - 1) begun
    → next ≡ filled (length packet) (packets_of (length packet) K packets) place (2 ^ suc i - 1) begun)
    → next ≡ filled p (packets_of p K packets) place (2 ^ suc i - 1) begun
turned K p packets packet begun now next place i size part was filled = rw (← size) (filled (rw size part) (rw size was))

pub loop-symbol-init : goal.loop-symbol-init
unfolding each_bank
loop-symbol-init c = (omega arith, refl)

pub fill_symbol-at-requires-clause-room : goal.fill_symbol-at-requires-clause-room
fill_symbol-at-requires-clause-room c =
    let last : spaced c.args.banks.at c.args.banks.step (banks_of c.args.k) + c.args.p ≤ length c.loop-symbol.store
    = rw c.loop-symbol.auto.store c.requires.last in
    let size = size_of c.args.k c.args.p c.loop-symbol.symbol c.args.packets.now _ c.loop-symbol-test.true c.requires.packets_size c.packet_of.ensures in
    rw size (
      c.requires.step_size,
      a_step c.args.k c.args.p c.args.banks.at c.args.banks.step _ c.requires.symbols.least last,
      room c.args.k c.args.p c.args.banks.at c.args.banks.step _ c.loop-symbol.symbol c.loop-symbol-test.true last,
    )

pub loop-symbol-preserved : goal.loop-symbol-preserved
loop-symbol-preserved c =
    let size = size_of c.args.k c.args.p c.loop-symbol.symbol c.args.packets.now _ c.loop-symbol-test.true c.requires.packets_size c.packet_of.ensures in
    let up : c.loop-symbol.symbol + 1 ≡ suc c.loop-symbol.symbol = omega arith in
    rw up (
      c.fill_symbol-at.ensures.next,
      turned c.args.k c.args.p c.args.packets.now _ c.args.store.now _ _ (spaced c.args.banks.at c.args.banks.step) c.loop-symbol.symbol size c.packet_of.ensures
          c.loop-symbol.invariant.1 (c.fill_symbol-at.ensures.store c.args.k c.args.packets.now c.args.store.now c.loop-symbol-test.true),
    )

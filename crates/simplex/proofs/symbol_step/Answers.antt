-- The source is a bank below the one that is set, and its cell ends before that one's begins.
use Rattle.std.proofs.Common.{rules, ◌≡◌, ◌∙◌, ℕ, ◌+◌, ◌-◌, ◌*◌, ◌%◌, ◌^◌, ◌≤◌, ◌<◌, List, length, arith, refl, ap}
use native.Mathlib.Nat.{le_refl}
use Rattle.std.proofs.lemmas.Nat.{ones_le_self}
use Rattle.bits.proofs.Marks.{one_shl}
use Rattle.cells.specs.Cell.{cell, put}
use Rattle.cells.specs.Xor.{xor_bytes}
use Rattle.simplex.specs.Shape.{degree_of}
use Rattle.simplex.specs.Symbols.{highest_of, without_highest}
use Rattle.simplex.specs.Banks.{spaced}
use Rattle.simplex.specs.Filling.{running_xor}
use Rattle.simplex.proofs.Setting.{spaced_room}
use Rattle.simplex.proofs.Running.{rest_more, lower, symbol_below}
use Rattle.simplex.proofs.symbol_step.Goals as goal

module _ (b h : ℕ) (some : 1 ≤ b) (fits : b < 2 ^ 64) (is : h ≡ highest_of b) where
  few : h < 64
  few = rw is (symbol_below b some 64 (omega arith))

  power : 1 * 2 ^ h % 2 ^ 64 ≡ 2 ^ highest_of b
  power = one_shl h 64 few ∙ ap (λ (n : ℕ). 2 ^ n) is

  below : 1 * 2 ^ h % 2 ^ 64 ≤ b
  below = omega (arith, power, rest_more b some)

  rest : b - 1 * 2 ^ h % 2 ^ 64 ≡ without_highest b
  rest = ap (λ (n : ℕ). b - n) power

  module _ (two : 2 ≤ degree_of b) (packet : List ℕ) (at step : ℕ) (wide : length packet ≤ step) where
    before : spaced at step (without_highest b) + length packet ≤ spaced at step b
    before =
        let lower = lower b two in
        (spaced_room (length packet) at step b _ wide (le_refl (spaced at step b + length packet))).rising (without_highest b) b lower.0 lower.1 (le_refl b)

    from_fits : (size : ℕ) → spaced at step b + length packet ≤ size → size < 2 ^ 64
        → (1 ≤ b - 1 * 2 ^ h % 2 ^ 64) × (spaced at step (b - 1 * 2 ^ h % 2 ^ 64) < 2 ^ 64)
    from_fits size room long = rw rest ((lower b two).0, omega (arith, before))

    module _ (from to : ℕ) (source : from ≡ spaced at step (b - 1 * 2 ^ h % 2 ^ 64)) (target : to ≡ spaced at step b) where
      ends_before : from + length packet ≤ to
      ends_before = rw (source, target, rest) before

      stepped : (now next : List ℕ) → next ≡ put now to (xor_bytes (cell now from (length packet)) packet)
          → next ≡ put now (spaced at step b) (running_xor (length packet) packet (spaced at step) now b)
      stepped now next put = put ∙ rw (source, target, rest) refl

pub overflow_shl-symbol : goal.overflow_shl-symbol
overflow_shl-symbol c = few c.args.bank _ (omega (arith, ones_le_self c.args.bank)) c.ranges.bank.fits c.requires.highest

pub overflow_sub-bank : goal.overflow_sub-bank
overflow_sub-bank c = below c.args.bank _ (omega (arith, ones_le_self c.args.bank)) c.ranges.bank.fits c.requires.highest

pub place_of-from-requires : goal.place_of-from-requires
place_of-from-requires c =
    from_fits c.args.bank _ (omega (arith, ones_le_self c.args.bank)) c.ranges.bank.fits c.requires.highest c.requires.degree c.args.packet.now c.args.banks.at
    c.args.banks.step c.requires.room.0 (length c.args.store.now) (rw (← c.requires.place) c.requires.room.1) (omega arith)

-- by search, so that of a program with another source it is the promise that fails
pub xor_from-requires-clause-apart : goal.xor_from-requires-clause-apart
xor_from-requires-clause-apart c =
    let before =
    ends_before c.args.bank _ (omega (arith, ones_le_self c.args.bank)) c.ranges.bank.fits c.requires.highest c.requires.degree c.args.packet.now c.args.banks.at
    c.args.banks.step c.requires.room.0 _ _ c.place_of-from.ensures c.requires.place in
    search rules

pub returns : goal.returns
returns c =
    stepped c.args.bank _ (omega (arith, ones_le_self c.args.bank)) c.ranges.bank.fits c.requires.highest c.requires.degree c.args.packet.now c.args.banks.at
    c.args.banks.step c.requires.room.0 _ _ c.place_of-from.ensures c.requires.place _ _ c.xor_from.ensures

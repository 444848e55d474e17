-- The first bank of the symbol is its systematic one; each of the others is that one and, besides, a bank of the symbols below.
use Rattle.std.proofs.Common.{◌≡◌, ◌∙◌, ℕ, suc, ◌+◌, ◌-◌, ◌*◌, ◌%◌, ◌^◌, ◌≤◌, ◌<◌, List, length, arith, refl, sym}
use native.Mathlib.Nat.{suc-mul}
use lib.Pow.{pow_pos}
use Rattle.bits.proofs.Marks.{one_shl}
use Rattle.cells.specs.Cell.{cell, put}
use Rattle.simplex.specs.Shape.{banks_of, degree_of}
use Rattle.simplex.specs.Symbols.{highest_of}
use Rattle.simplex.specs.Banks.{spaced}
use Rattle.simplex.specs.Filling.{packets_of, running_xor, filled}
use Rattle.simplex.proofs.Filling.{copies, steps}
use Rattle.simplex.proofs.Running.{highest_one, highest_more, two_below}
use Rattle.simplex.proofs.fill_symbol.Goals as goal

-- each bank lies a step behind the one before it
next_place : (at step b : ℕ) → 1 ≤ b → spaced at step b + step ≡ spaced at step (b + 1)
next_place at step b some =
    let more : suc (b - 1) * step ≡ (b - 1) * step + step = suc-mul (b - 1) step in
    let is : suc (b - 1) ≡ b + 1 - 1 = omega arith in
    rw (← is) (omega (arith, more))

module _ (i first : ℕ) (few : i < 63) (is : first ≡ 1 * 2 ^ i % 2 ^ 64) where
  power : first ≡ 2 ^ i
  power = is ∙ one_shl i 64 (omega arith)

  one : degree_of first ≡ 1
  one = rw power (highest_one i).1

  more : (b : ℕ) → first + 1 ≤ b → b < 2 * first → (highest_of b ≡ i) × (2 ≤ degree_of b)
  more b low high =
      let whole : 2 ^ i + (b - first) ≡ b = omega (arith, power) in
      let is = highest_more i (b - first) (omega arith) (omega (arith, power)) in
      rw (← whole) (is.0, is.2)

module _ (K p : ℕ) (packets : List ℕ) (place : ℕ → ℕ) (begun now next packet : List ℕ) (i b : ℕ) (symbol : i < K)
    (part : packet ≡ cell packets (i * p) p) where
  copied : (to : ℕ) → b ≡ 2 ^ i → to ≡ place b → now ≡ filled p (packets_of p K packets) place (2 ^ i - 1) begun → next ≡ put now to packet
      → next ≡ filled p (packets_of p K packets) place b begun
  copied to is there was put = put ∙ rw (there, part, was, is) (copies K p packets place begun i symbol)

  stepped : length packet ≡ p → highest_of b ≡ i → 2 ≤ degree_of b → b < 2 * 2 ^ i
      → now ≡ filled p (packets_of p K packets) place (b - 1) begun
      → next ≡ put now (place b) (running_xor (length packet) packet place now b)
      → next ≡ filled p (packets_of p K packets) place b begun
  stepped size highest two below was put =
      let most : b ≤ banks_of K = omega (arith, two_below K i symbol) in
      put ∙ rw (size, part, was, ← highest) (steps K p packets place begun b two most)

pub prove-unreachable-requires : goal.prove-unreachable-requires
prove-unreachable-requires c = c.if-prove.true (c.degree.ensures ∙ one c.args.symbol _ (omega (arith, c.requires.symbol)) refl)

pub loop-bank-init : goal.loop-bank-init
loop-bank-init c =
    let first = power c.args.symbol _ (omega (arith, c.requires.symbol)) refl in
    let some : 1 ≤ 2 ^ c.args.symbol = pow_pos c.args.symbol in
    let done : 1 * 2 ^ c.args.symbol % 2 ^ 64 + 1 - 1 ≡ 1 * 2 ^ c.args.symbol % 2 ^ 64 = omega arith in (
      rw (c.requires.place, first) (next_place c.args.banks.at c.args.banks.step (2 ^ c.args.symbol) some),
      λ K packets begun symbol part was. rw done
          (copied K (length c.args.packet.now) packets (spaced c.args.banks.at c.args.banks.step) begun _ _ _ c.args.symbol _ symbol part _ first
          (rw first c.requires.place) was c.copy_into.ensures),
    )

pub prove-unreachable-requires-in-loop-bank : goal.prove-unreachable-requires-in-loop-bank
prove-unreachable-requires-in-loop-bank c =
    let more = more c.args.symbol _ (omega (arith, c.requires.symbol)) refl c.loop-bank.bank c.loop-bank.auto.bank (omega (arith, c.loop-bank-test.true)) in
    omega (arith, more.1, c.degree-in-loop-bank.ensures, c.if-prove-2.true)

pub symbol_step-requires-clause-highest : goal.symbol_step-requires-clause-highest
symbol_step-requires-clause-highest c =
    sym (more c.args.symbol _ (omega (arith, c.requires.symbol)) refl c.loop-bank.bank c.loop-bank.auto.bank (omega (arith, c.loop-bank-test.true))).0

pub loop-bank-preserved : goal.loop-bank-preserved
loop-bank-preserved c =
    let done : c.loop-bank.bank + 1 - 1 ≡ c.loop-bank.bank = omega arith in
    let some : 1 ≤ c.loop-bank.bank = omega (arith, c.loop-bank.auto.bank) in
    let more = more c.args.symbol _ (omega (arith, c.requires.symbol)) refl c.loop-bank.bank c.loop-bank.auto.bank (omega (arith, c.loop-bank-test.true)) in
    let below : c.loop-bank.bank < 2 * 2 ^ c.args.symbol = omega (arith, power c.args.symbol _ (omega (arith, c.requires.symbol)) refl, c.loop-bank-test.true) in (
      rw c.loop-bank.invariant.0 (next_place c.args.banks.at c.args.banks.step c.loop-bank.bank some),
      λ K packets begun symbol part was. rw done
          (stepped K (length c.args.packet.now) packets (spaced c.args.banks.at c.args.banks.step) begun _ _ _ c.args.symbol c.loop-bank.bank symbol part
          refl more.0 more.1 below (c.loop-bank.invariant.1 K packets begun symbol part was) c.symbol_step.ensures),
    )

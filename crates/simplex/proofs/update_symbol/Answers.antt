-- The systematic bank is one of the group's, and each turn changes one bank behind it.
use Rattle.std.proofs.Common.{◌≡◌, ℕ, suc, ◌+◌, ◌-◌, ◌*◌, ◌%◌, ◌^◌, ◌<◌, ◌≤◌, true, false, List, length, arith, refl, sym, ap, ◌∙◌}
use native.Mathlib.Nat.{pow-suc}
use lib.Pow.{pow_pos, pow_mono}
use Rattle.bits.proofs.Marks.{one_shl}
use Rattle.cells.specs.Cell.{cell, put}
use Rattle.cells.specs.Xor.{xor_bytes}
use Rattle.simplex.specs.Shape.{banks_of}
use Rattle.simplex.specs.Symbols.{has_symbol}
use Rattle.simplex.specs.Banks.{spaced, Room, bank_set}
use Rattle.simplex.specs.Updating.{bank_updated, Updatable}
use Rattle.simplex.proofs.Tables.{banks_of_lem}
use Rattle.simplex.proofs.Setting.{spaced_room}
use Rattle.simplex.proofs.Running.{systematic_bank}
use Rattle.simplex.proofs.Updating.{Turned, turned_first, turned_more}
use Rattle.simplex.proofs.update_symbol.Goals as goal
use Rattle.simplex.proofs.update_symbol.Goals.{else-loop-bank-test, then-loop-bank-test+else-bank-bank-end, then-is_marked, else-is_marked}

module _ {k P i at step : ℕ} {store : List ℕ} (u : Updatable k P i at step store) where
  power : 1 * 2 ^ i % 2 ^ 64 ≡ 2 ^ i
  power = one_shl i 64 (omega (arith, u.symbol_there, u.symbols.most))

  systematic : 2 ^ i ≤ banks_of k
  systematic = systematic_bank k i u.symbol_there

  -- a bank lies behind it: the group has two symbols and more
  one_behind : 2 ^ i + 1 ≤ banks_of k
  one_behind =
      let four : 2 ^ 2 ≤ 2 ^ k = pow_mono u.symbols.least in
      let up : 2 ^ suc i ≤ 2 ^ k = pow_mono u.symbol_there in
      omega (arith, pow-suc 2 i, pow_pos i)

  room : Room P (spaced at step) (banks_of k) (length store)
  room = spaced_room P at step (banks_of k) (length store) u.step_size u.last

  -- where the systematic bank lies: within the store
  module _ (old : ℕ) (is : old ≡ spaced at step (1 * 2 ^ i % 2 ^ 64)) where
    old_place : old ≡ spaced at step (2 ^ i)
    old_place = is ∙ ap (spaced at step) power

    within : old + P ≤ length store
    within = omega (arith, old_place, room.within (2 ^ i) (pow_pos i) systematic)

-- a turn, by the bank's bit
module _ {k i at step : ℕ} {packet store : List ℕ} (u : Updatable k (length packet) i at step store) (b : ℕ) (now next : List ℕ)
    (behind : 2 ^ i < b) (most : b ≤ banks_of k) (same : length now ≡ length store)
    (before : Turned (length packet) i packet (spaced at step) store (b - 1) now) where
  turned : next ≡ bank_set (λ b. has_symbol b i) (bank_updated (length packet) i packet (spaced at step)) (spaced at step) b now
      → Turned (length packet) i packet (spaced at step) store b next
  turned is =
      rw is
      (turned_more (length packet) i packet (spaced at step) (banks_of k) store refl (systematic u) (room u) (b - 1) b now (omega arith) (omega arith) most same before)

  turned_held : (old own : ℕ) → old ≡ spaced at step (1 * 2 ^ i % 2 ^ 64) → own ≡ spaced at step b → true ≡ has_symbol b i
      → next ≡ put now own (xor_bytes (cell now own (length packet)) (xor_bytes (cell now old (length packet)) packet))
      → Turned (length packet) i packet (spaced at step) store b next
  turned_held old own first here held is = turned (is ∙ rw (old_place u old first, here, sym held))

  turned_other : false ≡ has_symbol b i → next ≡ now → Turned (length packet) i packet (spaced at step) store b next
  turned_other other is = turned (is ∙ rw (sym other))

pub place_of-old-requires : goal.place_of-old-requires
place_of-old-requires c =
    let power = power c.requires in
    let room = (room c.requires).within (2 ^ c.args.symbol) (pow_pos c.args.symbol) (systematic c.requires) in
    (omega (arith, power, pow_pos c.args.symbol), rw power (omega (arith, room)))

pub copy_into-requires : goal.copy_into-requires
copy_into-requires c = omega (arith, within c.requires _ c.place_of-old.ensures)

pub loop-bank-init : goal.loop-bank-init
loop-bank-init c =
    let first : 1 * 2 ^ c.args.symbol % 2 ^ 64 + 1 - 1 ≡ 2 ^ c.args.symbol = omega (arith, power c.requires) in
    rw first
    (turned_first (length c.args.packet.now) c.args.symbol c.args.packet.now (spaced c.args.banks.at c.args.banks.step) (banks_of c.args.k) c.args.store.now refl (systematic c.requires) (room c.requires))

pub loop-bank-preserved : goal.loop-bank-preserved
loop-bank-preserved c =
    let next : c.loop-bank.bank + 1 - 1 ≡ c.loop-bank.bank = omega arith in
    let behind : 2 ^ c.args.symbol < c.loop-bank.bank = omega (arith, power c.requires) in
    let most : c.loop-bank.bank ≤ banks_of c.args.k = omega (arith, banks_of_lem c.args.k c.group_of-bank-end.ensures) in
    rw next
    (elim c.if-is_marked.branch [
      | then-is_marked w ↦ turned_held c.requires _ _ _ behind most c.loop-bank.auto.store c.loop-bank.invariant _ _ c.place_of-old.ensures w.place_of.ensures w.if-is_marked.ensures (w.store-is ∙ w.xor_into.ensures)
      | else-is_marked w ↦ turned_other c.requires _ _ _ behind most c.loop-bank.auto.store c.loop-bank.invariant w.if-is_marked.ensures w.store-is
    ])

pub returns : goal.returns
returns c =
    let banks = banks_of_lem c.args.k c.group_of-bank-end.ensures in
    let end = c.loop-bank.auto.bank-end (omega (arith, banks, power c.requires, one_behind c.requires)) in
    let behind : 2 ^ c.args.symbol < c.loop-bank.bank = omega (arith, power c.requires) in
    let place = spaced c.args.banks.at c.args.banks.step in
    let all : Turned (length c.args.packet.now) c.args.symbol c.args.packet.now place c.args.store.now (banks_of c.args.k) c.loop-bank-test.store =
    elim c.loop-bank-test.branch [
      | else-loop-bank-test w ↦
          let last : c.loop-bank.bank - 1 ≡ banks_of c.args.k = omega (arith, banks, end, w.loop-bank-test.false) in
          rw (w.store-is, ← last) c.loop-bank.invariant
      | then-loop-bank-test+else-bank-bank-end w ↦
          let last : c.loop-bank.bank ≡ banks_of c.args.k = omega (arith, banks, end, w.loop-bank-test.true) in
          rw (w.store-is, ← last)
          (elim w.if-is_marked.branch [
            | then-is_marked w' ↦ turned_held c.requires _ _ _ behind (omega (arith, last)) c.loop-bank.auto.store c.loop-bank.invariant _ _ c.place_of-old.ensures w'.place_of.ensures w'.if-is_marked.ensures (w'.store-is ∙ w'.xor_into.ensures)
            | else-is_marked w' ↦ turned_other c.requires _ _ _ behind (omega (arith, last)) c.loop-bank.auto.store c.loop-bank.invariant w'.if-is_marked.ensures w'.store-is
          ])
    ] in
    c.copy_into.ensures ∙ ap (λ (n : ℕ). put c.loop-bank-test.store n c.args.packet.now) (old_place c.requires _ c.place_of-old.ensures) ∙ all.changed

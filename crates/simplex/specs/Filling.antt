-- A group's banks filled from its packets, in one row of a store.
use Rattle.std.specs.Prelude.{◌≡◌, ◌==◌, true, if◌then◌else◌, List, [], ◌∷◌, ℕ, zero, suc, ◌+◌, ◌*◌, ◌≤◌, length, slice_index_or, take, drop}
use Rattle.cells.specs.Cell.{cell, put}
use Rattle.cells.specs.Xor.{xor_bytes, zeros}
use Rattle.simplex.specs.Shape.{SymbolsInRange, banks_of, degree_of}
use Rattle.simplex.specs.Code.{Packet}
use Rattle.simplex.specs.Symbols.{highest_of, without_highest}
use Rattle.simplex.specs.Banks.{spaced, each_bank}

-- The K packets of P bytes each that stand one after the other in a list of bytes.
unfoldable pub packets_of : (P K : ℕ) → List ℕ → List Packet
packets_of P zero bytes = []
packets_of P (suc K) bytes = take P bytes ∷ packets_of P K (drop P bytes)

-- What a step of running XOR gives for bank b. It has two sources and no third: the packet of b's highest symbol, and what the store has,
-- right or wrong, in the cell of the bank of b's other symbols [write.steps].
abbrev pub running_xor : (P : ℕ) → Packet → (place : ℕ → ℕ) → (store : List ℕ) → (b : ℕ) → Packet
running_xor P packet place store b = xor_bytes (cell store (place (without_highest b)) P) packet

-- The store with bank b, at the index `place b`, set by such a step. The packets stand one after the other, P bytes each.
abbrev pub running_step : (P : ℕ) → (packets : List ℕ) → (place : ℕ → ℕ) → (b : ℕ) → (store : List ℕ) → List ℕ
running_step P packets place b store =
    put store (place b) (running_xor P (cell packets (highest_of b * P) P) place store b)

-- What bank b is filled with, for a group of these packets: a bank of degree one with a copy of its packet, and every other with what a
-- step of running XOR gives [write.steps]. A symbol past the last packet counts as one whose packet is zeros.
abbrev pub bank_filled : (P : ℕ) → List Packet → (place : ℕ → ℕ) → (store : List ℕ) → (b : ℕ) → Packet
bank_filled P packets place store b =
    let packet = slice_index_or packets (highest_of b) (zeros P) in
    if degree_of b == 1 then packet else running_xor P packet place store b

-- The store with banks 1 to n filled so, one after the other.
abbrev pub filled : (P : ℕ) → List Packet → (place : ℕ → ℕ) → (n : ℕ) → (store : List ℕ) → List ℕ
filled P packets place n store = each_bank (λ b. true) (bank_filled P packets place) place n store

-- What filling a group's banks asks: K in its range, K packets of P bytes, a step of at least a cell, and room for the last bank's cell.
pub record Fillable (K P at step : ℕ) (packets store : List ℕ) : Type 0 where
  pub symbols : SymbolsInRange K
  pub packets_size : length packets ≡ K * P
  pub step_size : P ≤ step
  pub last : spaced at step (banks_of K) + P ≤ length store

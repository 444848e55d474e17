-- One symbol's packet updated in a group's banks, in one row of a store.
use Rattle.std.specs.Prelude.{List, ℕ, ◌+◌, ◌^◌, ◌≤◌, ◌<◌, length}
use Rattle.cells.specs.Cell.{cell}
use Rattle.cells.specs.Xor.{xor_bytes}
use Rattle.simplex.specs.Shape.{SymbolsInRange, banks_of}
use Rattle.simplex.specs.Code.{Packet}
use Rattle.simplex.specs.Symbols.{has_symbol}
use Rattle.simplex.specs.Banks.{spaced, each_bank}

-- What a bank of the store that holds the symbol is set to: the XOR of its cell, of the packet as the symbol's systematic bank has it, and
-- of the new one [update.cells].
abbrev pub bank_updated : (P symbol : ℕ) → Packet → (place : ℕ → ℕ) → (store : List ℕ) → (b : ℕ) → Packet
bank_updated P symbol packet place store b =
    xor_bytes (cell store (place b) P) (xor_bytes (cell store (place (2 ^ symbol)) P) packet)

-- The store with the symbol's packet updated (customers say: patched): so in those of banks 1 to n that hold it. What each of them is set
-- to goes by the store as it came, and not as it stands when its turn comes: the systematic bank has the new packet by then.
abbrev pub symbol_updated : (P symbol : ℕ) → Packet → (place : ℕ → ℕ) → (n : ℕ) → (store : List ℕ) → List ℕ
symbol_updated P symbol packet place n store =
    each_bank (λ b. has_symbol b symbol) (λ now. bank_updated P symbol packet place store) place n store

-- What an update asks: K in its range, a symbol of the group, a step of at least a cell, and room for the last bank's cell.
pub record Updatable (K P symbol at step : ℕ) (store : List ℕ) : Type 0 where
  pub symbols : SymbolsInRange K
  pub symbol_there : symbol < K
  pub step_size : P ≤ step
  pub last : spaced at step (banks_of K) + P ≤ length store

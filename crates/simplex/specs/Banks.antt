-- The banks of a group in one row of a store: where their cells lie, and those of them that pass a test set.
use Rattle.std.specs.Prelude.{◌≡◌, Bool, true, if◌then◌else◌, List, ℕ, zero, suc, ◌+◌, ◌-◌, ◌*◌, ◌≤◌, ◌<◌, length, slice_index}
use Rattle.cells.specs.Cell.{cell, put, Outside}
use Rattle.simplex.specs.Code.{Packet}

-- Bank 1 at the index `at`, and each other bank `step` bytes after the one before it.
abbrev pub spaced : (at step : ℕ) → ℕ → ℕ
spaced at step b = at + (b - 1) * step

-- The banks' cells have room: they lie within the store, in the order of the banks, and none reaches into the next.
pub record Room (P : ℕ) (place : ℕ → ℕ) (n size : ℕ) : Type 0 where
  pub within : (b : ℕ) → 1 ≤ b → b ≤ n → place b + P ≤ size
  pub rising : (a b : ℕ) → 1 ≤ a → a < b → b ≤ n → place a + P ≤ place b

-- The store with the cell of bank b, at the index `place b`, set to what `what` gives for the store as it stands and for b, if the bank
-- passes the test.
abbrev pub bank_set : (test : ℕ → Bool) (what : (store : List ℕ) → ℕ → Packet) (place : ℕ → ℕ) (b : ℕ) (store : List ℕ) → List ℕ
bank_set test what place b store = if test b then put store (place b) (what store b) else store

-- The same for banks 1 to n, one after the other: so what a bank is set to may come from the banks before it.
unfoldable pub each_bank : (test : ℕ → Bool) (what : (store : List ℕ) → ℕ → Packet) (place : ℕ → ℕ) (n : ℕ) (store : List ℕ) → List ℕ
each_bank test what place zero store = store
each_bank test what place (suc n) store = bank_set test what place (suc n) (each_bank test what place n store)

-- Of a store, and of the store after those of banks 1 to n were set that pass the test: the cell of each holds what it was set to, and
-- every other byte, also of the other banks, is as it was.
pub record BanksSet (P : ℕ) (test : ℕ → Bool) (what : ℕ → Packet) (place : ℕ → ℕ) (n : ℕ) (store after : List ℕ)
    : Type 0 where
  pub size : length after ≡ length store
  pub banks : (b : ℕ) → 1 ≤ b → b ≤ n → test b ≡ true → cell after (place b) P ≡ what b
  pub others : (byte : ℕ) → ((b : ℕ) → 1 ≤ b → b ≤ n → test b ≡ true → Outside P (place b) byte)
      → slice_index after byte ≡ slice_index store byte

-- The laws of the code, for every K and every P.
use Rattle.std.specs.Prelude.{◌≡◌, ◌≢◌, ◌⊎◌, ◌↔◌, Bool, true, false, List, [], ℕ, zero, suc, ◌+◌, ◌-◌, ◌*◌, ◌%◌, ◌^◌, ◌≤◌, ◌<◌, length, slice_index_or, set}
use Rattle.std.specs.Int.Bits.{bit_xor}
use Rattle.bits.specs.Marks.{how_many}
use Rattle.cells.specs.Cell.{cell, put}
use Rattle.cells.specs.Xor.{xor_bytes}
use Rattle.simplex.specs.declared.TheConstants.{MOST_SYMBOLS, MOST_PAIRS}
use Rattle.simplex.specs.Shape.{banks_of, is_bank, limit_of, degree_of}
use Rattle.simplex.specs.Code.{Packet, Sized, Content, Banks, bank_cell, xor_of_numbers, Yields}
use Rattle.simplex.specs.Limit.{Fails}
use Rattle.simplex.specs.Symbols.{has_symbol, highest_of, without_highest}
use Rattle.simplex.specs.Banks.{spaced, Room, each_bank, BanksSet}
use Rattle.simplex.specs.Filling.{packets_of, filled, running_step, Fillable}
use Rattle.simplex.specs.Updating.{bank_updated, symbol_updated}

-- The fixed table: for each K, how many banks a group has, and its limit [shape.groups]. pairs: the most pairs of a plan are the limit at
-- the largest K, and so sixteen [plan.pairs].
pub record TheFixedTable : Type 0 where
  pub two : (banks_of 2 ≡ 3) × (limit_of 2 ≡ 2)
  pub three : (banks_of 3 ≡ 7) × (limit_of 3 ≡ 4)
  pub four : (banks_of 4 ≡ 15) × (limit_of 4 ≡ 8)
  pub five : (banks_of 5 ≡ 31) × (limit_of 5 ≡ 16)
  pub pairs : (MOST_PAIRS ≡ limit_of MOST_SYMBOLS) × (MOST_PAIRS ≡ 16)

-- linear: the XOR of the cells of banks a and b is the cell of a XOR b.
-- two: if a XOR b = 2^i, the two cells XOR to packet i. alone: the systematic bank 2^i (customers say: a single bank) holds packet i.
-- yields: a set of banks whose numbers XOR to 2^i yields symbol i. fails: a set of banks that fails a symbol does not yield it.
-- Rules [bank.content], [bank.systematic], [promise.over-k].
pub record TheCode : Type 0 where
  pub linear : (P : ℕ) (packets : List Packet) → Sized P packets → (a b : ℕ)
      → xor_bytes (bank_cell P packets a) (bank_cell P packets b) ≡ bank_cell P packets (bit_xor a b)
  pub two : (K P : ℕ) (packets : List Packet) → Content K P packets → (i a b : ℕ) → i < K → bit_xor a b ≡ 2 ^ i
      → xor_bytes (bank_cell P packets a) (bank_cell P packets b) ≡ slice_index_or packets i []
  pub alone : (K P : ℕ) (packets : List Packet) → Content K P packets → (i : ℕ) → i < K
      → bank_cell P packets (2 ^ i) ≡ slice_index_or packets i []
  pub yields : (K P : ℕ) (banks : Banks) (i : ℕ) → i < K → xor_of_numbers banks ≡ 2 ^ i → Yields K P banks i
  pub fails : (K P : ℕ) (banks : Banks) (i : ℕ) → Fails K P banks i → Yields K P banks i → ⊥

-- How many of the banks 1 to n have odd degree.
abbrev pub odd_banks : ℕ → ℕ
odd_banks zero = 0
odd_banks (suc n) = degree_of (suc n) % 2 + odd_banks n

-- numbers: a group's banks are numbered from 1 to 2^K - 1.
-- degree: a bank's degree is how many symbols it holds.
-- holders: exactly 2^(K-1) of the banks, which are numbered from 1, hold symbol i. odd: exactly 2^(K-1) of them have odd degree.
-- highest: a bank holds its highest symbol and none above it. rest: the number without that symbol holds the bank's other symbols and no
-- more.
-- lower: where a bank has degree two or more, that number is a bank with a lower number, of one degree less.
-- kinds: a bank of lower degree is systematic. Rules [bank.degree], [promise.over-k].
pub record TheSymbols : Type 0 where
  pub numbers : (K b : ℕ) → (is_bank K b ≡ true) ↔ ((1 ≤ b) × (b ≤ banks_of K))
  pub degree : (K b : ℕ) → b < 2 ^ K → degree_of b ≡ how_many (has_symbol b) K
  pub holders : (K i : ℕ) → i < K → how_many (λ b. has_symbol (suc b) i) (banks_of K) ≡ 2 ^ (K - 1)
  pub odd : (K : ℕ) → 1 ≤ K → odd_banks (banks_of K) ≡ limit_of K
  pub highest : (b : ℕ) → 1 ≤ b → (has_symbol b (highest_of b) ≡ true)
      × ((i : ℕ) → highest_of b < i → has_symbol b i ≡ false)
  pub rest : (b : ℕ) → 1 ≤ b → (has_symbol (without_highest b) (highest_of b) ≡ false)
      × ((i : ℕ) → i ≢ highest_of b → has_symbol (without_highest b) i ≡ has_symbol b i)
  pub lower : (b : ℕ) → 2 ≤ degree_of b
      → (1 ≤ without_highest b) × (without_highest b < b) × (degree_of b ≡ suc (degree_of (without_highest b)))
  pub kinds : (b : ℕ) → 1 ≤ b → (2 ^ highest_of b ≡ b) ⊎ (2 ≤ degree_of b)

-- each: of the banks in a store, wherever they have room, those that pass a test can be set one after the other, to P bytes each, with no
-- other byte changed: each holds what was given for the store as it stood when its turn came.
-- copies, steps: after the banks before it, a systematic bank is filled by a copy of its packet, and a bank of more symbols by a step of
-- running XOR, wherever they lie and whatever the store holds.
-- sources: of a bank 2^i + r, with r from 1 on below 2^i, the step takes the cell of bank r, as it then stands, and packet i.
-- holds: so banks that are filled hold what the code says; filling: as they are after `fill_group`.
-- updated: an update changes the cells of the banks that hold the symbol, whatever is there.
-- fresh: where the banks hold what the code says, the store after an update is the store filled with the new packet in the old one's place.
pub record TheBanks : Type 0 where
  pub each : (P : ℕ) (test : ℕ → Bool) (what : List ℕ → ℕ → Packet) (place : ℕ → ℕ) (n : ℕ) (store : List ℕ)
      → ((b : ℕ) → 1 ≤ b → b ≤ n → test b ≡ true → (now : List ℕ) → length now ≡ length store → length (what now b) ≡ P)
      → Room P place n (length store)
      → BanksSet P test (λ b. what (each_bank test what place (b - 1) store) b) place n store (each_bank test what place n store)
  pub copies : (K P : ℕ) (packets : List ℕ) (i : ℕ) (place : ℕ → ℕ) (store : List ℕ) → i < K
      → put (filled P (packets_of P K packets) place (2 ^ i - 1) store) (place (2 ^ i)) (cell packets (i * P) P)
      ≡ filled P (packets_of P K packets) place (2 ^ i) store
  pub steps : (K P : ℕ) (packets : List ℕ) (b : ℕ) (place : ℕ → ℕ) (store : List ℕ) → 2 ≤ degree_of b → b ≤ banks_of K
      → running_step P packets place b (filled P (packets_of P K packets) place (b - 1) store)
      ≡ filled P (packets_of P K packets) place b store
  pub sources : (K P : ℕ) (packets : List ℕ) (i r : ℕ) (place : ℕ → ℕ) (store : List ℕ) → i < K → 1 ≤ r → r < 2 ^ i
      → let before = filled P (packets_of P K packets) place (2 ^ i + r - 1) store in
      put before (place (2 ^ i + r)) (xor_bytes (cell before (place r) P) (cell packets (i * P) P))
      ≡ filled P (packets_of P K packets) place (2 ^ i + r) store
  pub holds : (P : ℕ) (packets : List Packet) (place : ℕ → ℕ) (n : ℕ) (store : List ℕ) → Sized P packets
      → Room P place n (length store)
      → BanksSet P (λ b. true) (bank_cell P packets) place n store (filled P packets place n store)
  pub filling : (K P at step : ℕ) (packets store : List ℕ) → Fillable K P at step packets store
      → BanksSet P (λ b. true) (bank_cell P (packets_of P K packets)) (spaced at step) (banks_of K) store
      (filled P (packets_of P K packets) (spaced at step) (banks_of K) store)
  pub updated : (P i : ℕ) (packet : Packet) (place : ℕ → ℕ) (n : ℕ) (store : List ℕ) → length packet ≡ P → 2 ^ i ≤ n
      → Room P place n (length store)
      → BanksSet P (λ b. has_symbol b i) (bank_updated P i packet place store) place n store (symbol_updated P i packet place n store)
  pub fresh : (P : ℕ) (packets : List Packet) (i : ℕ) (packet : Packet) (place : ℕ → ℕ) (n : ℕ) (store : List ℕ)
      → i < length packets → 2 ^ i ≤ n → Sized P packets → length packet ≡ P → Room P place n (length store)
      → ((b : ℕ) → 1 ≤ b → b ≤ n → cell store (place b) P ≡ bank_cell P packets b)
      → symbol_updated P i packet place n store ≡ filled P (set packets i packet) place n store

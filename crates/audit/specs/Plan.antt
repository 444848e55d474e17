-- A plan: recovery pairs of banks, one for each read of a request vector. First as a test that can be computed, then in words. Which banks
-- a pair may use is a test that is handed down; the audit, the table and the planner hand in `is_bank K`, that the group has a bank of
-- that number.
use Rattle.std.specs.Prelude.{◌≡◌, ◌≢◌, Bool, true, false, not, ◌&&◌, ◌||◌, List, [], ◌∷◌, ◌++◌, ℕ, zero, suc, ◌+◌, ◌^◌, ◌<◌, ◌==◌, nat_lt, length, slice_index, slice_index_or, sum, Contains}
use Rattle.std.specs.List.{list_any}
use Rattle.std.specs.Int.Bits.{bit_xor}
use Rattle.simplex.specs.Code.{Banks}
use Rattle.simplex.specs.Limit.{reads_of, start}
use Rattle.audit.specs.declared.Pair.{Pair}

-- What is given where a list of pairs has none.
abbrev pub no_pair : Pair
no_pair = record { a = 0; b = 0 }

-- The banks that a pair opens.
abbrev pub opens : ℕ → ℕ → Banks
opens a zero = a ∷ []
opens a (suc b) = a ∷ suc b ∷ []

abbrev pub opened : Pair → Banks
opened pair = opens pair.a pair.b

-- The pair serves a symbol with the banks that may be used: bank a is one of them, and b is 0 or one of them; a > b, and
-- a XOR b = 2^symbol [plan.pair].
abbrev pub serves : (usable : ℕ → Bool) (symbol : ℕ) → Pair → Bool
serves usable symbol pair =
    usable pair.a && (pair.b == 0 || usable pair.b) && nat_lt pair.b pair.a && bit_xor pair.a pair.b == 2 ^ symbol

-- The pairs serve the reads, one by one in their order, and none is left over.
abbrev pub serves_all : (ℕ → Bool) → List ℕ → List Pair → Bool
serves_all usable [] [] = true
serves_all usable [] (pair ∷ pairs) = false
serves_all usable (symbol ∷ reads) [] = false
serves_all usable (symbol ∷ reads) (pair ∷ pairs) = serves usable symbol pair && serves_all usable reads pairs

-- The banks that the pairs open.
abbrev pub banks_opened : List Pair → Banks
banks_opened [] = []
banks_opened (pair ∷ pairs) = opened pair ++ banks_opened pairs

-- Bank b is among these.
abbrev pub among : ℕ → Banks → Bool
among b banks = list_any (λ x. b == x) banks

-- None of the banks is there twice.
abbrev pub none_twice : Banks → Bool
none_twice [] = true
none_twice (b ∷ banks) = not (among b banks) && none_twice banks

-- A plan for the counts: its pairs serve the reads of symbol 0, of symbol 1 and of those behind it, read by read, and open no bank a second
-- time [plan.pairs], [plan.once].
unfoldable pub is_plan : (usable : ℕ → Bool) → List ℕ → List Pair → Bool
is_plan usable counts pairs = serves_all usable (reads_of counts) pairs && none_twice (banks_opened pairs)

-- The tests in words. A pair that serves a symbol:
pub record Serves (usable : ℕ → Bool) (symbol : ℕ) (pair : Pair) : Type 0 where
  pub first : usable pair.a ≡ true
  pub second : pair.b ≢ 0 → usable pair.b ≡ true
  pub above : pair.b < pair.a
  pub differ : bit_xor pair.a pair.b ≡ 2 ^ symbol

-- Pair n of a list, from 0.
abbrev pub pair_at : List Pair → ℕ → Pair
pair_at pairs n = slice_index_or pairs n no_pair

-- one_each: there are as many pairs as reads. once: no two pairs open the same bank.
-- in_order: pair n of a symbol, both numbered from 0, serves it, and the pairs stand symbol by symbol.
pub record IsPlan (usable : ℕ → Bool) (counts : List ℕ) (pairs : List Pair) : Type 0 where
  pub one_each : length pairs ≡ sum counts
  pub in_order : (symbol n : ℕ) → n < slice_index counts symbol → Serves usable symbol (pair_at pairs (start counts symbol + n))
  pub once : (m n b : ℕ) → m < n → n < length pairs → Contains (opened (pair_at pairs m)) b → Contains (opened (pair_at pairs n)) b → ⊥

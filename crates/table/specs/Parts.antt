-- What the parts of this crate hand on to each other. No public promise cites it.
use Rattle.std.specs.Prelude.{◌≡◌, List, ℕ, ◌+◌, ◌^◌, ◌<◌, slice_index}
use Rattle.simplex.specs.declared.TheConstants.{MOST_SYMBOLS}
use Rattle.simplex.specs.Limit.{start}
use Rattle.table.specs.declared.Order.{Order}
use Rattle.table.specs.Finding.{rank, sorted_of}

-- The order of the symbols by falling counts: the rank of each, which symbol has a rank, and the sorted request.
pub record Ordered (K : ℕ) (counts : List ℕ) (order : Order) : Type 0 where
  pub ranks : (i : ℕ) → i < MOST_SYMBOLS → slice_index order.ranks i ≡ rank counts i
  pub symbols : (i : ℕ) → i < MOST_SYMBOLS → slice_index order.symbols (rank counts i) ≡ i
  pub within : (p : ℕ) → p < MOST_SYMBOLS → slice_index order.symbols p < MOST_SYMBOLS
  pub sorted : order.counts ≡ sorted_of K counts

-- The names of banks, made by n doublings: bank 0 is bank 0, and a bank with symbol p more has the symbol that is p-th by rank more. After
-- K of them each bank of a group of K symbols is renamed: `names_renamed` in proofs/Named, for every K.
pub record Named (symbols : List ℕ) (n : ℕ) (names : List ℕ) : Type 0 where
  pub none : slice_index names 0 ≡ 0
  pub more : (p b : ℕ) → p < n → b < 2 ^ p → slice_index names (2 ^ p + b) ≡ slice_index names b + 2 ^ slice_index symbols p

-- Where in a row the pairs of the reads of the first n symbols stand, read by read.
pub record Placed (counts sorted : List ℕ) (n : ℕ) (places : List ℕ) : Type 0 where
  pub at : (i j : ℕ) → i < n → j < slice_index counts i
      → slice_index places (start counts i + j) ≡ start sorted (rank counts i) + j

-- The stored table: a row for each sorted request, that is, for falling counts that total 2^(K-1).
use Rattle.std.specs.Prelude.{◌≡◌, List, [], ◌∷◌, ℕ, zero, suc, ◌+◌, ◌-◌, ◌≤◌, ◌==◌, if◌then◌else◌, slice_index, slice_index_or, sum}
use Rattle.simplex.specs.declared.TheConstants.{LEAST_SYMBOLS}
use Rattle.simplex.specs.Shape.{limit_of}
use Rattle.audit.specs.declared.Pair.{Pair}
use Rattle.audit.specs.Audit.{RequestOf}
use Rattle.table.specs.declared.rows.TheConstants.{ROWS_OF_2, ROWS_OF_3, ROWS_OF_4, ROWS_OF_5, TRIE}

-- Each count is at most the one before it, and the first at most this.
abbrev pub Falling : ℕ → List ℕ → Type 0
Falling most [] = Unit {0}
Falling most (c ∷ counts) = (c ≤ most) × Falling c counts

-- A sorted request: falling counts that total 2^(K-1).
pub record SortedRequest (K : ℕ) (counts : List ℕ) : Type 0 where
  pub request : RequestOf K counts
  pub falling : Falling (limit_of K) counts
  pub full : sum counts ≡ limit_of K

-- The walk through the trie: n steps on from `at`, by the counts of symbols n + 1, n, .., 2.
abbrev pub walk : List ℕ → ℕ → ℕ → ℕ
walk counts at zero = at
walk counts at (suc n) = walk counts (slice_index TRIE (at + slice_index counts (suc (suc n)))) n

-- The rows of K [form.table].
abbrev pub rows_of : ℕ → List (List Pair)
rows_of K = if K == 2 then ROWS_OF_2 else if K == 3 then ROWS_OF_3 else if K == 4 then ROWS_OF_4 else ROWS_OF_5

-- Which of them is that of a sorted request.
abbrev pub row_index : ℕ → List ℕ → ℕ
row_index K counts = walk counts (slice_index TRIE (K - LEAST_SYMBOLS)) (K - 2) + slice_index counts 1

-- Its row: a pair for each read, in the order of a plan.
unfoldable pub row_of : ℕ → List ℕ → List Pair
row_of K counts = slice_index_or (rows_of K) (row_index K counts) []

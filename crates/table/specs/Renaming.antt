-- A plan for other counts, made from a plan that is at hand: symbols are renamed, and pairs are left unused. For every K and every
-- permutation.
use Rattle.std.specs.Prelude.{◌≡◌, List, [], ◌∷◌, ◌++◌, map, ℕ, zero, suc, ◌+◌, ◌*◌, ◌^◌, ◌≤◌, ◌<◌, slice_index}
use Rattle.std.specs.List.{range_with_len}
use Rattle.bits.specs.Bits.{bit}
use Rattle.simplex.specs.Shape.{is_bank}
use Rattle.simplex.specs.Limit.{start}
use Rattle.audit.specs.declared.Pair.{Pair}
use Rattle.audit.specs.Plan.{pair_at, IsPlan}

-- A permutation of the symbols below K.
pub record Permutes (K : ℕ) (to : ℕ → ℕ) : Type 0 where
  pub within : (i : ℕ) → i < K → to i < K
  pub apart : (i j : ℕ) → i < K → j < K → to i ≡ to j → i ≡ j

-- The bank b with its first n symbols renamed: it has symbol i where b has symbol `to i`.
unfoldable pub renamed : (to : ℕ → ℕ) → (n b : ℕ) → ℕ
renamed to zero b = 0
renamed to (suc n) b = renamed to n b + bit b (to n) * 2 ^ n

-- Both banks of a pair so.
abbrev pub renamed_pair : (K : ℕ) → (to : ℕ → ℕ) → Pair → Pair
renamed_pair K to pair = record { a = renamed to K pair.a; b = renamed to K pair.b }

-- Pair j of symbol i, taken from a plan for the counts c in which symbol i has the name `to i`.
abbrev pub taken : (K : ℕ) → (to : ℕ → ℕ) → (c : List ℕ) → List Pair → (i j : ℕ) → Pair
taken K to c pairs i j = renamed_pair K to (pair_at pairs (start c (to i) + j))

-- The pairs f i j, for pair j of symbol i, in the order of a plan. The first count given is that of symbol i.
abbrev pub grouped : (ℕ → ℕ → Pair) → ℕ → List ℕ → List Pair
grouped f i [] = []
grouped f i (c ∷ counts) = map (f i) (range_with_len 0 c) ++ grouped f (suc i) counts

-- From a plan for the counts c, which may use all banks of the group, comes one for all counts that ask no more of each symbol, under any
-- other names of the symbols.
abbrev pub RenamedPlan : Type 0
RenamedPlan =
    (K : ℕ) (to : ℕ → ℕ) (c counts : List ℕ) (pairs : List Pair) → Permutes K to → IsPlan (is_bank K) c pairs
    → ((i : ℕ) → i < K → slice_index counts i ≤ slice_index c (to i)) → ((i : ℕ) → K ≤ i → slice_index counts i ≡ 0)
    → IsPlan (is_bank K) counts (grouped (taken K to c pairs) 0 counts)

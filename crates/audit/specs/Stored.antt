-- Pairs in the arrays of a plan.
use Rattle.std.specs.Prelude.{List, map, ℕ, length, slice_index}
use Rattle.std.specs.List.{range_with_len}
use Rattle.simplex.specs.declared.TheConstants.{MOST_PAIRS}
use Rattle.audit.specs.declared.Pair.{Pair}
use Rattle.audit.specs.declared.Plan.{Plan}
use Rattle.audit.specs.Plan.{pair_at}

-- One bank of each pair, in an array of sixteen that is filled up with 0.
abbrev pub column : (Pair → ℕ) → List Pair → List ℕ
column bank pairs = map (λ n. bank (pair_at pairs n)) (range_with_len 0 MOST_PAIRS)

-- Pairs in two such arrays, and how many they are [plan.places].
abbrev pub stored : List Pair → Plan
stored pairs = record { first = column (λ p. p.a) pairs; second = column (λ p. p.b) pairs; len = length pairs }

-- The pairs of a plan, read from its arrays.
abbrev pub pairs_in : Plan → List Pair
pairs_in plan = map (λ n. record { a = slice_index plan.first n; b = slice_index plan.second n }) (range_with_len 0 plan.len)

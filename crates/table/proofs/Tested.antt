-- The table's test, computed once over all sorted requests of all K: each has a row, and its pairs are a plan.
use mathlib.Core.Bool.{Bool, not, ◌&&◌, ◌||◌}
use mathlib.Core.List.{List}
use Prim.Native.Nat.{ℕ, zero, suc, ◌+◌, ◌-◌}
use lib.Dec.{T, ltb}
use lib.ListN.{length, get_or, drop}
use Rattle.simplex.specs.declared.TheConstants.{LEAST_SYMBOLS, MOST_SYMBOLS}
use Rattle.simplex.specs.Shape.{limit_of, is_bank}
use Rattle.audit.specs.Plan.{is_plan}
use Rattle.audit.specs.Audit.{all_zero}
use Rattle.table.specs.declared.rows.TheConstants.{TRIE}
use Rattle.table.specs.Table.{rows_of, row_of}
use Rattle.table.proofs.Sweep.{below, everywhere}

-- the walk stays within the trie, and its end within the rows
abbrev pub inside : ℕ → List ℕ → ℕ → ℕ → Bool
inside K counts at zero = ltb (at + get_or counts 1 0) (length (rows_of K))
inside K counts at (suc n) =
    ltb (at + get_or counts (suc (suc n)) 0) (length TRIE) && inside K counts (get_or TRIE (at + get_or counts (suc (suc n)) 0) 0) n

unfoldable pub row_fits : ℕ → List ℕ → Bool
row_fits K counts = inside K counts (get_or TRIE (K - LEAST_SYMBOLS) 0) (K - 2) && is_plan (is_bank K) counts (row_of K counts)

abbrev pub test_of : ℕ → Bool
test_of K = everywhere (λ c. not (all_zero (drop K c)) || row_fits K c) MOST_SYMBOLS (limit_of K) (limit_of K)

pub test : T (below (suc MOST_SYMBOLS - LEAST_SYMBOLS) (λ n. test_of (n + LEAST_SYMBOLS)))
unfolding row_fits is_plan row_of
test = tt

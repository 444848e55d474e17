-- The shape of a group: its symbols, its banks, and the most reads that it serves in a cycle.
use Rattle.std.specs.Prelude.{Bool, ◌&&◌, ℕ, ◌-◌, ◌^◌, ◌≤◌, nat_le}
use Rattle.std.specs.Int.Count.{ones}
use Rattle.simplex.specs.declared.Group.{Group}
use Rattle.simplex.specs.declared.TheConstants.{LEAST_SYMBOLS, MOST_SYMBOLS}

-- K, the number of symbols of a group, is within its bounds [shape.ranges].
pub record SymbolsInRange (K : ℕ) : Type 0 where
  pub least : LEAST_SYMBOLS ≤ K
  pub most : K ≤ MOST_SYMBOLS

-- N, the banks of a group: they are numbered from 1 to N [shape.groups].
abbrev pub banks_of : ℕ → ℕ
banks_of K = 2 ^ K - 1

-- Whether b is the number of a bank.
abbrev pub is_bank : (K b : ℕ) → Bool
is_bank K b = nat_le 1 b && nat_le b (banks_of K)

-- The limit: the most reads of a group in a cycle [shape.groups].
abbrev pub limit_of : ℕ → ℕ
limit_of K = 2 ^ (K - 1)

-- The row of K in the fixed table [form.groups].
abbrev pub group_of : ℕ → Group
group_of K = record { banks = banks_of K; limit = limit_of K }

-- The degree of a bank: how many bits of b are set [bank.degree].
abbrev pub degree_of : ℕ → ℕ
degree_of b = ones b

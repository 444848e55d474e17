-- A set of numbers as marks in one word: i is in the set where bit i is 1.
use Rattle.std.specs.Prelude.{◌≡◌, ◌↔◌, Bool, true, false, if◌then◌else◌, ◌==◌, ℕ, zero, suc, ◌+◌, ◌/◌, ◌^◌, ◌≤◌}
use Rattle.bits.specs.Bits.{bit}

-- Whether i is marked.
abbrev pub marked : ℕ → ℕ → Bool
marked set i = bit set i == 1

-- Whether nothing from n on is marked.
abbrev pub none_from : ℕ → ℕ → Bool
none_from set n = set / 2 ^ n == 0

-- How many of the numbers below n pass a test.
abbrev pub how_many : (ℕ → Bool) → ℕ → ℕ
how_many test zero = 0
how_many test (suc n) = how_many test n + (if test n then 1 else 0)

-- none: `none_from`, mark by mark. count: where nothing from n on is marked, counting the marks below a larger number finds no more.
pub record TheMarks : Type 0 where
  pub none : (set n : ℕ) → (none_from set n ≡ true) ↔ ((i : ℕ) → n ≤ i → marked set i ≡ false)
  pub count : (set n w : ℕ) → n ≤ w → none_from set n ≡ true → how_many (marked set) w ≡ how_many (marked set) n

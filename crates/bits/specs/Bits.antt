-- Numbers by their bits.
use Rattle.std.specs.Prelude.{ℕ, ◌/◌, ◌%◌, ◌^◌}

-- Bit i of the number n, bit 0 the lowest.
abbrev pub bit : ℕ → ℕ → ℕ
bit n i = n / 2 ^ i % 2

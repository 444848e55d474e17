-- The symbols that a bank holds, the highest of them, and the bank without that one.
use Rattle.std.specs.Prelude.{Bool, if◌then◌else◌, ℕ, zero, suc, ◌-◌, ◌^◌}
use Rattle.bits.specs.Marks.{marked}

-- Whether bank b holds the symbol: that bit of its number is 1 [bank.content].
abbrev pub has_symbol : (b symbol : ℕ) → Bool
has_symbol b symbol = marked b symbol

-- The last of the numbers below n that pass a test; 0 where none does.
abbrev pub last_of : (ℕ → Bool) → ℕ → ℕ
last_of test zero = 0
last_of test (suc n) = if test n then n else last_of test n

-- The highest symbol of bank b. It is looked for below b, since i < 2^i ≤ b for each symbol i that b holds.
abbrev pub highest_of : ℕ → ℕ
highest_of b = last_of (has_symbol b) b

-- Bank b without its highest symbol.
abbrev pub without_highest : ℕ → ℕ
without_highest b = b - 2 ^ highest_of b

-- Hexadecimal: two characters a byte, 0-9 and a-f, the high digit first.
use Rattle.std.specs.Prelude.{Bool, ◌||◌, if◌then◌else◌, List, [], ◌∷◌, ◌++◌, ℕ, ◌+◌, ◌-◌, ◌*◌, ◌/◌, ◌%◌, nat_le, nat_lt}
use Rattle.refusals.specs.Verdict.{between}

-- The characters 0, 9, a and f.
abbrev pub char0 : ℕ
char0 = 48

abbrev pub char9 : ℕ
char9 = 57

abbrev pub small_a : ℕ
small_a = 97

abbrev pub small_f : ℕ
small_f = 102

-- Whether a character is a digit: 0-9 or a-f [session.hex].
abbrev pub is_digit : ℕ → Bool
is_digit c = between char0 char9 c || between small_a small_f c

-- The value of a digit, and the digit of a value from 0 to 15.
abbrev pub value_of : ℕ → ℕ
value_of c = if nat_le c char9 then c - char0 else c - small_a + 10

abbrev pub digit_of : ℕ → ℕ
digit_of v = if nat_lt v 10 then char0 + v else small_a + (v - 10)

-- The bytes that digits stand for, two digits each.
unfoldable pub bytes_of : List ℕ → List ℕ
bytes_of [] = []
bytes_of (high ∷ []) = []
bytes_of (high ∷ low ∷ digits) = (value_of high * 16 + value_of low) ∷ bytes_of digits

-- The digits of a byte, and of bytes.
abbrev pub byte_digits : ℕ → List ℕ
byte_digits b = digit_of (b / 16) ∷ digit_of (b % 16) ∷ []

unfoldable pub digits_of : List ℕ → List ℕ
digits_of [] = []
digits_of (b ∷ bytes) = byte_digits b ++ digits_of bytes

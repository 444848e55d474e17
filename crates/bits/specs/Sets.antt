-- The set of what passes a test, as marks in one word, and the first number that passes one.
use Rattle.std.specs.Prelude.{◌≡◌, Bool, true, false, if◌then◌else◌, ℕ, zero, suc, ◌+◌, ◌^◌, ◌≤◌, ◌<◌, Option, Some, None}
use Rattle.bits.specs.Marks.{marked}

-- The set of the numbers below n that pass a test.
unfoldable pub set_of : (ℕ → Bool) → ℕ → ℕ
set_of test zero = 0
set_of test (suc n) = set_of test n + (if test n then 2 ^ n else 0)

-- The first number below n that passes a test is r.
pub record FirstIs (test : ℕ → Bool) (n r : ℕ) : Type 0 where
  pub below : r < n
  pub before : (i : ℕ) → i < r → test i ≡ false
  pub itself : test r ≡ true

-- The first number below n that passes a test; none where none does.
abbrev pub First : (test : ℕ → Bool) (n : ℕ) → Option ℕ → Type 0
First test n (Some r) = FirstIs test n r
First test n None = (i : ℕ) → i < n → test i ≡ false

-- inside, past: of the numbers below n those are marked that pass the test, and none from n on. only: no other word below 2^n has these
-- marks.
pub record TheSets : Type 0 where
  pub inside : (test : ℕ → Bool) (n i : ℕ) → i < n → marked (set_of test n) i ≡ test i
  pub past : (test : ℕ → Bool) (n i : ℕ) → n ≤ i → marked (set_of test n) i ≡ false
  pub only : (test : ℕ → Bool) (n set : ℕ) → set < 2 ^ n → ((i : ℕ) → i < n → marked set i ≡ test i)
      → set ≡ set_of test n

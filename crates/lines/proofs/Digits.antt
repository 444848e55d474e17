-- Laws of hexadecimal: of one character, of both ways, of what stands at an index, and of the turns of loops over digits.
use mathlib.Core.Path.{◌≡◌, refl}
use mathlib.Core.Bool.{true, false}
use mathlib.Core.List.{List, [], ◌∷◌, ◌++◌}
use Prim.Native.Nat.{ℕ, zero, suc, ◌+◌, ◌*◌, ◌/◌, ◌%◌, ◌≤◌, ◌<◌}
use native.Mathlib.Nat.{zero-add, div-add-mod'}
use native.Mathlib.Omega.{arith}
use Rattle.std.specs.List.{list_all}
use Rattle.std.specs.Fmt.{digit_glyph}
use Rattle.std.specs.Simd.{first_chunks}
use lib.ListN.{length, get_or, take, set}
use Rattle.std.proofs.lemmas.Bool.Decides.{nat_tests}
use lib.Pow.{are_bytes}
use Rattle.cells.specs.Cell.{put}
use Rattle.cells.proofs.Turns.{put_more}
use Rattle.lines.specs.Hex.{is_digit, value_of, digit_of, bytes_of, byte_digits, digits_of}
use Rattle.lines.specs.Laws.{TheDigits}

-- ---- one character

of_digit : (c : ℕ) → is_digit c ≡ true → (value_of c < 16) × (digit_of (value_of c) ≡ c)
of_digit c e = grind (arith, nat_tests)

of_value : (v : ℕ) → v < 16 → (is_digit (digit_of v) ≡ true) × (value_of (digit_of v) ≡ v)
of_value v l = grind (arith, nat_tests)

-- ---- both ways

pub length_bytes : (digits : List ℕ) → length (bytes_of digits) ≡ length digits / 2
unfolding bytes_of
length_bytes [] = refl
length_bytes (high ∷ []) = refl
length_bytes (high ∷ low ∷ digits) = rw (length_bytes digits) (omega arith)

pub length_digits : (bytes : List ℕ) → length (digits_of bytes) ≡ 2 * length bytes
unfolding digits_of
length_digits [] = refl
length_digits (b ∷ bytes) = rw (length_digits bytes) (omega arith)

first_two : (high low : ℕ) (digits : List ℕ) → list_all is_digit (high ∷ low ∷ digits) ≡ true
    → (is_digit high ≡ true) × (is_digit low ≡ true) × (list_all is_digit digits ≡ true)
first_two high low digits e = grind arith

-- the digits of the byte that two digits stand for
two_digits : (high low : ℕ) → is_digit high ≡ true → is_digit low ≡ true → let b = value_of high * 16 + value_of low in
    (digit_of (b / 16) ≡ high) × (digit_of (b % 16) ≡ low)
two_digits high low h l = grind (arith, of_digit high h, of_digit low l)

written : (digits : List ℕ) → list_all is_digit digits ≡ true → length digits % 2 ≡ 0 → digits_of (bytes_of digits) ≡ digits
unfolding bytes_of digits_of
written [] e h = refl
written (high ∷ []) e h = absurd (omega arith)
written (high ∷ low ∷ digits) e h =
    let f = first_two high low digits e in
    grind (arith, f, two_digits high low f.0 f.1, written digits f.2)

back : (bytes : List ℕ) → are_bytes bytes ≡ true → (list_all is_digit (digits_of bytes) ≡ true) × (bytes_of (digits_of bytes) ≡ bytes)
unfolding bytes_of digits_of
back [] e = (refl, refl)
back (b ∷ bytes) e = grind (arith, nat_tests, of_value (b / 16), of_value (b % 16), back bytes, div-add-mod' b 16)

pub the_digits : TheDigits
unfolding digits_of
the_digits = record { shown = refl; digits = λ bytes e. (back bytes e).0; twice = length_digits; back = λ bytes e. (back bytes e).1; written = written }

-- ---- at an index

-- pair i of digits: both are digits, and byte i is theirs
pub pair_digits : (digits : List ℕ) (n i : ℕ) → i < n → 2 * n ≤ length digits → list_all is_digit digits ≡ true
    → let pair = get_or (first_chunks 2 n digits) i [] in (is_digit (get_or pair 0 0) ≡ true) × (is_digit (get_or pair 1 0) ≡ true)
pair_digits digits zero i l h e = absurd (omega arith)
pair_digits [] (suc n) i l h e = absurd (omega arith)
pair_digits (high ∷ []) (suc n) i l h e = absurd (omega arith)
pair_digits (high ∷ low ∷ digits) (suc n) zero l h e = let t = first_two high low digits e in (t.0, t.1)
pair_digits (high ∷ low ∷ digits) (suc n) (suc i) l h e = pair_digits digits n i (omega arith) (omega arith) (first_two high low digits e).2

pub low_digit : (digits : List ℕ) (n i : ℕ) → i < n → 2 * n ≤ length digits → list_all is_digit digits ≡ true
    → is_digit (get_or (get_or (first_chunks 2 n digits) i []) 1 0) ≡ true
low_digit digits n i l h e = (pair_digits digits n i l h e).1

pub pair_byte : (digits : List ℕ) (n i : ℕ) → i < n → 2 * n ≤ length digits
    → let pair = get_or (first_chunks 2 n digits) i [] in value_of (get_or pair 0 0) * 16 + value_of (get_or pair 1 0) ≡ get_or (bytes_of digits) i 0
unfolding bytes_of
pair_byte digits zero i l h = absurd (omega arith)
pair_byte [] (suc n) i l h = absurd (omega arith)
pair_byte (high ∷ []) (suc n) i l h = absurd (omega arith)
pair_byte (high ∷ low ∷ digits) (suc n) zero l h = refl
pair_byte (high ∷ low ∷ digits) (suc n) (suc i) l h = pair_byte digits n i (omega arith) (omega arith)

-- two of one list for each of the other
next_two : (i : ℕ) → (2 * suc i ≡ suc (suc (2 * i))) × (2 * suc i + 1 ≡ suc (suc (2 * i + 1)))
next_two i = omega arith

pub digit_at : (bytes : List ℕ) (i : ℕ) → i < length bytes
    → (digit_of (get_or bytes i 0 / 16) ≡ get_or (digits_of bytes) (2 * i) 0) × (digit_of (get_or bytes i 0 % 16) ≡ get_or (digits_of bytes) (2 * i + 1) 0)
unfolding digits_of
digit_at [] i h = absurd (omega arith)
digit_at (b ∷ bytes) zero h = (refl, refl)
digit_at (b ∷ bytes) (suc i) h = rw ((next_two i).1, (next_two i).0) (digit_at bytes i (omega arith))

-- the digits of one byte more
pub next_digits : (bytes : List ℕ) (i : ℕ) → i < length bytes → digits_of (take (i + 1) bytes) ≡ digits_of (take i bytes) ++ byte_digits (get_or bytes i 0)
unfolding digits_of
next_digits [] i h = absurd (omega arith)
next_digits (b ∷ bytes) zero h = refl
next_digits (b ∷ bytes) (suc i) h = let e : suc i + 1 ≡ suc (i + 1) = omega arith in rw (e, next_digits bytes i (omega arith))

-- the library's digit is ours
pub glyph_digit : (v : ℕ) → v < 16 → digit_glyph false v ≡ digit_of v
glyph_digit v l = grind (arith, nat_tests)

-- ---- the turns of a loop

-- one that puts byte i of t, and one that puts two
pub put_next : (s t : List ℕ) (i : ℕ) (l : List ℕ) (v : ℕ) → i < length t → l ≡ put s 0 (take i t) → v ≡ get_or t i 0
    → set l i v ≡ put s 0 (take (i + 1) t)
put_next s t i l v h e p = rw (zero-add i) at (put_more s 0 t i l v h e p)

pub put_two : (s t : List ℕ) (i : ℕ) (l : List ℕ) (v w : ℕ) → 2 * i + 1 < length t → l ≡ put s 0 (take (2 * i) t) → v ≡ get_or t (2 * i) 0
    → w ≡ get_or t (2 * i + 1) 0 → set (set l (2 * i) v) (2 * i + 1) w ≡ put s 0 (take (2 * (i + 1)) t)
put_two s t i l v w h e p q =
    let n : 2 * (i + 1) ≡ 2 * i + 1 + 1 = omega arith in
    rw n (put_next s t (2 * i + 1) (set l (2 * i) v) w h (put_next s t (2 * i) l v (omega arith) e p) q)

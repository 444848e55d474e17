-- Laws of the set of what passes a test, and of the first number in a set.
use mathlib.Core.Path.{◌≡◌, refl, sym, ap, ◌∙◌}
use mathlib.Core.Bool.{Bool, true, false, ◌&&◌, ◌||◌, not, cond, false≢true}
use mathlib.Core.Logic.{◌≢◌, ⊎_elim}
use Rattle.std.specs.Prelude.{Option, Some, None}
use Prim.Native.Nat.{ℕ, zero, suc, min, ◌-◌, ◌*◌, ◌/◌, ◌%◌, ◌^◌, ◌≤◌, ◌<◌}
use native.Mathlib.Nat.{div-eq_of_lt, mod-lt, one-mul, zero-mul, eq-or-lt_of_le, le_of_suc-le-suc, div-lt_iff_lt-mul}
use native.Mathlib.Omega.{arith}
use borrow.Author.Tests.{eq-eqb, ne_eqb, eqb-true, ltb-true, ltb-false}
use lib.Bits.{bit_and, bit_or, and_lt, or_lt}
use lib.Dec.{eqb, ltb}
use lib.Pow.{pow_pos, pow_mono}
use Rattle.std.specs.Int.{bit_not, trailing_zeros}
use mir.Syntax.{w64}
use Rattle.std.proofs.lemmas.Nat.Bits.{bit_at_and, bit_at_not, ones_shr, bit_at_ones, bit_at_ones_above, bit_at-trailing_zeros, bit_at_set_same, bit_at_set_other, bit_at_clear_same, bit_at_clear_other}
use Rattle.std.proofs.lemmas.Bool.{cases_eq}
use Rattle.bits.specs.Bits.{bit}
use Rattle.bits.specs.Marks.{marked}
use Rattle.bits.specs.Sets.{set_of, First}
use Rattle.bits.proofs.Digits.{digit, low_lt}
use Rattle.bits.proofs.Bits.{bit_zero, bit_below, bit_top, bits_below, same_bits}
use Rattle.bits.proofs.Marks.{none_marked, marked_none}

-- equal digits are marked alike
alike : {d e : ℕ} → d ≡ e → eqb d 1 ≡ eqb e 1
alike = ap (λ (d : ℕ). eqb d 1)

-- ---- the set of what passes a test

-- a mark as a digit
abbrev one : Bool → ℕ
one t = cond t 1 0

one_lt : (t : Bool) → one t < 2
one_lt true = omega arith
one_lt false = omega arith

one_marks : (t : Bool) → eqb (one t) 1 ≡ t
one_marks true = refl
one_marks false = refl

power : (t : Bool) (n : ℕ) → cond t (2 ^ n) 0 ≡ one t * 2 ^ n
power true n = sym (one-mul (2 ^ n))
power false n = sym (zero-mul (2 ^ n))

pub set_lt : (test : ℕ → Bool) (n : ℕ) → set_of test n < 2 ^ n
unfolding set_of
set_lt test zero = omega arith
set_lt test (suc n) = rw (power (test n) n) (bits_below (set_of test n) (one (test n)) n (set_lt test n) (one_lt (test n)))

pub marked_set : (test : ℕ → Bool) (n i : ℕ) → i < n → marked (set_of test n) i ≡ test i
unfolding set_of
marked_set test zero i l = absurd (omega arith)
marked_set test (suc n) i l =
    rw (power (test n) n)
    (⊎_elim
    (λ (e : i ≡ n). rw e (alike (bit_top (set_of test n) (one (test n)) n (set_lt test n) (one_lt (test n))) ∙ one_marks (test n)))
    (λ (b : i < n). alike (bit_below (set_of test n) (one (test n)) n i b) ∙ marked_set test n i b)
    (eq-or-lt_of_le (le_of_suc-le-suc l)))

-- a word below 2^n marks nothing from n on
pub lt_none : (set n : ℕ) → set < 2 ^ n → (i : ℕ) → n ≤ i → marked set i ≡ false
lt_none set n h = none_marked set n (eq-eqb _ _ (div-eq_of_lt h))

pub marked_past : (test : ℕ → Bool) (n i : ℕ) → n ≤ i → marked (set_of test n) i ≡ false
marked_past test n = lt_none (set_of test n) n (set_lt test n)

pub same_set : (f g : ℕ → Bool) (n : ℕ) → ((i : ℕ) → i < n → f i ≡ g i) → set_of f n ≡ set_of g n
unfolding set_of
same_set f g zero h = refl
same_set f g (suc n) h = rw (same_set f g n (λ i l. h i (omega arith)), h n (omega arith))

-- the first in the set is the first that passes
pub first_passes : (test : ℕ → Bool) (n : ℕ) (r : Option ℕ) → First (marked (set_of test n)) n r → First test n r
first_passes test n (Some r) f = record {
  below = f.below;
  before = λ i l. sym (marked_set test n i (omega (arith, f.below))) ∙ f.before i l;
  itself = sym (marked_set test n r f.below) ∙ f.itself;
}
first_passes test n None f = λ i l. sym (marked_set test n i l) ∙ f i l

-- digits with the same mark are the same
same_digit : (d e : ℕ) → d < 2 → e < 2 → eqb d 1 ≡ eqb e 1 → d ≡ e
same_digit d e hd he =
    digit (λ (d : ℕ). eqb d 1 ≡ eqb e 1 → d ≡ e)
    (digit (λ (e : ℕ). eqb 0 1 ≡ eqb e 1 → 0 ≡ e) (λ _. refl) (λ h. absurd (false≢true h)) e he)
    (digit (λ (e : ℕ). eqb 1 1 ≡ eqb e 1 → 1 ≡ e) (λ h. absurd (false≢true (sym h))) (λ _. refl) e he) d hd

pub only_set : (test : ℕ → Bool) (n set : ℕ) → set < 2 ^ n → ((i : ℕ) → i < n → marked set i ≡ test i) → set ≡ set_of test n
only_set test n set h same =
    same_bits n set (set_of test n) h (set_lt test n)
    (λ i l. same_digit (bit set i) (bit (set_of test n) i) (low_lt (set / 2 ^ i)) (low_lt (set_of test n / 2 ^ i)) (same i l ∙ sym (marked_set test n i l)))

-- a word that marks nothing from n on
pub none_lt : (set n : ℕ) → ((i : ℕ) → n ≤ i → marked set i ≡ false) → set < 2 ^ n
none_lt set n off =
    let none : set / 2 ^ n ≡ 0 = eqb-true (set / 2 ^ n) 0 (marked_none set n off) in
    rw (one-mul (2 ^ n)) at ((div-lt_iff_lt-mul {x = set} {y = 1} (pow_pos n)).0 (omega (arith, none)))

-- ---- as the code computes them, in a word of 64 marks

and_other : (d o : ℕ) → d < 2 → o < 2 → eqb (min d (1 - o)) 1 ≡ (eqb d 1 && not (eqb o 1))
and_other d o hd ho =
    digit (λ (d : ℕ). eqb (min d (1 - o)) 1 ≡ (eqb d 1 && not (eqb o 1)))
    (digit (λ (o : ℕ). eqb (min 0 (1 - o)) 1 ≡ (eqb 0 1 && not (eqb o 1))) refl refl o ho)
    (digit (λ (o : ℕ). eqb (min 1 (1 - o)) 1 ≡ (eqb 1 1 && not (eqb o 1))) refl refl o ho) d hd

pub without_set : (set other : ℕ) → set < 2 ^ 64 → other < 2 ^ 64 → bit_and set (bit_not w64 other) ≡ set_of (λ i. marked set i && not (marked other i)) 64
without_set set other hs ho =
    only_set _ 64 _ (and_lt 64 set (bit_not w64 other) hs (omega arith))
    (λ i l. alike (bit_at_and set (bit_not w64 other) i ∙ ap (min (bit set i)) (bit_at_not w64 other i ho l))
    ∙ and_other (bit set i) (bit other i) (low_lt (set / 2 ^ i)) (low_lt (other / 2 ^ i)))

-- one number put in, one taken out
module _ (set k : ℕ) (h : set < 2 ^ 64) (l : k < 64) where
  pub with_set : bit_or set (1 * 2 ^ k % 2 ^ 64) ≡ set_of (λ i. eqb i k || marked set i) 64
  with_set =
      only_set _ 64 _ (or_lt 64 set (1 * 2 ^ k % 2 ^ 64) h (mod-lt _ (pow_pos 64)))
      (λ i _. ⊎_elim
      (λ (e : i ≡ k). rw (e, eq-eqb k k refl) (alike (bit_at_set_same w64 set k l)))
      (λ n. rw (ne_eqb i k n) (alike (bit_at_set_other w64 set k l i n)))
      (cases_eq i k))

  pub taken_set : bit_and set (bit_not w64 (1 * 2 ^ k % 2 ^ 64)) ≡ set_of (λ i. not (eqb i k) && marked set i) 64
  taken_set =
      only_set _ 64 _ (and_lt 64 set (bit_not w64 (1 * 2 ^ k % 2 ^ 64)) h (omega arith))
      (λ i b. ⊎_elim
      (λ (e : i ≡ k). rw (e, eq-eqb k k refl) (alike (bit_at_clear_same w64 set k l)))
      (λ n. rw (ne_eqb i k n) (alike (bit_at_clear_other w64 set k l i b n)))
      (cases_eq i k))

pub below_set : (n : ℕ) → n ≤ 64 → (2 ^ 64 - 1) / 2 ^ (64 - n) ≡ set_of (λ i. ltb i n) 64
below_set n h =
    let back : 64 - (64 - n) ≡ n = omega arith in
    rw (ones_shr 64 (64 - n) (omega arith), back)
    (only_set (λ i. ltb i n) 64 (2 ^ n - 1) (omega (arith, pow_mono h, pow_pos n)) (λ i l. go i (ltb i n) refl))
  where
    go : (i : ℕ) (t : Bool) → ltb i n ≡ t → marked (2 ^ n - 1) i ≡ t
    go i true e = alike (bit_at_ones n i (ltb-true i n e))
    go i false e = alike (bit_at_ones_above n i (ltb-false i n e))

-- what is not 0 has a mark
pub first_some : (n : ℕ) → n < 2 ^ 64 → n ≢ 0 → First (marked n) 64 (Some (trailing_zeros w64 n))
first_some n h ne =
    let t = bit_at-trailing_zeros w64 n (omega arith) h in
    record { below = t.0; before = λ i l. alike (t.2 i l); itself = alike t.1 }

pub first_none : First (marked 0) 64 None
first_none = λ i l. alike (bit_zero i)

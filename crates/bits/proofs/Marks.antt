-- Laws of marks: none from a number on, and how many they are; and of how many numbers pass any test.
use mathlib.Core.Path.{◌≡◌, refl, sym, ap, ap₂, ◌∙◌}
use mathlib.Core.Logic.{◌≢◌, ⊎_elim}
use mathlib.Core.Bool.{Bool, true, false, not, ◌&&◌, cond, false≢true}
use Prim.Native.Nat.{ℕ, zero, suc, ◌+◌, ◌-◌, ◌*◌, ◌/◌, ◌%◌, ◌^◌, ◌≤◌, ◌<◌}
use native.Mathlib.Nat.{le_refl, one-mul, eq-or-lt_of_le, le_of_suc-le-suc, mod-lt, mod-eq_of_lt, mod-one, add-zero, div-one, pow-suc}
use native.Mathlib.Omega.{arith}
use native.Mathlib.Decide.{le_ind}
use borrow.Author.Tests.{eq-eqb, ne_eqb, eqb-true, eqb-false, ltb-true, ltb-false}
use lib.Count.{ones, ones_cat}
use lib.Dec.{eqb, ltb, lit<}
use lib.Pow.{pow_pos, shl_exact, shr-shr, mod-pow-add}
use Rattle.std.proofs.lemmas.Nat.Bits.{same_from_bits}
use Rattle.bits.specs.Bits.{bit}
use Rattle.bits.specs.Marks.{marked, none_from, how_many}
use Rattle.bits.proofs.Digits.{digit, low_lt}
use Rattle.bits.proofs.Bits.{bit_half, bit_zero}

-- ---- none from a number on

pub bit_shr : (set n i : ℕ) → bit (set / 2 ^ n) i ≡ bit set (n + i)
bit_shr set n i = ap (λ (x : ℕ). x % 2) (shr-shr set n i)

pub none_marked : (set n : ℕ) → none_from set n ≡ true → (i : ℕ) → n ≤ i → marked set i ≡ false
none_marked set n e i l =
    let at : n + (i - n) ≡ i = omega arith in
    let off : bit set i ≡ 0 =
    ap (bit set) (sym at) ∙ sym (bit_shr set n (i - n)) ∙ ap (λ (x : ℕ). bit x (i - n)) (eqb-true (set / 2 ^ n) 0 e) ∙ bit_zero (i - n) in
    ap (λ (d : ℕ). eqb d 1) off

-- what fails from n on passes only below n
pub passes_below : (test : ℕ → Bool) (n : ℕ) → ((i : ℕ) → n ≤ i → test i ≡ false) → (i : ℕ) → test i ≡ true → i < n
passes_below test n off i e = go (ltb i n) refl
  where
    go : (t : Bool) → ltb i n ≡ t → i < n
    go true l = ltb-true i n l
    go false l = absurd (false≢true (sym (off i (ltb-false i n l)) ∙ e))

pub unmarked : (i : ℕ) → marked 0 i ≡ false
unmarked i = ap (λ (d : ℕ). eqb d 1) (bit_zero i)

-- a number whose bits are all 0
no_bits : (n : ℕ) → ((i : ℕ) → bit n i ≡ 0) → n ≡ 0
no_bits n h = same_from_bits n 0 (λ i. h i ∙ sym (bit_zero i))

pub marked_none : (set n : ℕ) → ((i : ℕ) → n ≤ i → marked set i ≡ false) → none_from set n ≡ true
marked_none set n off = eq-eqb _ _ (no_bits (set / 2 ^ n) (λ i. bit_shr set n i ∙ zero_bit (n + i) (off (n + i) (omega arith))))
  where
    zero_bit : (i : ℕ) → marked set i ≡ false → bit set i ≡ 0
    zero_bit i e = let ne = eqb-false (bit set i) 1 e in omega arith

-- ---- how many

pub same_many : (f g : ℕ → Bool) (n : ℕ) → ((i : ℕ) → i < n → f i ≡ g i) → how_many f n ≡ how_many g n
same_many f g zero h = refl
same_many f g (suc n) h = rw (same_many f g n (λ i l. h i (omega arith)), h n (omega arith))

pub one_most : (t : Bool) → cond {A = ℕ} t 1 0 ≤ 1
one_most true = omega arith
one_most false = omega arith

pub many_most : (test : ℕ → Bool) (n : ℕ) → how_many test n ≤ n
many_most test zero = omega arith
many_most test (suc n) = omega (arith, many_most test n, one_most (test n))

pub none_passed : (test : ℕ → Bool) (n : ℕ) → ((i : ℕ) → i < n → test i ≡ false) → how_many test n ≡ 0
none_passed test zero h = refl
none_passed test (suc n) h = rw (none_passed test n (λ i l. h i (omega arith)), h n (omega arith))

-- at most one passes where no two do
pub many_one : (test : ℕ → Bool) (n : ℕ) → ((i j : ℕ) → i < j → j < n → test i ≡ true → test j ≡ true → ⊥) → how_many test n ≤ 1
many_one test zero apart = omega arith
many_one test (suc n) apart = go (test n) refl (many_one test n (λ i j l u. apart i j l (omega arith)))
  where
    none : test n ≡ true → (i : ℕ) → i < n → (t : Bool) → test i ≡ t → test i ≡ false
    none e i l true p = absurd (apart i n l (omega arith) p e)
    none e i l false p = p

    go : (t : Bool) → test n ≡ t → how_many test n ≤ 1 → how_many test n + cond t 1 0 ≤ 1
    go true e few = rw (none_passed test n (λ i l. none e i l (test i) refl)) (omega arith)
    go false e few = omega arith

pub all_pass : (n : ℕ) → how_many (λ (_ : ℕ). true) n ≡ n
all_pass zero = refl
all_pass (suc n) = omega (arith, all_pass n)

-- where the test f passes, g does
module _ (f g : ℕ → Bool) (more : (j : ℕ) → f j ≡ true → g j ≡ true) where
  one_le : (x y : Bool) → (x ≡ true → y ≡ true) → cond {A = ℕ} x 1 0 ≤ cond y 1 0
  one_le true true h = le_refl 1
  one_le true false h = absurd (false≢true (h refl))
  one_le false true h = omega arith
  one_le false false h = le_refl 0

  many_le : (n : ℕ) → how_many f n ≤ how_many g n
  many_le zero = le_refl 0
  many_le (suc n) = omega (arith, many_le n, one_le (f n) (g n) (more n))

  pub many_less : (i n : ℕ) → f i ≡ false → g i ≡ true → i < n → how_many f n < how_many g n
  many_less i n e d =
      le_ind (λ (m : ℕ). how_many f m < how_many g m) (rw (e, d) (omega (arith, many_le i)))
      (λ m h ih. omega (arith, ih, one_le (f m) (g m) (more m))) n

-- counting further finds no more where nothing passes from n on
pub none_more : (test : ℕ → Bool) (n w : ℕ) → n ≤ w → ((i : ℕ) → n ≤ i → test i ≡ false) → how_many test w ≡ how_many test n
none_more test n zero l off = let e : zero ≡ n = omega arith in ap (how_many test) e
none_more test n (suc w) l off =
    ⊎_elim (λ (e : n ≡ suc w). ap (how_many test) (sym e))
    (λ (b : n < suc w). rw (none_more test n w (omega arith) off, off w (omega arith), add-zero (how_many test n)))
    (eq-or-lt_of_le l)

-- one number more passes, and all others as before
pub one_more : (f g : ℕ → Bool) (i n : ℕ) → i < n → f i ≡ false → g i ≡ true → ((j : ℕ) → j ≢ i → g j ≡ f j) → how_many g n ≡ suc (how_many f n)
one_more f g i zero l off on same = absurd (omega arith)
one_more f g i (suc n) l off on same =
    ⊎_elim
    (λ (e : i ≡ n). rw (← e, off, on, same_many g f i (λ j b. same j (λ s. omega arith))) (omega arith))
    (λ (b : i < n). rw (one_more f g i n b off on same, same n (λ s. omega arith)) (omega arith))
    (eq-or-lt_of_le (le_of_suc-le-suc l))

-- what passes g passes f: those that pass g, and those that pass f alone
pub many_without : (f g : ℕ → Bool) (n : ℕ) → ((i : ℕ) → i < n → g i ≡ true → f i ≡ true)
    → how_many (λ i. f i && not (g i)) n + how_many g n ≡ how_many f n
many_without f g zero more = refl
many_without f g (suc n) more =
    omega (arith, many_without f g n (λ i l. more i (omega arith)), parts (f n) (g n) (more n (omega arith)))
  where
    parts : (x y : Bool) → (y ≡ true → x ≡ true) → cond {A = ℕ} (x && not y) 1 0 + cond y 1 0 ≡ cond x 1 0
    parts true true h = refl
    parts true false h = refl
    parts false true h = absurd (false≢true (h refl))
    parts false false h = refl

cond_digit : (d : ℕ) → d < 2 → cond (eqb d 1) 1 0 ≡ d
cond_digit = digit (λ (d : ℕ). cond (eqb d 1) 1 0 ≡ d) refl refl

pub bit_mark : (set i : ℕ) → bit set i ≡ cond (marked set i) 1 0
bit_mark set i = sym (cond_digit (bit set i) (low_lt (set / 2 ^ i)))

ones_digit : (d : ℕ) → d < 2 → ones d ≡ d
unfolding ones
ones_digit = digit (λ (d : ℕ). ones d ≡ d) refl refl

ones_low : (set n : ℕ) → how_many (marked set) n ≡ ones (set % 2 ^ n)
ones_low set zero = sym (ap ones (mod-one set) ∙ ones_digit 0 (omega arith))
ones_low set (suc n) =
    let d : ℕ = bit set n in
    let small : d < 2 = low_lt (set / 2 ^ n) in
    let split : set % 2 ^ (1 + n) ≡ d * 2 ^ n + set % 2 ^ n = mod-pow-add set 1 n in
    let one : 1 + n ≡ suc n = omega arith in
    let parts : ones (d * 2 ^ n + set % 2 ^ n) ≡ ones d + ones (set % 2 ^ n) = ones_cat n d (set % 2 ^ n) (mod-lt set (pow_pos n)) in
    let ih = ones_low set n in
    ap₂ ◌+◌ ih (cond_digit d small ∙ sym (ones_digit d small)) ∙ omega arith ∙ sym parts ∙ sym (ap ones split) ∙ ap (λ (w : ℕ). ones (set % 2 ^ w)) one

pub ones_are : (set n : ℕ) → set < 2 ^ n → ones set ≡ how_many (marked set) n
ones_are set n h = ap ones (sym (mod-eq_of_lt h)) ∙ sym (ones_low set n)

-- ---- as the code computes them

pub one_shl : (i w : ℕ) → i < w → 1 * 2 ^ i % 2 ^ w ≡ 2 ^ i
one_shl i w h = shl_exact 1 i w (lit< tt) (omega arith) ∙ one-mul (2 ^ i)

-- counted from 1 on
pub many_after : (test : ℕ → Bool) (n : ℕ) → how_many test (suc n) ≡ cond (test 0) 1 0 + how_many (λ i. test (suc i)) n
many_after test zero = omega arith
many_after test (suc n) = omega (arith, many_after test n)

-- ---- how many numbers below 2^K have bit i

-- of 0 to 2m - 1 every other one has bit 0; bit i + 1 of 2n and of 2n + 1 is bit i of n
lowest_many : (m : ℕ) → how_many (λ b. marked b 0) (m + m) ≡ m
lowest_many zero = refl
lowest_many (suc m) =
    let twice : suc m + suc m ≡ suc (suc (m + m)) = omega arith in
    let even : marked (m + m) 0 ≡ false = ne_eqb _ _ (λ (e : bit (m + m) 0 ≡ 1). omega (arith, rw (div-one (m + m)) at e)) in
    let odd : marked (suc (m + m)) 0 ≡ true = eq-eqb (bit (suc (m + m)) 0) 1 (rw (div-one (suc (m + m))) (omega arith)) in
    rw (twice, even, odd) (omega (arith, lowest_many m))

higher_many : (i m : ℕ) → how_many (λ b. marked b (suc i)) (m + m) ≡ how_many (λ b. marked b i) m + how_many (λ b. marked b i) m
higher_many i zero = refl
higher_many i (suc m) =
    let twice : suc m + suc m ≡ suc (suc (m + m)) = omega arith in
    let even : bit (m + m) (suc i) ≡ bit m i = bit_half (m + m) i (omega arith) in
    let odd : bit (suc (m + m)) (suc i) ≡ bit m i = bit_half (suc (m + m)) i (omega arith) in
    rw (twice, even, odd) (omega (arith, higher_many i m))

pub bit_many : (K i : ℕ) → i < K → how_many (λ b. marked b i) (2 ^ K) ≡ 2 ^ (K - 1)
bit_many zero i l = absurd (omega arith)
bit_many (suc K) zero l =
    let twice : 2 ^ suc K ≡ 2 ^ K + 2 ^ K = omega (arith, pow-suc 2 K) in
    let less : suc K - 1 ≡ K = omega arith in
    rw (twice, less) (lowest_many (2 ^ K))
bit_many (suc K) (suc i) l =
    let twice : 2 ^ suc K ≡ 2 ^ K + 2 ^ K = omega (arith, pow-suc 2 K) in
    let less : suc K - 1 ≡ K = omega arith in
    let power : 2 ^ K ≡ 2 ^ (K - 1) + 2 ^ (K - 1) = half K (le_of_suc-le-suc l) in
    rw (twice, less) (higher_many i (2 ^ K) ∙ omega (arith, bit_many K i (le_of_suc-le-suc l), power))
  where
    half : (K : ℕ) → i < K → 2 ^ K ≡ 2 ^ (K - 1) + 2 ^ (K - 1)
    half zero l = absurd (omega arith)
    half (suc K) l = let less : suc K - 1 ≡ K = omega arith in rw less (omega (arith, pow-suc 2 K))

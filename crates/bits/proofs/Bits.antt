-- Numbers by their bits: when two numbers differ in one bit, and that numbers with the same bits are equal.
use mathlib.Core.Path.{◌≡◌, refl, sym, ap, ap₂, ◌∙◌}
use mathlib.Core.Logic.{◌≢◌}
use Prim.Native.Nat.{ℕ, zero, suc, ◌+◌, ◌*◌, ◌/◌, ◌%◌, ◌^◌, ◌<◌}
use native.Mathlib.Nat.{add_comm, mod-eq_of_lt, pow-suc}
use native.Mathlib.Omega.{arith}
use lib.Arith.{digits_lt}
use lib.Bits.{bit_xor, xor_assoc, xor_zero_r, xor_self}
use lib.Pow.{high}
use Rattle.std.proofs.lemmas.Nat.Bits.{bit_at-suc, bit_at-zero, bit_at_cat_low, same_from_bits_below}
use Rattle.bits.proofs.Digits.{xor_half, xor_low}
use Rattle.bits.specs.Bits.{bit}

-- h is the half of b
pub bit_half : (b i : ℕ) {h : ℕ} → b / 2 ≡ h → bit b (suc i) ≡ bit h i
bit_half b i e = bit_at-suc b i ∙ ap (λ (n : ℕ). bit n i) e

pub bit_zero : (i : ℕ) → bit 0 i ≡ 0
bit_zero = bit_at-zero

-- so n has no bit from n on
pub below_power : (n : ℕ) → n < 2 ^ n
below_power zero = omega arith
below_power (suc n) = omega (arith, below_power n, pow-suc 2 n)

-- two numbers of K bits, all of them the same
pub same_bits : (K a b : ℕ) → a < 2 ^ K → b < 2 ^ K → ((i : ℕ) → i < K → bit a i ≡ bit b i) → a ≡ b
same_bits = same_from_bits_below

-- ---- one more bit, d, above the n bits of x

pub bit_below : (x d n i : ℕ) → i < n → bit (x + d * 2 ^ n) i ≡ bit x i
bit_below x d n i h = ap (λ (m : ℕ). bit m i) (add_comm x (d * 2 ^ n)) ∙ bit_at_cat_low d n x i h

pub bit_top : (x d n : ℕ) → x < 2 ^ n → d < 2 → bit (x + d * 2 ^ n) n ≡ d
bit_top x d n hx hd = ap (λ (m : ℕ). m / 2 ^ n % 2) (add_comm x (d * 2 ^ n)) ∙ ap (λ (m : ℕ). m % 2) (high d n hx) ∙ mod-eq_of_lt hd

pub bits_below : (x d n : ℕ) → x < 2 ^ n → d < 2 → x + d * 2 ^ n < 2 ^ suc n
bits_below x d n hx hd = let l : d * 2 ^ n + x < 2 * 2 ^ n = digits_lt hd hx in omega (arith, pow-suc 2 n)

-- ---- 2^p added to a number whose bit p is 0

pub bit_added : (b p : ℕ) → bit b p ≡ 0 → bit (b + 2 ^ p) p ≡ 1
bit_added b zero e = omega arith
bit_added b (suc p) e =
    bit_half (b + 2 ^ suc p) p (omega (arith, pow-suc 2 p)) ∙ bit_added (b / 2) p (sym (bit_half b p refl) ∙ e)

pub bit_other : (b p q : ℕ) → bit b p ≡ 0 → q ≢ p → bit (b + 2 ^ p) q ≡ bit b q
bit_other b zero zero e n = absurd (n refl)
bit_other b zero (suc q) e n = bit_half (b + 1) q (omega arith) ∙ sym (bit_half b q refl)
bit_other b (suc p) zero e n = omega (arith, pow-suc 2 p)
bit_other b (suc p) (suc q) e n =
    bit_half (b + 2 ^ suc p) q (omega (arith, pow-suc 2 p))
    ∙ bit_other (b / 2) p q (sym (bit_half b p refl) ∙ e) (λ s. n (ap suc s)) ∙ sym (bit_half b q refl)

-- ---- the XOR of two numbers is 2^p: they differ in bit p alone

equal_xor : (a b : ℕ) → a ≡ b → bit_xor a b ≡ 0
equal_xor a b e = ap (λ (n : ℕ). bit_xor n b) e ∙ xor_self b

xor_equal : (a b : ℕ) → bit_xor a b ≡ 0 → a ≡ b
xor_equal a b e = sym (xor_zero_r a) ∙ ap (bit_xor a) (sym e) ∙ sym (xor_assoc a a b) ∙ ap (λ (n : ℕ). bit_xor n b) (xor_self a)

pub added_xor : (a b p : ℕ) → a ≡ b + 2 ^ p → bit b p ≡ 0 → bit_xor a b ≡ 2 ^ p
added_xor a b zero e z =
    let odd : a % 2 ≡ 1 = omega arith in
    let even : b % 2 ≡ 0 = omega arith in
    omega (arith, xor_half a b ∙ equal_xor (a / 2) (b / 2) (omega arith), xor_low a b ∙ ap₂ bit_xor odd even)
added_xor a b (suc p) e z =
    omega (
      arith,
      pow-suc 2 p,
      xor_half a b ∙ added_xor (a / 2) (b / 2) p (omega (arith, pow-suc 2 p)) (sym (bit_half b p refl) ∙ z),
      xor_low a b ∙ equal_xor (a % 2) (b % 2) (omega (arith, pow-suc 2 p)),
    )

pub xor_added : (a b p : ℕ) → b < a → bit_xor a b ≡ 2 ^ p → (a ≡ b + 2 ^ p) × (bit b p ≡ 0)
xor_added a b zero l e =
    let half : a / 2 ≡ b / 2 = xor_equal (a / 2) (b / 2) (omega (arith, xor_half a b)) in (omega arith, omega arith)
xor_added a b (suc p) l e =
    let half : bit_xor (a / 2) (b / 2) ≡ 2 ^ p = omega (arith, xor_half a b, pow-suc 2 p) in
    let low : a % 2 ≡ b % 2 = xor_equal (a % 2) (b % 2) (omega (arith, xor_low a b, pow-suc 2 p)) in
    let ih = xor_added (a / 2) (b / 2) p (omega arith) half in
    (omega (arith, pow-suc 2 p, ih.0), bit_half b p refl ∙ ih.1)

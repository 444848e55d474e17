-- Binary digits, and XOR of numbers: its digits, and that what stands on both sides cancels.
use mathlib.Core.Path.{◌≡◌, sym, ap, ◌∙◌}
use Prim.Native.Nat.{ℕ, zero, suc, ◌/◌, ◌%◌, ◌<◌}
use native.Mathlib.Nat.{mod-lt, le_of_suc-le-suc, not-suc-le-zero}
use lib.Bits.{bit_xor, xor_shr, xor_mod, xor_assoc, xor_comm, xor_self}
use lib.Dec.{lit<}

-- what holds of 0 and of 1 holds of every binary digit
pub digit : (F : ℕ → Type 0) → F 0 → F 1 → (x : ℕ) → x < 2 → F x
digit F f0 f1 zero h = f0
digit F f0 f1 (suc zero) h = f1
digit F f0 f1 (suc (suc x)) h = absurd (not-suc-le-zero (le_of_suc-le-suc (le_of_suc-le-suc h)))

pub low_lt : (n : ℕ) → n % 2 < 2
low_lt n = mod-lt n (lit< tt)

pub xor_half : (a b : ℕ) → bit_xor a b / 2 ≡ bit_xor (a / 2) (b / 2)
xor_half a b = xor_shr a b 1

pub xor_low : (a b : ℕ) → bit_xor a b % 2 ≡ bit_xor (a % 2) (b % 2)
xor_low a b = xor_mod a b 1

pub xor_cancel : (p u v : ℕ) → bit_xor (bit_xor p u) (bit_xor p v) ≡ bit_xor u v
xor_cancel p u v =
    ap (λ (x : ℕ). bit_xor x (bit_xor p v)) (xor_comm p u) ∙ xor_assoc u p (bit_xor p v)
    ∙ ap (bit_xor u) (sym (xor_assoc p p v) ∙ ap (λ (x : ℕ). bit_xor x v) (xor_self p))

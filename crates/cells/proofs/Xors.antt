-- Laws of XOR on lists of bytes.
use mathlib.Core.Path.{◌≡◌, refl, sym, ap, ap₂, ◌∙◌}
use mathlib.Core.List.{List, [], ◌∷◌}
use Prim.Native.Nat.{ℕ, zero, suc, ◌≤◌}
use native.Mathlib.Nat.{le_of_eq, suc_inj, suc-ne-zero, le_of_suc-le-suc, not-suc-le-zero}
use lib.Bits.{bit_xor, xor_assoc, xor_comm, xor_zero_r}
use lib.ListN.{length, get_or, replicate, length-replicate}
use Rattle.cells.specs.Xor.{xor_bytes, zeros}
use Rattle.bits.proofs.Digits.{xor_cancel}

pub assoc : (p q r : List ℕ) → xor_bytes (xor_bytes p q) r ≡ xor_bytes p (xor_bytes q r)
assoc [] q r = refl
assoc (x ∷ p) [] r = refl
assoc (x ∷ p) (y ∷ q) [] = refl
assoc (x ∷ p) (y ∷ q) (z ∷ r) = ap₂ {C = List ℕ} (λ a t. a ∷ t) (xor_assoc x y z) (assoc p q r)

pub comm : (p q : List ℕ) → xor_bytes p q ≡ xor_bytes q p
comm [] [] = refl
comm [] (y ∷ q) = refl
comm (x ∷ p) [] = refl
comm (x ∷ p) (y ∷ q) = ap₂ {C = List ℕ} (λ a t. a ∷ t) (xor_comm x y) (comm p q)

pub left_comm : (p q r : List ℕ) → xor_bytes p (xor_bytes q r) ≡ xor_bytes q (xor_bytes p r)
left_comm p q r = sym (assoc p q r) ∙ ap (λ (x : List ℕ). xor_bytes x r) (comm p q) ∙ assoc q p r

-- what stands on both sides cancels, as far as it reaches
pub cancel : (p u v : List ℕ) → length u ≤ length p → xor_bytes (xor_bytes p u) (xor_bytes p v) ≡ xor_bytes u v
cancel [] [] v h = refl
cancel [] (y ∷ u) v h = absurd (not-suc-le-zero h)
cancel (x ∷ p) [] v h = refl
cancel (x ∷ p) (y ∷ u) [] h = refl
cancel (x ∷ p) (y ∷ u) (z ∷ v) h = ap₂ {C = List ℕ} (λ a t. a ∷ t) (xor_cancel x y z) (cancel p u v (le_of_suc-le-suc h))

pub zeros_right : (p : List ℕ) → xor_bytes p (zeros (length p)) ≡ p
zeros_right [] = refl
zeros_right (x ∷ p) = ap₂ {C = List ℕ} (λ a t. a ∷ t) (xor_zero_r x) (zeros_right p)

-- what is XORed in twice is gone
pub xor_back : (p q : List ℕ) → length p ≡ length q → xor_bytes p (xor_bytes p q) ≡ q
xor_back p q e =
    ap (λ (x : List ℕ). xor_bytes x (xor_bytes p q)) (sym (zeros_right p))
    ∙ cancel p (zeros (length p)) q (le_of_eq (length-replicate (length p) 0))
    ∙ comm (zeros (length p)) q
    ∙ ap (λ (n : ℕ). xor_bytes q (zeros n)) e
    ∙ zeros_right q

pub same_bytes : (p x y : ℕ) → xor_bytes (replicate p x) (replicate p y) ≡ replicate p (bit_xor x y)
same_bytes zero x y = refl
same_bytes (suc p) x y = ap {B = List ℕ} (λ t. bit_xor x y ∷ t) (same_bytes p x y)

pub length_xor : (p q : List ℕ) → length p ≡ length q → length (xor_bytes p q) ≡ length p
length_xor [] q e = refl
length_xor (x ∷ p) [] e = sym e
length_xor (x ∷ p) (y ∷ q) e = ap suc (length_xor p q (suc_inj e))

pub get_or_xor : (p q : List ℕ) (j : ℕ) → length p ≡ length q → get_or (xor_bytes p q) j 0 ≡ bit_xor (get_or p j 0) (get_or q j 0)
get_or_xor [] [] j e = refl
get_or_xor [] (y ∷ q) j e = absurd (suc-ne-zero (length q) (sym e))
get_or_xor (x ∷ p) [] j e = absurd (suc-ne-zero (length p) e)
get_or_xor (x ∷ p) (y ∷ q) zero e = refl
get_or_xor (x ∷ p) (y ∷ q) (suc j) e = get_or_xor p q j (suc_inj e)

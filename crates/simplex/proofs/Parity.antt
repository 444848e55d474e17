-- The parity of a bank's degree: it is what the bank holds where every byte is 1, and half of the numbers have it odd.
use mathlib.Core.Path.{◌≡◌, refl, sym, ap, ◌∙◌}
use mathlib.Core.List.{List, []}
use Prim.Native.Nat.{ℕ, zero, suc, ◌+◌, ◌-◌, ◌*◌, ◌/◌, ◌%◌, ◌^◌, ◌≤◌, ◌<◌}
use native.Mathlib.Nat.{pow-suc}
use native.Mathlib.Omega.{arith}
use lib.Arith.{lt-one}
use lib.Bits.{bit_xor}
use lib.Count.{ones, ones_step}
use lib.Dec.{lit<}
use lib.Pow.{pow_pos}
use lib.ListN.{get_or, replicate, length-replicate}
use Rattle.bits.proofs.Digits.{digit, low_lt}
use Rattle.cells.proofs.Xors.{same_bytes}
use Rattle.simplex.specs.Shape.{banks_of, limit_of, degree_of}
use Rattle.simplex.specs.Code.{Packet, Sized, Content, bank_cell}
use Rattle.simplex.specs.Laws.{odd_banks}
use Rattle.simplex.proofs.Banks.{xor_if, cell_cons}

-- the content whose every byte is 1
abbrev pub all_ones : (K P : ℕ) → List Packet
all_ones K P = replicate K (replicate P 1)

pub all_ones_content : (K P : ℕ) → Content K P (all_ones K P)
all_ones_content K P = record { count = length-replicate K (replicate P 1); sized = sized K; bytes = bytes K }
  where
    sized : (K : ℕ) → Sized P (all_ones K P)
    sized zero = tt
    sized (suc K) = (length-replicate P 1, sized K)

    byte : (p j : ℕ) → get_or (replicate p 1) j 0 < 256
    byte zero j = lit< tt
    byte (suc p) zero = lit< tt
    byte (suc p) (suc j) = byte p j

    bytes : (K i j : ℕ) → get_or (get_or (all_ones K P) i []) j 0 < 256
    bytes zero i j = lit< tt
    bytes (suc K) zero j = byte P j
    bytes (suc K) (suc i) j = bytes K i j

xor_if_ones : (P d x : ℕ) → d < 2 → xor_if d (replicate P 1) (replicate P (x % 2)) ≡ replicate P ((d + x) % 2)
xor_if_ones P d x h =
    digit (λ (d : ℕ). xor_if d (replicate P 1) (replicate P (x % 2)) ≡ replicate P ((d + x) % 2))
    (ap (replicate P) (omega arith)) (same_bytes P 1 (x % 2) ∙ ap (replicate P) (flip (x % 2) (low_lt x) refl)) d h
  where
    flip : (y : ℕ) → y < 2 → x % 2 ≡ y → bit_xor 1 y ≡ (1 + x) % 2
    flip = digit (λ (y : ℕ). x % 2 ≡ y → bit_xor 1 y ≡ (1 + x) % 2) (λ e. omega arith) (λ e. omega arith)

-- there a bank of the group holds the parity of its degree
pub cell_parity : (K P b : ℕ) → b < 2 ^ K → bank_cell P (all_ones K P) b ≡ replicate P (degree_of b % 2)
unfolding ones
cell_parity zero P b h = ap (λ (n : ℕ). replicate P (degree_of n % 2)) (sym (lt-one h))
cell_parity (suc K) P b h =
    cell_cons P (replicate P 1) (all_ones K P) b
    ∙ ap (xor_if (b % 2) (replicate P 1)) (cell_parity K P (b / 2) (omega (arith, pow-suc 2 K)))
    ∙ xor_if_ones P (b % 2) (degree_of (b / 2)) (low_lt b)
    ∙ ap (λ (n : ℕ). replicate P (n % 2)) (sym (ones_step b))

-- a number of odd degree is known from its half
pub odd_half : (a b : ℕ) → degree_of a % 2 ≡ 1 → degree_of b % 2 ≡ 1 → a / 2 ≡ b / 2 → a ≡ b
odd_half a b oa ob e = omega (arith, ones_step a, ones_step b, ap degree_of e)

-- ---- how many are odd: one of 2 n and 2 n + 1

last_digit : (n d : ℕ) → d < 2 → degree_of (n * 2 + d) ≡ degree_of n + d
last_digit n d h =
    let low : (n * 2 + d) % 2 ≡ d = omega arith in
    let half : (n * 2 + d) / 2 ≡ n = omega arith in
    omega (arith, ones_step (n * 2 + d), ap degree_of half)

odd_pairs : (n : ℕ) → odd_banks (suc (n * 2)) ≡ suc n
unfolding ones
odd_pairs zero = refl
odd_pairs (suc n) =
    let even : suc (suc (n * 2)) ≡ suc n * 2 + 0 = omega arith in
    let odd : suc (suc (suc (n * 2))) ≡ suc n * 2 + 1 = omega arith in
    let twice : suc (suc n * 2) ≡ suc (suc (suc (n * 2))) = omega arith in
    let ih : odd_banks (suc (n * 2)) ≡ suc n = odd_pairs n in
    ap odd_banks twice
    ∙ omega (arith, last_digit (suc n) 0 (lit< tt), last_digit (suc n) 1 (lit< tt), ap degree_of even, ap degree_of odd)

pub pow_less : (k : ℕ) → 2 ^ (suc k - 1) ≡ 2 ^ k
pow_less k = let less : suc k - 1 ≡ k = omega arith in ap (λ (m : ℕ). 2 ^ m) less

pub odd_banks_lem : (K : ℕ) → 1 ≤ K → odd_banks (banks_of K) ≡ limit_of K
odd_banks_lem zero h = absurd (omega arith)
odd_banks_lem (suc k) h =
    let n : banks_of (suc k) ≡ suc ((2 ^ k - 1) * 2) = omega (arith, pow-suc 2 k, pow_pos k) in
    ap odd_banks n ∙ odd_pairs (2 ^ k - 1) ∙ omega (arith, pow_pos k, pow_less k)

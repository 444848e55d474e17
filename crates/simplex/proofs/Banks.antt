-- What a bank holds is linear in its number: the cells of a and b XOR to the cell of a XOR b. So banks decode by their numbers.
use mathlib.Core.Path.{◌≡◌, refl, sym, ap, ap₂, ◌∙◌, subst}
use mathlib.Core.List.{List, [], ◌∷◌}
use Prim.Native.Nat.{ℕ, zero, suc, ◌/◌, ◌%◌, ◌^◌, ◌≤◌, ◌<◌}
use native.Mathlib.Nat.{le_of_suc-le-suc, le_of_eq, div-one, not-suc-le-zero, pow-suc}
use native.Mathlib.Omega.{arith}
use lib.Bits.{bit_xor}
use lib.ListN.{length, get_or, length-replicate}
use Rattle.std.proofs.lemmas.List.{get_or_default}
use Rattle.cells.specs.Xor.{xor_bytes, zeros, xor_all}
use Rattle.bits.proofs.Digits.{digit, low_lt, xor_half, xor_low}
use Rattle.cells.proofs.Xors.{assoc, left_comm, cancel, zeros_right, same_bytes, length_xor}
use Rattle.bits.specs.Bits.{bit}
use Rattle.bits.proofs.Bits.{bit_half}
use Rattle.simplex.specs.Code.{Packet, Sized, Content, keep_if, chosen, bank_cell, Banks, xor_of_banks, xor_of_numbers, Yields}

pub sized_at : (P : ℕ) (packets : List Packet) (i : ℕ) → i < length packets → Sized P packets → length (get_or packets i []) ≡ P
sized_at P [] i l h = absurd (not-suc-le-zero l)
sized_at P (p ∷ packets) zero l h = h.0
sized_at P (p ∷ packets) (suc i) l h = sized_at P packets i (le_of_suc-le-suc l) h.1

-- ---- the first packet goes by the lowest bit of b, and the others by b / 2

chosen_half : (b i : ℕ) (packets : List Packet) → chosen b (suc i) packets ≡ chosen (b / 2) i packets
chosen_half b i [] = refl
chosen_half b i (p ∷ packets) = ap₂ (λ (d : ℕ) (ps : List Packet). keep_if d p ps) (bit_half b i refl) (chosen_half b (suc i) packets)

-- p XOR r where the digit is 1, else r
abbrev pub xor_if : ℕ → Packet → Packet → Packet
xor_if zero p r = r
xor_if (suc d) p r = xor_bytes p r

keep_xor : (P d : ℕ) (p : Packet) (packets : List Packet) → xor_all P (keep_if d p packets) ≡ xor_if d p (xor_all P packets)
keep_xor P zero p packets = refl
keep_xor P (suc d) p packets = refl

pub cell_cons : (P : ℕ) (p : Packet) (packets : List Packet) (b : ℕ) → bank_cell P (p ∷ packets) b ≡ xor_if (b % 2) p (bank_cell P packets (b / 2))
cell_cons P p packets b =
    keep_xor P (bit b 0) p (chosen b 1 packets)
    ∙ ap₂ (λ (d : ℕ) (r : List Packet). xor_if d p (xor_all P r)) (ap (λ (n : ℕ). n % 2) (div-one b)) (chosen_half b 0 packets)

length_xor_if : (d : ℕ) (p q : Packet) → length p ≡ length q → length (xor_if d p q) ≡ length q
length_xor_if zero p q e = refl
length_xor_if (suc d) p q e = length_xor p q e ∙ e

pub length_bank : (P : ℕ) (packets : List Packet) (b : ℕ) → Sized P packets → length (bank_cell P packets b) ≡ P
length_bank P [] b h = length-replicate P 0
length_bank P (p ∷ packets) b h =
    let ih = length_bank P packets (b / 2) h.1 in
    ap length (cell_cons P p packets b) ∙ length_xor_if (b % 2) p (bank_cell P packets (b / 2)) (h.0 ∙ sym ih) ∙ ih

-- ---- linear

xor_if_xor_if : (p u v : Packet) → length u ≤ length p → (x y : ℕ) → x < 2 → y < 2
    → xor_bytes (xor_if x p u) (xor_if y p v) ≡ xor_if (bit_xor x y) p (xor_bytes u v)
xor_if_xor_if p u v l x y hx hy =
    digit (λ (x : ℕ). xor_bytes (xor_if x p u) (xor_if y p v) ≡ xor_if (bit_xor x y) p (xor_bytes u v))
    (digit (λ (y : ℕ). xor_bytes u (xor_if y p v) ≡ xor_if y p (xor_bytes u v)) refl (left_comm u p v) y hy)
    (digit (λ (y : ℕ). xor_bytes (xor_bytes p u) (xor_if y p v) ≡ xor_if (bit_xor 1 y) p (xor_bytes u v)) (assoc p u v) (cancel p u v l) y hy)
    x hx

pub linear : (P : ℕ) (packets : List Packet) (a b : ℕ) → Sized P packets
    → xor_bytes (bank_cell P packets a) (bank_cell P packets b) ≡ bank_cell P packets (bit_xor a b)
linear P [] a b h = same_bytes P 0 0
linear P (p ∷ packets) a b h =
    ap₂ xor_bytes (cell_cons P p packets a) (cell_cons P p packets b)
    ∙ xor_if_xor_if p (bank_cell P packets (a / 2)) (bank_cell P packets (b / 2))
    (le_of_eq (length_bank P packets (a / 2) h.1 ∙ sym h.0)) (a % 2) (b % 2) (low_lt a) (low_lt b)
    ∙ ap₂ (λ (d : ℕ) (c : Packet). xor_if d p c) (sym (xor_low a b))
    (linear P packets (a / 2) (b / 2) h.1 ∙ ap (bank_cell P packets) (sym (xor_half a b)))
    ∙ sym (cell_cons P p packets (bit_xor a b))

-- a bank 0 would hold zeros: it stands for no bank
cell_zero : (P : ℕ) (packets : List Packet) → bank_cell P packets 0 ≡ zeros P
cell_zero P [] = refl
cell_zero P (p ∷ packets) = cell_cons P p packets 0 ∙ cell_zero P packets

-- a systematic bank holds its packet, and zeros where there is none
pub cell_power : (P : ℕ) (packets : List Packet) (i : ℕ) → Sized P packets → bank_cell P packets (2 ^ i) ≡ get_or packets i (zeros P)
cell_power P [] i h = refl
cell_power P (p ∷ packets) zero h =
    cell_cons P p packets 1 ∙ ap (xor_bytes p) (cell_zero P packets ∙ ap zeros (sym h.0)) ∙ zeros_right p
cell_power P (p ∷ packets) (suc i) h =
    let low : 2 ^ suc i % 2 ≡ 0 = omega (arith, pow-suc 2 i) in
    let half : 2 ^ suc i / 2 ≡ 2 ^ i = omega (arith, pow-suc 2 i) in
    cell_cons P p packets (2 ^ suc i) ∙ ap₂ (λ (d n : ℕ). xor_if d p (bank_cell P packets n)) low half
    ∙ cell_power P packets i h.1

pub cell_one : (P : ℕ) (packets : List Packet) (i : ℕ) → i < length packets → Sized P packets → bank_cell P packets (2 ^ i) ≡ get_or packets i []
cell_one P packets i l h = cell_power P packets i h ∙ get_or_default packets i (zeros P) [] l

-- ---- decoding

module _ (K P : ℕ) (packets : List Packet) (c : Content K P packets) where
  pub alone : (i : ℕ) → i < K → bank_cell P packets (2 ^ i) ≡ get_or packets i []
  alone i l = cell_one P packets i (subst (λ (n : ℕ). i < n) (sym c.count) l) c.sized

  pub two : (i a b : ℕ) → i < K → bit_xor a b ≡ 2 ^ i → xor_bytes (bank_cell P packets a) (bank_cell P packets b) ≡ get_or packets i []
  two i a b l e = linear P packets a b c.sized ∙ ap (bank_cell P packets) e ∙ alone i l

pub set_linear : (P : ℕ) (packets : List Packet) (banks : Banks) → Sized P packets → xor_of_banks P packets banks ≡ bank_cell P packets (xor_of_numbers banks)
set_linear P packets [] h = sym (cell_zero P packets)
set_linear P packets (b ∷ banks) h =
    ap (xor_bytes (bank_cell P packets b)) (set_linear P packets banks h) ∙ linear P packets b (xor_of_numbers banks) h

-- a set of banks whose numbers XOR to 2^i yields symbol i
pub yields : (K P : ℕ) (banks : Banks) (i : ℕ) → i < K → xor_of_numbers banks ≡ 2 ^ i → Yields K P banks i
yields K P banks i l e packets c = set_linear P packets banks c.sized ∙ ap (bank_cell P packets) e ∙ alone K P packets c i l

-- Running XOR gives the code's banks: a bank is the XOR of its highest symbol's packet and the bank of its other symbols.
use mathlib.Core.Path.{◌≡◌, refl, sym, ap, ◌∙◌}
use mathlib.Core.Logic.{◌≢◌, ◌⊎◌, inl, inr, ⊎_elim}
use mathlib.Core.Bool.{Bool, true, false}
use mathlib.Core.List.{List, []}
use Prim.Native.Nat.{ℕ, zero, suc, ◌+◌, ◌-◌, ◌*◌, ◌^◌, ◌≤◌, ◌<◌}
use native.Mathlib.Decide.{ℕ_discrete}
use native.Mathlib.Nat.{le_refl, one-mul, eq-or-lt_of_le, le_of_suc-le-suc, lt_of_not-le, pow-suc}
use native.Mathlib.Omega.{arith}
use borrow.Author.Tests.{eq-eqb}
use lib.Bits.{bit_xor, xor_shifted, xor_comm}
use lib.Count.{ones_cat, ones-ones}
use lib.Dec.{eqb}
use lib.ListN.{length, get_or}
use lib.Pow.{pow_pos, pow_mono}
use Rattle.std.proofs.lemmas.List.{get_or_default}
use Rattle.std.proofs.lemmas.Nat.{leading_top, ones_le_self, zero_from_ones}
use Rattle.std.proofs.lemmas.Nat.Bits.{bit_at_above}
use Rattle.bits.specs.Bits.{bit}
use Rattle.bits.proofs.Bits.{below_power, bit_top, bit_other}
use Rattle.bits.proofs.Sets.{lt_none}
use Rattle.cells.specs.Xor.{xor_bytes, zeros}
use Rattle.simplex.specs.Shape.{banks_of, degree_of}
use Rattle.simplex.specs.Symbols.{has_symbol, last_of, highest_of, without_highest}
use Rattle.simplex.specs.Code.{Packet, Sized, bank_cell}
use Rattle.simplex.proofs.Banks.{linear, cell_power}

-- ---- the highest symbol

last_is : (test : ℕ → Bool) (h n : ℕ) → h < n → test h ≡ true → ((i : ℕ) → h < i → test i ≡ false) → last_of test n ≡ h
last_is test h zero l on off = absurd (omega arith)
last_is test h (suc n) l on off =
    ⊎_elim (λ (e : h ≡ n). rw (← e, on) refl) (λ (b : h < n). rw (off n b) (last_is test h n b on off)) (eq-or-lt_of_le (le_of_suc-le-suc l))

-- h is the highest symbol of b where 2^h ≤ b < 2 * 2^h
module _ (b h : ℕ) (low : 2 ^ h ≤ b) (high : b < 2 * 2 ^ h) where
  held : has_symbol b h ≡ true
  held =
      let parts : b - 2 ^ h + 1 * 2 ^ h ≡ b = omega (arith, one-mul (2 ^ h)) in
      eq-eqb _ _ (ap (λ (n : ℕ). bit n h) (sym parts) ∙ bit_top (b - 2 ^ h) 1 h (omega arith) (omega arith))

  none_above : (i : ℕ) → h < i → has_symbol b i ≡ false
  none_above = lt_none b (suc h) (omega (arith, pow-suc 2 h))

  pub highest_is : h ≡ highest_of b
  highest_is = sym (last_is (has_symbol b) h b (omega (arith, below_power h)) held none_above)

-- each bank has a highest symbol, so within these bounds
bounds : (b : ℕ) → 1 ≤ b → (2 ^ highest_of b ≤ b) × (b < 2 * 2 ^ highest_of b)
bounds b some =
    let top = leading_top b b some (below_power b) in
    let high : b < 2 * 2 ^ top.0 = omega (arith, top.3, pow-suc 2 top.0) in
    rw (← highest_is b top.0 top.2 high) (top.2, high)

pub highest_held : (b : ℕ) → 1 ≤ b → (has_symbol b (highest_of b) ≡ true) × ((i : ℕ) → highest_of b < i → has_symbol b i ≡ false)
highest_held b some =
    let bounds = bounds b some in (held b (highest_of b) bounds.0 bounds.1, none_above b (highest_of b) bounds.0 bounds.1)

module _ (b : ℕ) (some : 1 ≤ b) where
  rest_below : without_highest b < 2 ^ highest_of b
  rest_below = omega (arith, bounds b some)

  -- the bank is its highest symbol's systematic bank and the rest
  pub rest_more : 2 ^ highest_of b + without_highest b ≡ b
  rest_more = omega (arith, bounds b some)

  degree_more : degree_of b ≡ suc (degree_of (without_highest b))
  degree_more =
      let parts : 1 * 2 ^ highest_of b + without_highest b ≡ b = omega (arith, one-mul (2 ^ highest_of b), rest_more) in
      omega (arith, ap degree_of parts, ones_cat (highest_of b) 1 (without_highest b) rest_below, ones-ones 1)

  -- its highest symbol is one of the group
  pub symbol_below : (K : ℕ) → b ≤ banks_of K → highest_of b < K
  symbol_below K most =
      lt_of_not-le (λ (m : K ≤ highest_of b). let up : 2 ^ K ≤ 2 ^ highest_of b = pow_mono m in omega (arith, bounds b some, up, pow_pos K))

  top : bit_xor (without_highest b) (2 ^ highest_of b) ≡ b
  top =
      xor_comm (without_highest b) (2 ^ highest_of b) ∙ ap (λ (n : ℕ). bit_xor n (without_highest b)) (sym (one-mul (2 ^ highest_of b)))
      ∙ xor_shifted 1 (highest_of b) (without_highest b) rest_below ∙ ap (λ (n : ℕ). n + without_highest b) (one-mul (2 ^ highest_of b)) ∙ rest_more

  pub rest_held : (has_symbol (without_highest b) (highest_of b) ≡ false) × ((i : ℕ) → i ≢ highest_of b → has_symbol (without_highest b) i ≡ has_symbol b i)
  rest_held = (
    lt_none (without_highest b) (highest_of b) rest_below (highest_of b) (le_refl (highest_of b)),
    λ i other. let sum : without_highest b + 2 ^ highest_of b ≡ b = omega (arith, rest_more) in
        let low = bit_at_above (without_highest b) (highest_of b) (highest_of b) rest_below (le_refl (highest_of b)) in
        ap (λ (d : ℕ). eqb d 1) (sym (bit_other (without_highest b) (highest_of b) i low other) ∙ ap (λ (n : ℕ). bit n i) sum),
  )

  -- what the code puts into it; a symbol with no packet adds nothing
  pub bank_highest : (P : ℕ) (packets : List Packet) → Sized P packets
      → xor_bytes (bank_cell P packets (without_highest b)) (get_or packets (highest_of b) (zeros P)) ≡ bank_cell P packets b
  bank_highest P packets s =
      ap (xor_bytes (bank_cell P packets (without_highest b))) (sym (cell_power P packets (highest_of b) s))
      ∙ linear P packets (without_highest b) (2 ^ highest_of b) s ∙ ap (bank_cell P packets) top

  pub bank_top : (P : ℕ) (packets : List Packet) → highest_of b < length packets → Sized P packets
      → xor_bytes (bank_cell P packets (without_highest b)) (get_or packets (highest_of b) []) ≡ bank_cell P packets b
  bank_top P packets l s =
      ap (xor_bytes (bank_cell P packets (without_highest b))) (get_or_default packets (highest_of b) [] (zeros P) l) ∙ bank_highest P packets s

-- a bank of degree two or more has a rest, and one of degree one is systematic: its number is a power of two
pub some_rest : (b : ℕ) → 2 ≤ degree_of b → (1 ≤ b) × (1 ≤ without_highest b)
some_rest b two = go (without_highest b) refl
  where
    some : 1 ≤ b
    some = omega (arith, ones_le_self b)

    go : (r : ℕ) → without_highest b ≡ r → (1 ≤ b) × (1 ≤ without_highest b)
    go zero e = absurd (omega (arith, degree_more b some, ap degree_of e, ones_le_self 0))
    go (suc r) e = (some, omega arith)

pub lower : (b : ℕ) → 2 ≤ degree_of b → (1 ≤ without_highest b) × (without_highest b < b) × (degree_of b ≡ suc (degree_of (without_highest b)))
lower b two =
    let some = some_rest b two in (some.1, omega (arith, rest_more b some.0, pow_pos (highest_of b)), degree_more b some.0)

pub degree_two : (b : ℕ) → 1 ≤ b → degree_of b ≢ 1 → 2 ≤ degree_of b
degree_two b some other = omega (arith, degree_more b some, other)

pub systematic : (b : ℕ) → 1 ≤ b → degree_of b ≡ 1 → 2 ^ highest_of b ≡ b
systematic b some one =
    let none : without_highest b ≡ 0 = zero_from_ones (without_highest b) (omega (arith, degree_more b some, one)) in
    omega (arith, rest_more b some)

pub kind : (b : ℕ) → 1 ≤ b → (degree_of b ≡ 1) ⊎ (2 ≤ degree_of b)
kind b some = go (ℕ_discrete (degree_of b) 1)
  where
    go : Dec (degree_of b ≡ 1) → (degree_of b ≡ 1) ⊎ (2 ≤ degree_of b)
    go (yes e) = inl e
    go (no n) = inr (degree_two b some n)

pub kinds : (b : ℕ) → 1 ≤ b → (2 ^ highest_of b ≡ b) ⊎ (2 ≤ degree_of b)
kinds b some = ⊎_elim (λ one. inl (systematic b some one)) inr (kind b some)

-- a group has the systematic bank of each of its symbols, and those up to the next one's
pub two_below : (K i : ℕ) → i < K → 2 ^ i + 2 ^ i ≤ 2 ^ K
two_below K i l = let up : 2 ^ suc i ≤ 2 ^ K = pow_mono l in omega (arith, pow-suc 2 i)

pub systematic_bank : (K i : ℕ) → i < K → 2 ^ i ≤ banks_of K
systematic_bank K i l = omega (arith, two_below K i l, pow_pos i)

-- a number with one symbol, and one with a symbol and others below it
pub highest_one : (i : ℕ) → (highest_of (2 ^ i) ≡ i) × (degree_of (2 ^ i) ≡ 1)
highest_one i =
    let is : highest_of (2 ^ i) ≡ i = sym (highest_is (2 ^ i) i (le_refl (2 ^ i)) (omega (arith, pow_pos i))) in
    let none : without_highest (2 ^ i) ≡ 0 = rw is (omega arith) in
    (is, omega (arith, degree_more (2 ^ i) (pow_pos i), ap degree_of none, ones_le_self 0))

pub highest_more : (i r : ℕ) → 1 ≤ r → r < 2 ^ i
    → (highest_of (2 ^ i + r) ≡ i) × (without_highest (2 ^ i + r) ≡ r) × (2 ≤ degree_of (2 ^ i + r))
highest_more i r some below =
    let is : highest_of (2 ^ i + r) ≡ i = sym (highest_is (2 ^ i + r) i (omega arith) (omega arith)) in
    let rest : without_highest (2 ^ i + r) ≡ r = rw is (omega arith) in
    let there : 1 ≤ 2 ^ i + r = omega arith in
    (is, rest, degree_two (2 ^ i + r) there (λ one. absurd (omega (arith, systematic (2 ^ i + r) there one, ap (λ (n : ℕ). 2 ^ n) is))))

-- The names of banks are made by doublings; after K of them, each bank is renamed.
use mathlib.Core.Path.{◌≡◌, sym, ap, ◌∙◌}
use mathlib.Core.Logic.{◌⊎◌, ⊎_elim}
use mathlib.Core.List.{List}
use Prim.Native.Nat.{ℕ, zero, suc, ◌+◌, ◌-◌, ◌*◌, ◌^◌, ◌≤◌, ◌<◌}
use native.Mathlib.Nat.{le_of_suc-le-suc, eq-or-lt_of_le, pow-suc}
use native.Mathlib.Numerals.{add-one}
use native.Mathlib.Omega.{arith}
use native.Mathlib.Decide.{dec_lt}
use lib.ListN.{get_or}
use lib.Pow.{pow_pos, pow_mono}
use Rattle.bits.specs.Bits.{bit}
use Rattle.bits.proofs.Bits.{bit_top}
use Rattle.simplex.specs.declared.TheConstants.{MOST_SYMBOLS, MOST_PAIRS}
use Rattle.table.specs.Renaming.{Permutes, renamed}
use Rattle.table.specs.Parts.{Named}
use Rattle.table.proofs.Permuting.{onto}
use Rattle.table.proofs.Renamed.{renamed_zero, renamed_added}

-- one doubling more
module _ (symbols names more : List ℕ) (p : ℕ) (upper : (b : ℕ) → b < 2 ^ p → get_or more (2 ^ p + b) 0 ≡ get_or names b 0 + 2 ^ get_or symbols p 0)
    (lower : (b : ℕ) → b < 2 ^ p → get_or more b 0 ≡ get_or names b 0) where
  pub named_more : Named symbols p names → Named symbols (p + 1) more
  named_more n = record { none = lower 0 (pow_pos p) ∙ n.none; more = λ q b l h. go q b h (eq-or-lt_of_le (le_of_suc-le-suc (rw add-one at l))) }
    where
      go : (q b : ℕ) → b < 2 ^ q → (q ≡ p) ⊎ (q < p) → get_or more (2 ^ q + b) 0 ≡ get_or more b 0 + 2 ^ get_or symbols q 0
      go q b h = ⊎_elim
          (λ e. let l : b < 2 ^ p = rw e at h in rw e (omega (arith, upper b l, lower b l)))
          (λ l.
          let wide : 2 ^ suc q ≤ 2 ^ p = pow_mono l in
          omega (arith, lower (2 ^ q + b) (omega (arith, pow-suc 2 q)), lower b (omega (arith, pow-suc 2 q)), n.more q b l h))

  pub small_more : get_or symbols p 0 < MOST_SYMBOLS → ((b : ℕ) → b < 2 ^ p → get_or names b 0 ≤ MOST_PAIRS * p)
      → (b : ℕ) → b < 2 ^ (p + 1) → get_or more b 0 ≤ MOST_PAIRS * (p + 1)
  small_more few small b h = go (dec_lt b (2 ^ p))
    where
      symbol : 2 ^ get_or symbols p 0 ≤ 2 ^ 4
      symbol = pow_mono {i = get_or symbols p 0} {j = 4} (omega arith)

      go : Dec (b < 2 ^ p) → get_or more b 0 ≤ MOST_PAIRS * (p + 1)
      go (yes l) = omega (arith, symbol, lower b l, small b l)
      go (no f) =
          let c : b - 2 ^ p < 2 ^ p = omega (arith, rw (add-one, pow-suc) at h) in
          let is : 2 ^ p + (b - 2 ^ p) ≡ b = omega arith in
          omega (arith, symbol, rw is at (upper (b - 2 ^ p) c), small (b - 2 ^ p) c)

-- where each symbol stands at its name, K doublings or more rename every bank of a group of K symbols
module _ {K : ℕ} {to : ℕ → ℕ} (perm : Permutes K to) (symbols names : List ℕ) (n : ℕ) (many : K ≤ n) (named : Named symbols n names)
    (back : (i : ℕ) → i < K → get_or symbols (to i) 0 ≡ i) where
  renamed_to : (p b : ℕ) → p ≤ K → b < 2 ^ p → get_or names b 0 ≡ renamed to K b
  renamed_to zero b l h = let none : b ≡ 0 = omega arith in rw none (named.none ∙ sym (renamed_zero to K))
  renamed_to (suc p) b l h = go (λ c m. renamed_to p c (omega arith) m) (dec_lt b (2 ^ p))
    where
      go : ((c : ℕ) → c < 2 ^ p → get_or names c 0 ≡ renamed to K c) → Dec (b < 2 ^ p) → get_or names b 0 ≡ renamed to K b
      go before (yes less) = before b less
      go before (no f) =
          let c : b - 2 ^ p < 2 ^ p = omega (arith, pow-suc 2 p) in
          let is : 2 ^ p + (b - 2 ^ p) ≡ b = omega arith in
          let other : b - 2 ^ p + 2 ^ p ≡ b = omega arith in
          let i = onto perm p l in
          let none : bit (b - 2 ^ p) (to i.0) ≡ 0 = rw i.2 (ap (λ (m : ℕ). bit m p) (omega arith) ∙ bit_top (b - 2 ^ p) 0 p c (omega arith)) in
          let added : renamed to K b ≡ renamed to K (b - 2 ^ p) + 2 ^ i.0 =
          rw (i.2, other) at (renamed_added to K (b - 2 ^ p) i.0 none i.1 (λ j m e. perm.apart j i.0 m i.1 e)) in
          let symbol : get_or symbols p 0 ≡ i.0 = ap (λ (q : ℕ). get_or symbols q 0) (sym i.2) ∙ back i.0 i.1 in
          rw is at (named.more p (b - 2 ^ p) (omega arith) c) ∙ rw (symbol, before (b - 2 ^ p) c) (sym added)

  pub names_renamed : (b : ℕ) → b < 2 ^ K → get_or names b 0 ≡ renamed to K b
  names_renamed b h = renamed_to K b (omega arith) h

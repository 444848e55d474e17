-- The banks that some pairs open, as marks. What is marked at 0 does not count: there is no bank 0.
use mathlib.Core.Path.{◌≡◌, sym, ap, ◌∙◌}
use mathlib.Core.Bool.{Bool, false, not, ◌&&◌, ◌||◌}
use mathlib.Core.List.{◌++◌}
use Prim.Native.Nat.{ℕ, zero, suc, ◌<◌}
use native.Mathlib.Omega.{arith}
use borrow.Author.Tests.{ne_eqb}
use lib.Dec.{eqb}
use Rattle.bits.specs.Marks.{marked}
use Rattle.bits.specs.Sets.{set_of}
use Rattle.bits.proofs.Sets.{marked_set}
use Rattle.simplex.specs.Code.{Banks}
use Rattle.audit.specs.Plan.{opens, among}

abbrev pub is_met : (set b : ℕ) → Bool
is_met set b = not (eqb b 0) && marked set b

-- Each bank is marked exactly if it is among these.
pub record Marks (set : ℕ) (banks : Banks) : Type 0 where
  pub each : (x : ℕ) → x < 64 → is_met set x ≡ among x banks

abbrev pub with_bank : (set b : ℕ) → ℕ
with_bank set b = set_of (λ x. eqb x b || marked set x) 64

put_in : (set b x : ℕ) → x < 64 → marked (with_bank set b) x ≡ (eqb x b || marked set x)
put_in set b x h = marked_set (λ y. eqb y b || marked set y) 64 x h

module _ (set : ℕ) (banks : Banks) (m : Marks set banks) where
  none : among 0 banks ≡ false
  none = sym (m.each 0 (omega arith))

  some : (x : ℕ) → suc x < 64 → marked set (suc x) ≡ among (suc x) banks
  some x h = let e = m.each (suc x) h in rw (ne_eqb (suc x) 0 (λ z. omega arith)) at e

  -- the banks of a pair put in
  pub more_pair : (a b : ℕ) → b < a → Marks (with_bank (with_bank set b) a) (opens a b ++ banks)
  more_pair a b l = record { each = at }
    where
      no_bank : (b : ℕ) → b < a → false ≡ among 0 (opens a b ++ banks)
      no_bank zero l = rw (ne_eqb 0 a (λ z. omega arith), none)
      no_bank (suc b) l = rw (ne_eqb 0 a (λ z. omega arith), ne_eqb 0 (suc b) (λ z. omega arith), none)

      both : (b x : ℕ) → suc x < 64 → (eqb (suc x) a || (eqb (suc x) b || marked set (suc x))) ≡ among (suc x) (opens a b ++ banks)
      both zero x h = rw (ne_eqb (suc x) 0 (λ z. omega arith), some x h)
      both (suc b) x h = rw (some x h)

      at : (x : ℕ) → x < 64 → is_met (with_bank (with_bank set b) a) x ≡ among x (opens a b ++ banks)
      at zero h = no_bank b l
      at (suc x) h =
          rw (ne_eqb (suc x) 0 (λ z. omega arith))
          (put_in (with_bank set b) a (suc x) h ∙ ap (λ (t : Bool). eqb (suc x) a || t) (put_in set b (suc x) h) ∙ both b x h)

-- The counts of a request vector from symbol K on: that all are 0, as a test and in words.
use mathlib.Core.Path.{◌≡◌, refl}
use mathlib.Core.Bool.{true}
use mathlib.Core.List.{List, [], ◌∷◌}
use Prim.Native.Nat.{ℕ, zero, suc, ◌≤◌}
use native.Mathlib.Omega.{arith}
use borrow.Author.Tests.{eq-eqb, eqb-true}
use lib.Dec.{eqb}
use lib.ListN.{get_or, drop}
use Rattle.refusals.proofs.Verdicts.{both}
use Rattle.audit.specs.Audit.{all_zero}

pub all_zero_lem : (K : ℕ) (counts : List ℕ) → all_zero (drop K counts) ≡ true → (i : ℕ) → K ≤ i → get_or counts i 0 ≡ 0
all_zero_lem K [] e i h = refl
all_zero_lem zero (c ∷ counts) e zero h = eqb-true c 0 ((both (eqb c 0) (all_zero counts)).0 e).0
all_zero_lem zero (c ∷ counts) e (suc i) h = all_zero_lem zero counts ((both (eqb c 0) (all_zero counts)).0 e).1 i (omega arith)
all_zero_lem (suc K) (c ∷ counts) e zero h = absurd (omega arith)
all_zero_lem (suc K) (c ∷ counts) e (suc i) h = all_zero_lem K counts e i (omega arith)

pub zero_all : (K : ℕ) (counts : List ℕ) → ((i : ℕ) → K ≤ i → get_or counts i 0 ≡ 0) → all_zero (drop K counts) ≡ true
zero_all zero [] h = refl
zero_all (suc K) [] h = refl
zero_all zero (c ∷ counts) h = rw (eq-eqb c 0 (h 0 (omega arith)), zero_all zero counts (λ i l. h (suc i) (omega arith)))
zero_all (suc K) (c ∷ counts) h = zero_all K counts (λ i l. h (suc i) (omega arith))

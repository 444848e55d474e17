-- The limit is met at K = 2: the first read gets its systematic bank alone, and the banks that are left serve the second.
use mathlib.Core.Path.{◌≡◌, refl, sym, subst}
use mathlib.Core.Logic.{◌≢◌, ⊎_elim}
use mathlib.Core.Bool.{Bool, true, not, ◌&&◌}
use mathlib.Core.List.{List, [], ◌∷◌}
use Prim.Native.Nat.{ℕ, zero, suc, ◌^◌, ◌≤◌, ◌<◌}
use native.Mathlib.Omega.{arith}
use borrow.Author.Tests.{eq-eqb}
use lib.Bits.{xor_zero_r}
use lib.Dec.{T, lit<, leb, eqb, leb→le}
use lib.Pow.{pow_pos, pow-lt}
use lib.ListN.{get_or}
use Rattle.simplex.specs.Code.{Banks, xor_of_numbers, Yields}
use Rattle.std.specs.List.{Contains}
use Rattle.simplex.specs.Limit.{reads_of, Servable, LimitMet}
use Rattle.simplex.proofs.Banks.{yields}
use Rattle.simplex.proofs.Contained.{contains_none, contains_cases, contains_one}
use Rattle.simplex.proofs.Tables.{and_left, and_right}

-- banks of a group of two symbols, and not bank x: by a test
abbrev fits : ℕ → ℕ → Bool
fits x b = leb 1 b && (leb b 3 && not (eqb x b))

abbrev without : ℕ → Banks → Bool
without x [] = true
without x (b ∷ banks) = fits x b && without x banks

fits_range : (x b : ℕ) → T (fits x b) → (1 ≤ b) × (b ≤ 3) × (x ≢ b)
fits_range x b t =
    let u : T (leb b 3 && not (eqb x b)) = and_right (leb 1 b) (leb b 3 && not (eqb x b)) t in (
      leb→le 1 b (and_left (leb 1 b) (leb b 3 && not (eqb x b)) t),
      leb→le b 3 (and_left (leb b 3) (not (eqb x b)) u),
      λ e. subst (λ (q : Bool). T (not q)) (eq-eqb x b e) (and_right (leb b 3) (not (eqb x b)) u),
    )

without_in : (x : ℕ) (banks : Banks) → T (without x banks) → (b : ℕ) → Contains banks b → (1 ≤ b) × (b ≤ 3) × (x ≢ b)
without_in x [] t b i = absurd (contains_none b i)
without_in x (c ∷ banks) t b i =
    ⊎_elim (λ (e : b ≡ c). rw e (fits_range x c (and_left (fits x c) (without x banks) t)))
    (λ (o : Contains banks b). without_in x banks (and_right (fits x c) (without x banks) t) b o) (contains_cases c banks b i)

-- the reads of symbols x and y: the first by its systematic bank, the second by the banks of t
two_sets : (P x y : ℕ) (t : Banks) → x < 2 → y < 2 → T (without (2 ^ x) t) → xor_of_numbers t ≡ 2 ^ y → Servable 2 P (x ∷ y ∷ [])
two_sets P x y t hx hy ok e = record { sets = sets; served = record { apart = record { one_each = refl; of_group = group; disjoint = disjoint }; yields = served } }
  where
    sets : List Banks
    sets = (2 ^ x ∷ []) ∷ t ∷ []

    group : (j b : ℕ) → Contains (get_or sets j []) b → (1 ≤ b) × (b ≤ 3)
    group zero b i =
        let is : b ≡ 2 ^ x = contains_one (2 ^ x) b i in
        let below : 2 ^ x < 2 ^ 2 = pow-lt hx in
        (omega (arith, pow_pos x), omega arith)
    group (suc zero) b i = let w = without_in (2 ^ x) t ok b i in (w.0, w.1)
    group (suc (suc j)) b i = absurd (contains_none b i)

    disjoint : (i j b : ℕ) → i < j → Contains (get_or sets i []) b → Contains (get_or sets j []) b → ⊥
    disjoint i zero b l p q = omega arith
    disjoint zero (suc zero) b l p q = (without_in (2 ^ x) t ok b q).2 (sym (contains_one (2 ^ x) b p))
    disjoint (suc i) (suc zero) b l p q = omega arith
    disjoint i (suc (suc j)) b l p q = contains_none b q

    served : (j : ℕ) → j < 2 → Yields 2 P (get_or sets j []) (get_or (x ∷ y ∷ []) j 0)
    served zero l = yields 2 P (2 ^ x ∷ []) x hx (xor_zero_r (2 ^ x))
    served (suc zero) l = yields 2 P t y hy e
    served (suc (suc j)) l = absurd (omega arith)

-- counts 0, 2 and 1, 1 and 2, 0
pub met : LimitMet
met P [] n t = absurd (omega arith)
met P (a ∷ []) n t = absurd (omega arith)
met P (a ∷ b ∷ c ∷ counts) n t = absurd (omega arith)
met P (zero ∷ b ∷ []) n t =
    let e : b ≡ 2 = omega arith in
    subst (λ (m : ℕ). Servable 2 P (reads_of (0 ∷ m ∷ []))) (sym e) (two_sets P 1 1 (1 ∷ 3 ∷ []) (lit< tt) (lit< tt) tt refl)
met P (suc zero ∷ b ∷ []) n t =
    let e : b ≡ 1 = omega arith in
    subst (λ (m : ℕ). Servable 2 P (reads_of (1 ∷ m ∷ []))) (sym e) (two_sets P 0 1 (2 ∷ []) (lit< tt) (lit< tt) tt refl)
met P (suc (suc zero) ∷ b ∷ []) n t =
    let e : b ≡ 0 = omega arith in
    subst (λ (m : ℕ). Servable 2 P (reads_of (2 ∷ m ∷ []))) (sym e) (two_sets P 0 0 (2 ∷ 3 ∷ []) (lit< tt) (lit< tt) tt refl)
met P (suc (suc (suc a)) ∷ b ∷ []) n t = absurd (omega arith)

-- The limit: disjoint bank sets serve at most 2^(K-1) reads of a group.
--
-- In the content whose every byte is 1, a bank holds the parity of its degree. A set whose XOR is a packet there has a bank of odd degree. Such a
-- bank is known from its number without the lowest bit, which is below 2^(K-1): so more sets than that cannot all have one.
use mathlib.Core.Path.{◌≡◌, refl, sym, ap, ap₂, ◌∙◌, subst}
use mathlib.Core.Logic.{◌≢◌, ◌⊎◌, inl, inr, ⊎_elim}
use mathlib.Core.List.{List, [], ◌∷◌, cons≢nil}
use Prim.Native.Nat.{ℕ, zero, suc, ◌/◌, ◌%◌, ◌^◌, ◌≤◌, ◌<◌}
use native.Mathlib.Nat.{eq-or-lt_of_le, lt-suc_self, le_step, le_of_suc-le-suc, not-suc-le-zero, pow-suc}
use native.Mathlib.Omega.{arith}
use lib.Pow.{pow_pos}
use lib.ListN.{length, get_or, replicate}
use Rattle.cells.specs.Xor.{zeros, xor_bytes}
use Rattle.bits.proofs.Digits.{low_lt}
use Rattle.cells.proofs.Xors.{same_bytes}
use Rattle.simplex.specs.Shape.{banks_of, limit_of, degree_of}
use Rattle.simplex.specs.Code.{Banks, xor_of_banks, Yields}
use Rattle.std.specs.List.{Contains}
use Rattle.simplex.specs.Limit.{reads_of, DisjointSets, Fails, TheLimit, LimitOfReads}
use Rattle.simplex.proofs.Parity.{all_ones, all_ones_content, cell_parity, odd_half, pow_less}
use Rattle.simplex.proofs.Pigeon.{pigeon}
use Rattle.simplex.proofs.Contained.{contains_first, contains_other}
use Rattle.simplex.proofs.Requests.{length_reads}

-- a bank of odd degree in the set
abbrev Odd : Banks → Type 0
Odd banks = (b : ℕ) × Contains banks b × (degree_of b % 2 ≡ 1)

-- the XOR of the set is zeros where every byte is 1
abbrev Blank : (K P : ℕ) → Banks → Type 0
Blank K P banks = xor_of_banks P (all_ones K P) banks ≡ zeros P

odd_or_blank : (K P : ℕ) (banks : Banks) → ((b : ℕ) → Contains banks b → b < 2 ^ K) → Odd banks ⊎ Blank K P banks
odd_or_blank K P [] h = inr refl
odd_or_blank K P (b ∷ banks) h =
    go (degree_of b % 2) refl (low_lt (degree_of b)) (odd_or_blank K P banks (λ x i. h x (contains_other b banks x i)))
  where
    go : (d : ℕ) → degree_of b % 2 ≡ d → d < 2 → Odd banks ⊎ Blank K P banks → Odd (b ∷ banks) ⊎ Blank K P (b ∷ banks)
    go zero e l (inl o) = inl (o.0, contains_other b banks o.0 o.1, o.2)
    go zero e l (inr z) = inr (ap₂ xor_bytes (cell_parity K P b (h b (contains_first b banks)) ∙ ap (replicate P) e) z ∙ same_bytes P 0 0)
    go (suc zero) e l r = inl (b, contains_first b banks, e)
    go (suc (suc d)) e l r = absurd (not-suc-le-zero (le_of_suc-le-suc (le_of_suc-le-suc l)))

-- of the first m sets one is blank, or each has a bank of odd degree
scan : (K P : ℕ) (sets : List Banks) → ((j b : ℕ) → Contains (get_or sets j []) b → b < 2 ^ K) → (m : ℕ)
    → ((j : ℕ) × (j < m) × Blank K P (get_or sets j [])) ⊎ ((j : ℕ) → j < m → Odd (get_or sets j []))
scan K P sets h zero = inr (λ j l. absurd (not-suc-le-zero l))
scan K P sets h (suc m) = go (scan K P sets h m) (odd_or_blank K P (get_or sets m []) (h m))
  where
    go : ((j : ℕ) × (j < m) × Blank K P (get_or sets j [])) ⊎ ((j : ℕ) → j < m → Odd (get_or sets j []))
        → Odd (get_or sets m []) ⊎ Blank K P (get_or sets m [])
        → ((j : ℕ) × (j < suc m) × Blank K P (get_or sets j [])) ⊎ ((j : ℕ) → j < suc m → Odd (get_or sets j []))
    go (inl t) r = inl (t.0, le_step t.1, t.2)
    go (inr f) (inr z) = inl (m, lt-suc_self m, z)
    go (inr f) (inl o) =
        inr (λ j l. ⊎_elim (λ e. subst (λ (n : ℕ). Odd (get_or sets n [])) (sym e) o) (λ k. f j k) (eq-or-lt_of_le (le_of_suc-le-suc l)))

-- a bank's half is below the limit
half_below : (K b : ℕ) → b ≤ banks_of K → 1 ≤ b → b / 2 < limit_of K
half_below zero b h l = absurd (omega arith)
half_below (suc k) b h l = omega (arith, pow-suc 2 k, pow_pos k, pow_less k)

-- more sets than the limit: one of them is blank
blank : (K P : ℕ) (reads : List ℕ) (sets : List Banks) → limit_of K < length reads → DisjointSets K reads sets
    → (j : ℕ) × (j < length reads) × Blank K P (get_or sets j [])
blank K P reads sets many d = ⊎_elim (λ t. t) (λ odd. absurd (contra odd)) (scan K P sets below (length reads))
  where
    below : (j b : ℕ) → Contains (get_or sets j []) b → b < 2 ^ K
    below j b i = omega (arith, d.of_group j b i, pow_pos K)

    contra : ((j : ℕ) → j < length reads → Odd (get_or sets j [])) → ⊥
    contra odd =
        let few : length reads ≤ limit_of K =
        pigeon (limit_of K) (length reads) (λ j h. (odd j h).0 / 2)
        (λ j h. let g = d.of_group j (odd j h).0 (odd j h).1 in half_below K (odd j h).0 g.1 g.0)
        (λ i j h l lt e. d.disjoint i j (odd i h).0 lt (odd i h).1
        (subst (λ (b : ℕ). Contains (get_or sets j []) b) (sym (odd_half (odd i h).0 (odd j l).0 (odd i h).2 (odd j l).2 e)) (odd j l).1)) in
        omega arith

-- where every byte is 1 no packet is zeros, nor is what stands past the last
not_zeros : (K P i : ℕ) → 1 ≤ P → zeros P ≢ get_or (all_ones K P) i []
not_zeros K zero i h e = absurd (not-suc-le-zero h)
not_zeros zero (suc P) i h e = cons≢nil e
not_zeros (suc K) (suc P) zero h e = let z : ◌≡◌ {A = ℕ} 0 1 = cc in omega arith
not_zeros (suc K) (suc P) (suc i) h e = not_zeros K (suc P) i h e

pub limit_of_reads : LimitOfReads
limit_of_reads K P reads positive sets many d =
    let t = blank K P reads sets many d in (
      t.0,
      t.1,
      record {
        packets = all_ones K P;
        content = all_ones_content K P;
        wrong = λ e. not_zeros K P (get_or reads t.0 0) positive (sym t.2 ∙ e);
      },
    )

pub the_limit : TheLimit
the_limit K P counts sets positive many d =
    limit_of_reads K P (reads_of counts) positive sets (subst (λ (n : ℕ). limit_of K < n) (sym (length_reads counts)) many) d

pub fails_yields : (K P : ℕ) (banks : Banks) (i : ℕ) → Fails K P banks i → Yields K P banks i → ⊥
fails_yields K P banks i f y = f.wrong (y f.packets f.content)

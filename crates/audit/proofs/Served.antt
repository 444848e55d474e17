-- A plan serves its reads, by the banks that its pairs open. So there is none past the limit.
use mathlib.Core.Path.{◌≡◌, refl, sym, ap, ◌∙◌}
use mathlib.Core.Logic.{⊎_elim}
use mathlib.Core.Bool.{Bool, true, false, false≢true}
use mathlib.Core.List.{List, [], ◌∷◌, map}
use Prim.Native.Nat.{ℕ, zero, suc, ◌≤◌, ◌<◌, suc-le-suc}
use native.Mathlib.Nat.{le_refl, lt_of_not-le}
use native.Mathlib.Omega.{arith, by_contra}
use lib.Bits.{bit_xor, xor_lt, xor_zero_r}
use lib.Pow.{pow_mono, lt_of_le_ones}
use lib.ListN.{length, get_or, length-map}
use Rattle.simplex.specs.declared.TheConstants.{MOST_SYMBOLS, MOST_PAIRS}
use Rattle.simplex.specs.Shape.{banks_of, limit_of}
use Rattle.simplex.specs.Code.{xor_of_numbers, Yields}
use Rattle.std.specs.List.{sum, Contains}
use Rattle.simplex.specs.Limit.{reads_of, ServedBy}
use Rattle.simplex.proofs.Banks.{yields}
use Rattle.simplex.proofs.Limit.{the_limit, fails_yields}
use Rattle.simplex.proofs.Contained.{contains_none, contains_one, contains_two}
use Rattle.simplex.proofs.Requests.{length_reads}
use Rattle.simplex.proofs.Tables.{limit_most}
use Rattle.audit.specs.declared.Pair.{Pair}
use Rattle.audit.specs.Plan.{no_pair, opens, opened, is_plan, Serves, pair_at, IsPlan}
use Rattle.std.proofs.lemmas.List.{get_or-map}
use Rattle.audit.specs.Laws.{AreBanks}
use Rattle.audit.proofs.Reading.{serves_at, first_to, second_to, sound}

-- ---- one pair

pub opens_xor : (a b : ℕ) → xor_of_numbers (opens a b) ≡ bit_xor a b
opens_xor a zero = refl
opens_xor a (suc b) = ap (bit_xor a) (xor_zero_r (suc b))

opens_range : (a b N x : ℕ) → b < a → a ≤ N → Contains (opens a b) x → (1 ≤ x) × (x ≤ N)
opens_range a zero N x l h i = let e = contains_one a x i in omega arith
opens_range a (suc b) N x l h i = ⊎_elim (λ e. omega arith) (λ e. omega arith) (contains_two a (suc b) x i)

in_set_lem : (pairs : List Pair) (n b : ℕ) → Contains (get_or (map opened pairs) n []) b → (n < length pairs) × Contains (opened (pair_at pairs n)) b
in_set_lem [] n b i = absurd (contains_none b i)
in_set_lem (p ∷ pairs) zero b i = (omega arith, i)
in_set_lem (p ∷ pairs) (suc n) b i = let t = in_set_lem pairs n b i in (suc-le-suc t.0, t.1)

-- ---- the sets that the pairs open, where the banks that may be used are a group's

module _ (K : ℕ) {usable : ℕ → Bool} (group : AreBanks K usable) where
  symbol_less : (i : ℕ) (p : Pair) → Serves usable i p → i < K
  symbol_less i p s =
      lt_of_not-le
      (λ (h : K ≤ i).
      omega (arith, xor_lt K p.a p.b (lt_of_le_ones K (first_to K group s)) (lt_of_le_ones K (second_to K group s)), s.differ, pow_mono h))

  pub opened_yields : (P i : ℕ) (p : Pair) → Serves usable i p → Yields K P (opened p) i
  opened_yields P i p s = yields K P (opened p) i (symbol_less i p s) (opens_xor p.a p.b ∙ s.differ)

  pub served_by : (P : ℕ) (counts : List ℕ) (pairs : List Pair) → IsPlan usable counts pairs → ServedBy K P (reads_of counts) (map opened pairs)
  served_by P counts pairs plan = record {
    apart = record {
      one_each = length-map pairs opened ∙ plan.one_each ∙ sym (length_reads counts);
      of_group = λ n b i.
          let t = in_set_lem pairs n b i in
          let s = each n t.0 in
          opens_range (pair_at pairs n).a (pair_at pairs n).b (banks_of K) b s.above (first_to K group s) t.1;
      disjoint = λ m n b l i j. let t = in_set_lem pairs n b j in plan.once m n b l t.0 (in_set_lem pairs m b i).1 t.1;
    };
    yields = λ n h.
        let l : n < length pairs = rw (plan.one_each, ← (length_reads counts)) h in
        rw (get_or-map opened pairs n no_pair [] l) (opened_yields P (get_or (reads_of counts) n 0) (pair_at pairs n) (each n l));
  }
    where
      each : (n : ℕ) → n < length pairs → Serves usable (get_or (reads_of counts) n 0) (pair_at pairs n)
      each n h = serves_at usable counts pairs plan n (rw plan.one_each at h)

  -- so there is no plan past the limit
  pub past_limit : (counts : List ℕ) (pairs : List Pair) → limit_of K < sum counts → is_plan usable counts pairs ≡ false
  past_limit counts pairs many = go (is_plan usable counts pairs) refl
    where
      go : (t : Bool) → is_plan usable counts pairs ≡ t → is_plan usable counts pairs ≡ false
      go false e = e
      go true e =
          let s = served_by 1 counts pairs (sound usable counts pairs e) in
          let t = the_limit K 1 counts (map opened pairs) (le_refl 1) many s.apart in
          absurd (fails_yields K 1 (get_or (map opened pairs) t.0 []) (get_or (reads_of counts) t.0 0) t.2 (s.yields t.0 t.1))

  pub at_most : (counts : List ℕ) (pairs : List Pair) → K ≤ MOST_SYMBOLS → is_plan usable counts pairs ≡ true → length pairs ≤ MOST_PAIRS
  at_most counts pairs h e =
      by_contra (length pairs) MOST_PAIRS
      (λ (many : MOST_PAIRS < length pairs).
      let more : limit_of K < sum counts = omega (arith, (sound usable counts pairs e).one_each, limit_most K h) in
      absurd (false≢true (sym (past_limit counts pairs more) ∙ e)))

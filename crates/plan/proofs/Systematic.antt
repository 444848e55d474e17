-- Where no symbol is read more than once, the systematic banks are a plan, and each read opens one bank.
use mathlib.Core.Path.{◌≡◌, refl, sym, ap, ◌∙◌, subst}
use mathlib.Core.Bool.{true}
use mathlib.Core.List.{List, [], ◌∷◌, map}
use Prim.Native.Nat.{ℕ, zero, suc, ◌+◌, ◌-◌, ◌^◌, ◌≤◌, ◌<◌}
use native.Mathlib.Nat.{le_refl}
use native.Mathlib.Omega.{arith, by_contra}
use borrow.Author.Tests.{le-leb, leb-true}
use lib.Bits.{xor_zero_r}
use lib.Dec.{leb}
use lib.ListN.{length, get_or, length-map}
use lib.Pow.{pow_pos, pow-lt, le_ones}
use Rattle.std.proofs.lemmas.List.{get_or-map}
use Rattle.bits.proofs.Bits.{below_power}
use Rattle.refusals.proofs.Verdicts.{both}
use Rattle.simplex.specs.Shape.{limit_of, is_bank}
use Rattle.simplex.specs.Code.{Banks}
use Rattle.std.specs.List.{sum, Contains}
use Rattle.simplex.specs.Limit.{reads_of, start}
use Rattle.simplex.proofs.Requests.{length_reads}
use Rattle.audit.specs.declared.Pair.{Pair}
use Rattle.audit.specs.Plan.{no_pair, opened, Serves, pair_at, IsPlan}
use Rattle.audit.specs.Audit.{RequestOf}
use Rattle.simplex.proofs.Contained.{contains_one}
use Rattle.audit.proofs.Reading.{serves_in}
use Rattle.audit.proofs.Places.{place_less, start_suc, start_all, read_at, Located, locate}
use Rattle.plan.specs.Systematic.{CollisionFree, collision_free, systematic_pair, systematic_plan}

-- ---- the test

pub words_free : (counts : List ℕ) → CollisionFree counts → collision_free counts ≡ true
words_free [] free = refl
words_free (c ∷ counts) free = rw (le-leb c 1 (omega (arith, free 0)), words_free counts (λ i. free (suc i)))

pub free_words : (counts : List ℕ) → collision_free counts ≡ true → CollisionFree counts
free_words [] e i = omega arith
free_words (c ∷ counts) e zero = leb-true c 1 ((both (leb c 1) (collision_free counts)).0 e).0
free_words (c ∷ counts) e (suc i) = free_words counts ((both (leb c 1) (collision_free counts)).0 e).1 i

-- ---- the plan

module _ (counts : List ℕ) where
  pub systematic_at : (i j : ℕ) → j < get_or counts i 0 → pair_at (systematic_plan counts) (start counts i + j) ≡ systematic_pair i
  systematic_at i j h =
      get_or-map systematic_pair (reads_of counts) (start counts i + j) 0 no_pair (rw length_reads (place_less counts i j h)) ∙ ap systematic_pair (read_at counts i j h)

  pub length_systematic : length (systematic_plan counts) ≡ sum counts
  length_systematic = length-map (reads_of counts) systematic_pair ∙ length_reads counts

-- at most one read of each symbol
pub start_most : (counts : List ℕ) → CollisionFree counts → (n : ℕ) → start counts n ≤ n
start_most counts free zero = le_refl 0
start_most counts free (suc n) = omega (arith, start_most counts free n, start_suc counts n, free n)

serves : (K i : ℕ) → i < K → Serves (is_bank K) i (systematic_pair i)
serves K i l = serves_in K i (systematic_pair i) (le_ones K (pow-lt l)) (pow_pos i) (xor_zero_r (2 ^ i))

-- two systematic banks that are one are of one symbol
same_symbol : (i j : ℕ) → 2 ^ i ≡ 2 ^ j → i ≡ j
same_symbol i j e =
    let up : i < j → ⊥ = λ l. omega (arith, pow-lt l) in
    let down : j < i → ⊥ = λ l. omega (arith, pow-lt l) in
    omega arith

module _ (K : ℕ) (counts : List ℕ) (request : RequestOf K counts) (free : CollisionFree counts) where
  symbol_less : (i j : ℕ) → j < get_or counts i 0 → i < K
  symbol_less i j h = by_contra (suc i) K (λ past. omega (arith, request.beyond i (omega arith)))

  -- the bank that read n opens
  bank_at : (n b : ℕ) → (t : Located counts n) → Contains (opened (pair_at (systematic_plan counts) n)) b → b ≡ 2 ^ t.symbol
  bank_at n b t i =
      contains_one (2 ^ t.symbol) b
      (subst (λ (p : Pair). Contains (opened p) b) (ap (pair_at (systematic_plan counts)) t.place ∙ systematic_at counts t.symbol t.nth t.nth_less) i)

  pub systematic_plan_lem : IsPlan (is_bank K) counts (systematic_plan counts)
  systematic_plan_lem = record {
    one_each = length_systematic counts;
    in_order = λ i j h. rw (systematic_at counts i j h) (serves K i (symbol_less i j h));
    once = λ m n b l u at-m at_n.
        let s = locate counts m (omega (arith, length_systematic counts)) in
        let t = locate counts n (omega (arith, length_systematic counts)) in
        let same = same_symbol s.symbol t.symbol (sym (bank_at m b s at-m) ∙ bank_at n b t at_n) in
        omega (arith, s.place, t.place, ap (start counts) same, s.nth_less, t.nth_less, free s.symbol, free t.symbol);
  }

  -- and K is at most 2^(K-1)
  pub few_reads : sum counts ≤ limit_of K
  few_reads = omega (arith, start_all counts K request.beyond, start_most counts free K, below_power (K - 1), request.symbols.least)

-- ---- one bank for each read

pub opened_one : (reads : List ℕ) → map opened (map systematic_pair reads) ≡ map (λ i. 2 ^ i ∷ []) reads
opened_one [] = refl
opened_one (i ∷ reads) = ap (λ (sets : List Banks). (2 ^ i ∷ []) ∷ sets) (opened_one reads)

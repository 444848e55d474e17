-- The test of a plan passes exactly the lists of pairs that are a plan in words.
use mathlib.Core.Path.{◌≡◌, refl, sym, ap, ap₂, ◌∙◌}
use mathlib.Core.Logic.{◌≢◌, ⊎_elim}
use mathlib.Core.Bool.{Bool, true, false, not, ◌&&◌, ◌||◌, false≢true}
use mathlib.Core.List.{List, [], ◌∷◌, ◌++◌}
use Prim.Native.Nat.{ℕ, zero, suc, ◌+◌, ◌^◌, ◌<◌, ◌≤◌, suc-le-suc}
use native.Mathlib.Nat.{le_of_suc-le-suc, not-suc-le-zero, suc_inj}
use native.Mathlib.Omega.{arith}
use borrow.Author.Tests.{ltb-true, eqb-true, lt-ltb, eq-eqb, ne_eqb}
use lib.Bits.{bit_xor}
use lib.Dec.{eqb}
use lib.ListN.{length, get_or}
use Rattle.std.proofs.lemmas.Cmp.{nat_eq_equiv}
use Rattle.std.proofs.lemmas.Map.Views.{list_any-from_Contains, Contains-from_any}
use Rattle.std.proofs.lemmas.List.Elements.{Contains-append_left, Contains-append_right, Contains-append_cases}
use Rattle.refusals.proofs.Verdicts.{both, between_words, words_between}
use Rattle.simplex.specs.Shape.{banks_of, is_bank}
use Rattle.simplex.specs.Code.{Banks}
use Rattle.std.specs.List.{sum, Contains}
use Rattle.simplex.specs.Limit.{reads_of, start}
use Rattle.simplex.proofs.Contained.{contains_none, contains_cases, contains_first, contains_other}
use Rattle.simplex.proofs.Requests.{length_reads}
use Rattle.audit.specs.declared.Pair.{Pair}
use Rattle.audit.specs.Plan.{opens, opened, serves, serves_all, banks_opened, among, none_twice, is_plan, Serves, pair_at, IsPlan}
use Rattle.audit.specs.Laws.{AreBanks}
use Rattle.audit.proofs.Places.{place_less, read_at, locate}

-- ---- each pair serves its read

-- where bank b is none, nothing is asked of it
none_or : (b : ℕ) (t : Bool) → (b ≢ 0 → t ≡ true) → (eqb b 0 || t) ≡ true
none_or zero t h = refl
none_or (suc b) t h = rw (ne_eqb (suc b) 0 (λ e. omega arith)) (h (λ e. omega arith))

module _ (usable : ℕ → Bool) where
  pub serves_sound : (i : ℕ) (p : Pair) → serves usable i p ≡ true → Serves usable i p
  serves_sound i p e =
      let t = simp both at e in
      record {
        first = t.0.0.0;
        second = λ some. rw (ne_eqb p.b 0 some) at t.0.0.1;
        above = ltb-true p.b p.a t.0.1;
        differ = eqb-true (bit_xor p.a p.b) (2 ^ i) t.1;
      }

  pub serves_complete : (i : ℕ) (p : Pair) → Serves usable i p → serves usable i p ≡ true
  serves_complete i p s =
      simp both (((s.first, none_or p.b (usable p.b) s.second), lt-ltb p.b p.a s.above), eq-eqb (bit_xor p.a p.b) (2 ^ i) s.differ)

  first_rest : (i : ℕ) (reads : List ℕ) (p : Pair) (pairs : List Pair) → serves_all usable (i ∷ reads) (p ∷ pairs) ≡ true
      → (serves usable i p ≡ true) × (serves_all usable reads pairs ≡ true)
  first_rest i reads p pairs e = (both (serves usable i p) (serves_all usable reads pairs)).0 e

  all_length : (reads : List ℕ) (pairs : List Pair) → serves_all usable reads pairs ≡ true → length pairs ≡ length reads
  all_length [] [] e = refl
  all_length [] (p ∷ pairs) e = absurd (false≢true e)
  all_length (i ∷ reads) [] e = absurd (false≢true e)
  all_length (i ∷ reads) (p ∷ pairs) e = ap suc (all_length reads pairs (first_rest i reads p pairs e).1)

  all_sound : (reads : List ℕ) (pairs : List Pair) → serves_all usable reads pairs ≡ true
      → (n : ℕ) → n < length reads → Serves usable (get_or reads n 0) (pair_at pairs n)
  all_sound [] pairs e n h = absurd (not-suc-le-zero h)
  all_sound (i ∷ reads) [] e n h = absurd (false≢true e)
  all_sound (i ∷ reads) (p ∷ pairs) e zero h = serves_sound i p (first_rest i reads p pairs e).0
  all_sound (i ∷ reads) (p ∷ pairs) e (suc n) h = all_sound reads pairs (first_rest i reads p pairs e).1 n (le_of_suc-le-suc h)

  all_complete : (reads : List ℕ) (pairs : List Pair) → length pairs ≡ length reads
      → ((n : ℕ) → n < length reads → Serves usable (get_or reads n 0) (pair_at pairs n)) → serves_all usable reads pairs ≡ true
  all_complete [] [] e h = refl
  all_complete [] (p ∷ pairs) e h = absurd (omega arith)
  all_complete (i ∷ reads) [] e h = absurd (omega arith)
  all_complete (i ∷ reads) (p ∷ pairs) e h =
      ap₂ ◌&&◌ (serves_complete i p (h 0 (omega arith))) (all_complete reads pairs (suc_inj e) (λ n l. h (suc n) (suc-le-suc l)))

  -- a plan in words, read by read
  pub serves_at : (counts : List ℕ) (pairs : List Pair) → IsPlan usable counts pairs
      → (n : ℕ) → n < sum counts → Serves usable (get_or (reads_of counts) n 0) (pair_at pairs n)
  serves_at counts pairs plan n h =
      let l = locate counts n h in
      rw (l.place, read_at counts l.symbol l.nth l.nth_less) (plan.in_order l.symbol l.nth l.nth_less)

-- a pair of a group's banks
pub serves_in : (K i : ℕ) (p : Pair) → p.a ≤ banks_of K → p.b < p.a → bit_xor p.a p.b ≡ 2 ^ i → Serves (is_bank K) i p
serves_in K i p most above differ = record {
  first = words_between 1 (banks_of K) p.a (omega arith, most);
  second = λ some. words_between 1 (banks_of K) p.b (omega arith, omega arith);
  above = above;
  differ = differ;
}

-- where the banks that may be used are a group's, those of a pair that serves are numbered to N
module _ (K : ℕ) {usable : ℕ → Bool} (group : AreBanks K usable) {i : ℕ} {p : Pair} (s : Serves usable i p) where
  pub first_to : p.a ≤ banks_of K
  first_to = (between_words 1 (banks_of K) p.a (group p.a s.first)).1

  pub second_to : p.b ≤ banks_of K
  second_to = omega (arith, first_to, s.above)

-- ---- no bank is opened twice

pub in_among : (b : ℕ) (banks : Banks) → Contains banks b → among b banks ≡ true
in_among b banks i = list_any-from_Contains nat_eq_equiv b banks i

pub among_in : (b : ℕ) (banks : Banks) → among b banks ≡ true → Contains banks b
among_in b banks e = Contains-from_any eqb-true b banks e

not_among : (b : ℕ) (banks : Banks) → (Contains banks b → ⊥) → among b banks ≡ false
not_among b banks h = go (among b banks) refl
  where
    go : (t : Bool) → among b banks ≡ t → among b banks ≡ false
    go true e = absurd (h (among_in b banks e))
    go false e = e

module _ (b : ℕ) where
  -- the banks that are opened, pair by pair
  opened_in : (pairs : List Pair) (n : ℕ) → n < length pairs → Contains (opened (pair_at pairs n)) b → Contains (banks_opened pairs) b
  opened_in [] n h i = absurd (not-suc-le-zero h)
  opened_in (p ∷ pairs) zero h i = Contains-append_left (opened p) (banks_opened pairs) b i
  opened_in (p ∷ pairs) (suc n) h i = Contains-append_right (opened p) (banks_opened pairs) b (opened_in pairs n (le_of_suc-le-suc h) i)

  opened_by : (pairs : List Pair) → Contains (banks_opened pairs) b → (n : ℕ) × (n < length pairs) × Contains (opened (pair_at pairs n)) b
  opened_by [] i = absurd (contains_none b i)
  opened_by (p ∷ pairs) i =
      ⊎_elim (λ j. (0, omega arith, j)) (λ j. let t = opened_by pairs j in (suc t.0, suc-le-suc t.1, t.2))
      (Contains-append_cases (opened p) (banks_opened pairs) b i)

-- the banks ys of a list with none twice have none twice, and none of those before them
rest_apart : (xs ys : Banks) → none_twice (xs ++ ys) ≡ true → (none_twice ys ≡ true) × ((b : ℕ) → Contains xs b → Contains ys b → ⊥)
rest_apart [] ys e = (e, λ b i j. contains_none b i)
rest_apart (x ∷ xs) ys e =
    let t = (both (not (among x (xs ++ ys))) (none_twice (xs ++ ys))).0 e in
    let r = rest_apart xs ys t.1 in
    let new : Contains ys x → ⊥ = λ j. false≢true (sym (ap not (in_among x (xs ++ ys) (Contains-append_right xs ys x j))) ∙ t.0) in
    (r.0, λ b i j. ⊎_elim (λ q. new (rw q at j)) (λ k. r.1 b k j) (contains_cases x xs b i))

one_more : (b : ℕ) (banks : Banks) → (Contains banks b → ⊥) → none_twice banks ≡ true → none_twice (b ∷ banks) ≡ true
one_more b banks new e = ap₂ ◌&&◌ (ap not (not_among b banks new)) e

pair_more : (a b : ℕ) (banks : Banks) → b < a → ((x : ℕ) → Contains (opens a b) x → Contains banks x → ⊥)
    → none_twice banks ≡ true → none_twice (opens a b ++ banks) ≡ true
pair_more a zero banks l apart e = one_more a banks (apart a (contains_first a [])) e
pair_more a (suc b) banks l apart e =
    one_more a (suc b ∷ banks)
    (λ i. ⊎_elim (λ q. omega arith) (apart a (contains_first a (suc b ∷ []))) (contains_cases (suc b) banks a i))
    (one_more (suc b) banks (apart (suc b) (contains_other a (suc b ∷ []) (suc b) (contains_first (suc b) []))) e)

abbrev Once : List Pair → Type 0
Once pairs = (m n b : ℕ) → m < n → n < length pairs → Contains (opened (pair_at pairs m)) b → Contains (opened (pair_at pairs n)) b → ⊥

once_sound : (pairs : List Pair) → none_twice (banks_opened pairs) ≡ true → Once pairs
once_sound [] e m n b l h i j = not-suc-le-zero h
once_sound (p ∷ pairs) e m zero b l h i j = not-suc-le-zero l
once_sound (p ∷ pairs) e zero (suc n) b l h i j =
    (rest_apart (opened p) (banks_opened pairs) e).1 b i (opened_in b pairs n (le_of_suc-le-suc h) j)
once_sound (p ∷ pairs) e (suc m) (suc n) b l h i j =
    once_sound pairs (rest_apart (opened p) (banks_opened pairs) e).0 m n b (le_of_suc-le-suc l) (le_of_suc-le-suc h) i j

once_complete : (pairs : List Pair) → ((n : ℕ) → n < length pairs → (pair_at pairs n).b < (pair_at pairs n).a) → Once pairs
    → none_twice (banks_opened pairs) ≡ true
once_complete [] above once = refl
once_complete (p ∷ pairs) above once =
    pair_more p.a p.b (banks_opened pairs) (above 0 (omega arith))
    (λ b i j. let t = opened_by b pairs j in once 0 (suc t.0) b (omega arith) (suc-le-suc t.1) i t.2)
    (once_complete pairs (λ n h. above (suc n) (suc-le-suc h)) (λ m n b l h. once (suc m) (suc n) b (suc-le-suc l) (suc-le-suc h)))

-- ---- the whole test

pub sound : (usable : ℕ → Bool) (counts : List ℕ) (pairs : List Pair) → is_plan usable counts pairs ≡ true → IsPlan usable counts pairs
unfolding is_plan
sound usable counts pairs e =
    let t = (both (serves_all usable (reads_of counts) pairs) (none_twice (banks_opened pairs))).0 e in
    record {
      one_each = all_length usable (reads_of counts) pairs t.0 ∙ length_reads counts;
      in_order = λ i j h.
          rw (read_at counts i j h) at (all_sound usable (reads_of counts) pairs t.0 (start counts i + j) (rw length_reads (place_less counts i j h)));
      once = once_sound pairs t.1;
    }

pub complete : (usable : ℕ → Bool) (counts : List ℕ) (pairs : List Pair) → IsPlan usable counts pairs → is_plan usable counts pairs ≡ true
unfolding is_plan
complete usable counts pairs plan =
    let each = serves_at usable counts pairs plan in
    ap₂ ◌&&◌
    (all_complete usable (reads_of counts) pairs (plan.one_each ∙ sym (length_reads counts)) (λ n h. each n (rw length_reads at h)))
    (once_complete pairs (λ n h. (each n (rw plan.one_each at h)).above) plan.once)

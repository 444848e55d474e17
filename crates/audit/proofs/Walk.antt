-- The audit's walk over the pairs: what it has found of those before pair n, and the banks that they open.
use mathlib.Core.Path.{◌≡◌, refl, sym, ◌∙◌}
use mathlib.Core.Logic.{◌≢◌, ⊎_elim}
use mathlib.Core.Bool.{Bool, true, false, false≢true}
use mathlib.Core.List.{List, [], ◌∷◌, ◌++◌}
use Prim.Native.Nat.{ℕ, zero, suc, ◌+◌, ◌/◌, ◌≤◌, ◌<◌}
use native.Mathlib.Nat.{not-suc-le-zero, le_of_suc-le-suc, eq-or-lt_of_le}
use native.Mathlib.Numerals.{add-one}
use native.Mathlib.Omega.{arith}
use lib.ListN.{length, get_or}
use Rattle.std.proofs.lemmas.List.Elements.{Contains-append_left, Contains-append_right, Contains-append_cases}
use Rattle.simplex.specs.Code.{Banks}
use Rattle.std.specs.List.{sum, Contains}
use Rattle.simplex.specs.Limit.{reads_of, start}
use Rattle.simplex.proofs.Contained.{contains_none, contains_first, contains_other, contains_one, contains_two}
use Rattle.audit.specs.declared.Pair.{Pair}
use Rattle.audit.specs.Plan.{opens, opened, serves, among, is_plan, Serves, pair_at, IsPlan}
use Rattle.audit.specs.Audit.{pairs_of}
use Rattle.audit.proofs.Places.{place_less, read_at}
use Rattle.audit.proofs.Reading.{serves_sound, serves_complete, serves_at, in_among, among_in, sound, complete}
use Rattle.audit.proofs.Marks.{Marks, is_met, with_bank, more_pair}
use Rattle.audit.proofs.Pairs.{length_pairs}

-- ---- the banks of a pair

pub opens_first : (a b : ℕ) → Contains (opens a b) a
opens_first a zero = contains_first a []
opens_first a (suc b) = contains_first a (suc b ∷ [])

-- bank 0 is no bank
pub opens_second : (a b : ℕ) → b ≢ 0 → Contains (opens a b) b
opens_second a zero h = absurd (h refl)
opens_second a (suc b) h = contains_other a (suc b ∷ []) (suc b) (contains_first (suc b) [])

-- what is not among these where neither bank is
off : (banks : Banks) (a b x : ℕ) → among a banks ≡ false → among b banks ≡ false → Contains (opens a b) x → among x banks ≡ false
off banks a zero x ha hb i = rw (contains_one a x i) ha
off banks a (suc b) x ha hb i = ⊎_elim (λ e. rw e ha) (λ e. rw e hb) (contains_two a (suc b) x i)

-- ---- the banks that the pairs before pair n open, those of the last first

abbrev pub met : List Pair → ℕ → Banks
met pairs zero = []
met pairs (suc n) = opened (pair_at pairs n) ++ met pairs n

module _ (b : ℕ) (pairs : List Pair) where
  met_by : (n : ℕ) → Contains (met pairs n) b → (m : ℕ) × (m < n) × Contains (opened (pair_at pairs m)) b
  met_by zero i = absurd (contains_none b i)
  met_by (suc n) i =
      ⊎_elim (λ j. (n, omega arith, j)) (λ j. let t = met_by n j in (t.0, omega (arith, t.1), t.2))
      (Contains-append_cases (opened (pair_at pairs n)) (met pairs n) b i)

  met_in : (m n : ℕ) → m < n → Contains (opened (pair_at pairs m)) b → Contains (met pairs n) b
  met_in m zero l i = absurd (not-suc-le-zero l)
  met_in m (suc n) l i =
      ⊎_elim (λ (e : m ≡ n). Contains-append_left (opened (pair_at pairs n)) (met pairs n) b (rw e at i))
      (λ (h : m < n). Contains-append_right (opened (pair_at pairs n)) (met pairs n) b (met_in m n h i)) (eq-or-lt_of_le (le_of_suc-le-suc l))

-- ---- the walk

-- serve: each of them serves the symbol of its read. once: no two open the same bank. marks: their banks are marked.
pub record Walked (usable : ℕ → Bool) (reads : List ℕ) (pairs : List Pair) (n used : ℕ) : Type 0 where
  pub serve : (m : ℕ) → m < n → Serves usable (get_or reads m 0) (pair_at pairs m)
  pub once : (l m b : ℕ) → l < m → m < n → Contains (opened (pair_at pairs l)) b → Contains (opened (pair_at pairs m)) b → ⊥
  pub marks : Marks used (met pairs n)

-- The turn of pair n, which is p and is to serve symbol i.
pub record Turn (usable : ℕ → Bool) (counts : List ℕ) (pairs : List Pair) (n used i : ℕ) (p : Pair) : Type 0 where
  pub within : n < sum counts
  pub symbol : i ≡ get_or (reads_of counts) n 0
  pub pair : p ≡ pair_at pairs n
  pub walked : Walked usable (reads_of counts) pairs n used

module _ (usable : ℕ → Bool) (counts : List ℕ) (pairs : List Pair) where
  no_plan : (IsPlan usable counts pairs → ⊥) → is_plan usable counts pairs ≡ false
  no_plan h = by (is_plan usable counts pairs) refl
    where
      by : (t : Bool) → is_plan usable counts pairs ≡ t → is_plan usable counts pairs ≡ false
      by true e = absurd (h (sound usable counts pairs e))
      by false e = e

module _ {usable : ℕ → Bool} {counts : List ℕ} {pairs : List Pair} {n used i : ℕ} {p : Pair} (t : Turn usable counts pairs n used i p) where
  pub not_served : serves usable i p ≡ false → is_plan usable counts pairs ≡ false
  not_served e =
      no_plan usable counts pairs
      (λ plan. false≢true (sym e ∙ serves_complete usable i p (rw (t.symbol, t.pair) (serves_at usable counts pairs plan n t.within))))

  open_twice : (b : ℕ) → Contains (opened p) b → among b (met pairs n) ≡ true → is_plan usable counts pairs ≡ false
  open_twice b i e =
      let m = met_by b pairs n (among_in b (met pairs n) e) in
      no_plan usable counts pairs (λ plan. plan.once m.0 n b m.1 (omega (arith, plan.one_each)) m.2 (rw t.pair at i))

  -- where it serves, with banks below 64
  module _ (e : serves usable i p ≡ true) (small : p.a < 64) where
    s : Serves usable i p
    s = serves_sound usable i p e

    first_marks : is_met used p.a ≡ among p.a (met pairs n)
    first_marks = t.walked.marks.each p.a small

    second_marks : is_met used p.b ≡ among p.b (met pairs n)
    second_marks = t.walked.marks.each p.b (omega (arith, s.above))

    pub first_met : is_met used p.a ≡ true → is_plan usable counts pairs ≡ false
    first_met m = open_twice p.a (opens_first p.a p.b) (sym first_marks ∙ m)

    pub second_met : is_met used p.b ≡ true → is_plan usable counts pairs ≡ false
    second_met m = open_twice p.b (opens_second p.a p.b (λ z. false≢true (rw z at m))) (sym second_marks ∙ m)

    pub one_more : is_met used p.a ≡ false → is_met used p.b ≡ false → Walked usable (reads_of counts) pairs (n + 1) (with_bank (with_bank used p.b) p.a)
    one_more ha hb =
        let new : (m b : ℕ) → m < n → Contains (opened (pair_at pairs m)) b → Contains (opened p) b → ⊥ =
        λ m b h i j. false≢true (sym (off (met pairs n) p.a p.b b (sym first_marks ∙ ha) (sym second_marks ∙ hb) j)
        ∙ in_among b (met pairs n) (met_in b pairs m n h i)) in
        rw (add-one n) (record {
          serve = λ m h.
              ⊎_elim (λ (q : m ≡ n). rw (q, ← t.symbol, ← t.pair) s) (λ (k : m < n). t.walked.serve m k) (eq-or-lt_of_le (le_of_suc-le-suc h));
          once = λ m o b h k i j.
              ⊎_elim (λ (q : o ≡ n). new m b (omega arith) i (rw (q, ← t.pair) at j)) (λ (r : o < n). t.walked.once m o b h r i j)
              (eq-or-lt_of_le (le_of_suc-le-suc k));
          marks = rw (← t.pair) (more_pair used (met pairs n) t.walked.marks p.a p.b s.above);
        })

module _ (usable : ℕ → Bool) (counts : List ℕ) (pairs : List Pair) where
  pub all_passed : (n used : ℕ) → length pairs ≡ sum counts → sum counts ≤ n → Walked usable (reads_of counts) pairs n used → is_plan usable counts pairs ≡ true
  all_passed n used e l w = complete usable counts pairs (record {
    one_each = e;
    in_order = λ i j h.
        rw (read_at counts i j h) at (w.serve (start counts i + j) (omega (arith, place_less counts i j h)));
    once = λ m o b h k. w.once m o b h (omega arith);
  })

pub not_as_many : (usable : ℕ → Bool) (counts bytes : List ℕ) → (length bytes / 2 ≡ sum counts → ⊥) → is_plan usable counts (pairs_of bytes) ≡ false
not_as_many usable counts bytes h = no_plan usable counts (pairs_of bytes) (λ plan. h (sym (length_pairs bytes) ∙ plan.one_each))
